use Rattle.sp_base.specs.Declined.{Obeys}
use Rattle.sp_base.specs.declared.declined.Declined.{Declined}
use Rattle.sp_base.specs.declared.declined.EventRefusal.{EventRefusal}
use Rattle.sp_core.proofs.Prepared.{prepares_declined, prepares_ready}
use Rattle.sp_core.specs.Decided.{Prepares, ReadyState, verdict}
use Rattle.sp_core.specs.Stands.{Stands}
use Rattle.sp_event.specs.declared.request.Event.{Event}
use Rattle.sp_ledger.specs.Events.{step}
use Rattle.sp_ledger.specs.Ledger.{Ledger}
use Rattle.sp_ledger.specs.Step.{begun}
use Rattle.std.proofs.Common.{ap, get_or, subst, sym, ◌∙◌}
use Rattle.std.specs.Prelude.{Err, List, Ok, ◌≡◌}
use Rattle.sp_core.proofs.state.Core.prepare.Goals as goal

pub returns-in_ok-make_ready-in-Ok : goal.returns-in_ok-make_ready-in-Ok
returns-in_ok-make_ready-in-Ok c event is =
    let first : c.index-unit-0.result ≡ event =
    c.index-unit-0.is ∙ ap (λ (es : List Event). get_or es 0 c.index-unit-0.result) is in
    let planned : (L : Ledger) → Stands c.args.self.now L → verdict L (step c.args.from.now event (begun c.args.now L)) ≡ Ok c.in-Ok.plan =
    λ L s. subst (λ (e : Event). verdict L (step c.args.from.now e (begun c.args.now L)) ≡ Ok c.in-Ok.plan) first (c.in-Ok.ensures L s) in
    subst (λ (r : ReadyState). Prepares c.args.self.now c.make_ready.new.self c.args.now c.args.from.now event (Ok r))
    (sym c.in_ok-make_ready-in-Ok.ensures.ready)
    (prepares_ready c.args.self.now c.make_ready.new.self c.make_ready.ensures.same c.args.now c.args.from.now event c.in-Ok.plan c.requires.caller planned
    c.in_ok-make_ready-in-Ok.ensures.number c.in_ok-make_ready-in-Ok.ensures.room)

pub returns-in-Err : goal.returns-in-Err
returns-in-Err c event is =
    let first : c.index-unit-0.result ≡ event =
    c.index-unit-0.is ∙ ap (λ (es : List Event). get_or es 0 c.index-unit-0.result) is in
    let obeys : (L : Ledger) → Stands c.args.self.now L → Obeys (verdict L (step c.args.from.now event (begun c.args.now L))) (Err c.in-Err.declined) =
    λ L s. subst (λ (e : Event). Obeys (verdict L (step c.args.from.now e (begun c.args.now L))) (Err c.in-Err.declined)) first
    (subst (Obeys (verdict L (step c.args.from.now c.index-unit-0.result (begun c.args.now L)))) c.in-Err.is (c.decide.ensures L s)) in
    subst (λ (d : Declined EventRefusal). Prepares c.args.self.now c.args.self.now c.args.now c.args.from.now event (Err d)) (sym c.of_first.ensures)
    (prepares_declined c.args.self.now c.args.now c.args.from.now event c.in-Err.declined obeys)
