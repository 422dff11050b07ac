use Rattle.std.proofs.Common.{◌∙◌, Err, subst, sym}
use Rattle.sp_base.specs.declared.declined.Declined.{Declined}
use Rattle.sp_base.specs.declared.declined.EventRefusal.{EventRefusal}
use Rattle.sp_core.specs.Decided.{Prepares}
use Rattle.sp_core.specs.Stands.{Stands}
use Rattle.sp_ledger.specs.Ledger.{Ledger}
use Rattle.sp_store.proofs.TakenIn.{accepted_then, idle_is_none, one_of, refused_is_none}
use Rattle.sp_store.specs.Units.{Accepts}
use Rattle.sp_unit.specs.Inside.{view_of}
use Rattle.sp_unit.specs.UnitBytes.{UnitView}
use Rattle.sp_store.proofs.fold.take_in.Goals as goal

pub returns-then-idle : goal.returns-then-idle
returns-then-idle c L s =
    let unit : UnitView = view_of c.unit.inside in
    subst (λ (u : UnitView). (M : Ledger) → Accepts u L M → ⊥) c.unit.view_is
    (idle_is_none c.args.core.now c.prepare.new.self unit L s c.in-Ok.ready
    (λ event one. c.in-Ok.ensures event (c.as_slice-events.ensures ∙ one))
    (λ event one.
    let p = c.in-Ok.ensures event (c.as_slice-events.ensures ∙ one) in
    sym (c.idle.ensures c.prepare.new.self unit.caller event p.ready L (p.same.forth L s)) ∙ c.if-idle.true))

pub apply-requires : goal.apply-requires
apply-requires c =
    let e = one_of c.unit.inside.events c.unit.invariant.1 in
    (c.unit.inside.caller, e.0, (c.in-Ok.ensures e.0 (c.as_slice-events.ensures ∙ e.1)).ready)

pub returns-in-Ok : goal.returns-in-Ok
returns-in-Ok c L s =
    let unit : UnitView = view_of c.unit.inside in
    let e = one_of c.unit.inside.events c.unit.invariant.1 in
    let p = c.in-Ok.ensures e.0 (c.as_slice-events.ensures ∙ e.1) in
    let stands = p.same.forth L s in
    let isnt = sym (c.idle.ensures c.prepare.new.self unit.caller e.0 p.ready L stands) ∙ c.if-idle.false in
    subst (λ (u : UnitView). (M : Ledger) × Accepts u L M × Stands c.apply.new.self M) c.unit.view_is
    (accepted_then c.args.core.now c.prepare.new.self unit L s e.0 e.1 c.in-Ok.ready.moment p.at c.apply.new.self
    c.apply.result.items isnt (c.apply.ensures unit.caller e.0 p.ready L stands))

pub returns-in-Err-Refused : goal.returns-in-Err-Refused
returns-in-Err-Refused c L s =
    let unit : UnitView = view_of c.unit.inside in
    subst (λ (u : UnitView). (M : Ledger) → Accepts u L M → ⊥) c.unit.view_is
    (refused_is_none c.args.core.now c.prepare.new.self unit L s _
    (λ event one.
    subst (λ (d : Declined EventRefusal). Prepares c.args.core.now c.prepare.new.self unit.moment unit.caller event (Err d))
    c.in-Err-Refused.field-0-is (c.in-Err-Refused.ensures event (c.as_slice-events.ensures ∙ one))))
