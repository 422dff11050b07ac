use Rattle.sp_core.proofs.Carried.{after_none, after_some, room_kept, some_unit}
use Rattle.sp_plan.specs.Plan.{changes_of}
use Rattle.sp_core.specs.Stands.{Stands}
use Rattle.sp_ledger.specs.Step.{begun}
use Rattle.std.proofs.Common.{arith, suc, subst, sym, zero, ◌∙◌}
use Rattle.std.proofs.lemmas.Bool.{eqb-true}
use Rattle.std.specs.Prelude.{false, ℕ, ◌<◌, ◌==◌, ◌≡◌}
use Rattle.sp_core.proofs.state.Core.carry_out.Goals as goal

above_zero : (n : ℕ) → (n == 0) ≡ false → 0 < n
above_zero zero is = absurd (cc)
above_zero (suc n) is = omega arith

pub returns-then-is_empty : goal.returns-then-is_empty
returns-then-is_empty c L s =
    let none = eqb-true _ _ (sym c.is_empty.ensures ∙ c.if-is_empty.true) in
    subst (Stands c.args.self.now) (sym (after_none c.args.moment c.args.changes.items L (sym c.args.changes.ok.0 ∙ none))) s

pub begin-requires : goal.begin-requires
begin-requires c L s =
    let some = above_zero _ (sym c.is_empty.ensures ∙ c.if-is_empty.false) in
    let sized = c.args.changes.ok.0 in
    (c.requires.may L s).1 (some_unit c.args.changes.items (omega (arith, some, sized)))

pub change_all-requires-clause-room : goal.change_all-requires-clause-room
change_all-requires-clause-room c = room_kept c.args.self.now c.begin.new.self (changes_of c.args.changes.items) c.requires.room c.begin.ensures.room

pub change_all-requires-clause-may : goal.change_all-requires-clause-may
change_all-requires-clause-may c =
    let own = c.begin.ensures.stood in
    (begun c.args.moment own.ledger, c.begin.ensures.begun own.ledger own.stands, (c.requires.may own.ledger own.stands).0)

pub returns : goal.returns
returns c L s =
    let some = above_zero _ (sym c.is_empty.ensures ∙ c.if-is_empty.false) in
    let sized = c.args.changes.ok.0 in
    subst (Stands c.change_all.new.self) (sym (after_some c.args.moment c.args.changes.items L (omega (arith, some, sized))))
    (c.change_all.ensures (begun c.args.moment L) (c.begin.ensures.begun L s) (c.requires.may L s).0)
