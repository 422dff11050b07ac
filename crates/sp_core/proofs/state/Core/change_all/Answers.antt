use Rattle.sp_core.proofs.Carried.{IsUnderWay, arrives, goes_on, room_first, sets_out}
use Rattle.sp_plan.specs.Plan.{change_of, changes_of}
use Rattle.sp_plan.specs.declared.change.Change.{Change}
use Rattle.std.proofs.Common.{ap, arith, refl, subst, sym, ◌∙◌}
use Rattle.std.specs.Prelude.{List, [], length, ◌∷◌, ◌≡◌}
use Rattle.std.specs.Vec.Iter.{into_iter_items}
use Rattle.sp_core.proofs.state.Core.change_all.Goals as goal

pub loop-change-init : goal.loop-change-init
loop-change-init c =
    let gives = c.into_iter-change-iterator.ensures.into_iter_gives in
    record {
      under_way = subst (λ (xs : List Change). IsUnderWay c.args.self.now (changes_of c.args.changes.items) c.args.self.now (changes_of xs)) (sym gives.0)
          (sets_out c.args.self.now (changes_of c.args.changes.items) c.requires.room c.requires.may);
      is_sized = gives.1 ∙ (c.args.changes.ok.0 ∙ ap (λ (xs : List Change). length xs) (sym gives.0));
    }

pub change-requires-clause-room : goal.change-requires-clause-room
change-requires-clause-room c =
    let way = subst (λ (xs : List Change). IsUnderWay c.args.self.now (changes_of c.args.changes.items) c.loop-change.self (changes_of xs)) c.in-Some.ensures.steps.0 c.loop-change.invariant.under_way in
    room_first c.loop-change.self (change_of c.in-Some.change) (changes_of (into_iter_items c.next.new.self)) way.room

pub change-requires-clause-may : goal.change-requires-clause-may
change-requires-clause-may c =
    let way = subst (λ (xs : List Change). IsUnderWay c.args.self.now (changes_of c.args.changes.items) c.loop-change.self (changes_of xs)) c.in-Some.ensures.steps.0 c.loop-change.invariant.under_way in
    (way.may.0, way.may.1, way.may.2.0)

pub loop-change-preserved : goal.loop-change-preserved
loop-change-preserved c =
    let step = c.in-Some.ensures.steps in
    let way = subst (λ (xs : List Change). IsUnderWay c.args.self.now (changes_of c.args.changes.items) c.loop-change.self (changes_of xs)) step.0 c.loop-change.invariant.under_way in
    let sized = c.loop-change.invariant.is_sized in
    let longer = ap (λ (xs : List Change). length xs) step.0 in
    record {
      under_way = goes_on _ _ _ _ _ _ way c.change.ensures.room c.change.ensures.changed;
      is_sized = let less = step.1 in omega (arith, sized, longer, less);
    }

none_left : (xs : List Change) → length xs ≡ 0 → xs ≡ []
none_left [] none = refl
none_left (x ∷ xs) none = absurd (omega (arith, none))

pub returns : goal.returns
returns c =
    let none = none_left (into_iter_items c.loop-change.change-iterator) (sym c.loop-change.invariant.is_sized ∙ c.in-None.ensures.steps.0) in
    arrives _ _ _ (subst (λ (xs : List Change). IsUnderWay c.args.self.now (changes_of c.args.changes.items) c.loop-change.self (changes_of xs)) none c.loop-change.invariant.under_way)
