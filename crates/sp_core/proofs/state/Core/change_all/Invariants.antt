use Rattle.sp_core.proofs.Carried.{IsUnderWay}
use Rattle.sp_plan.specs.Plan.{changes_of}
use Rattle.std.specs.Prelude.{length, ◌≡◌}
use Rattle.std.specs.Vec.Iter.{into_iter_items, into_iter_len}
use Rattle.sp_core.proofs.state.Core.change_all.Given as goal

-- on the way through the changes, and the iterator is as long as it says
pub record Goes (way : Type 0) (sized : Type 0) : Type 0 where
  pub under_way : way
  pub is_sized : sized

abbrev pub invariant-loop-change : goal.invariant-loop-change
invariant-loop-change l =
    Goes (IsUnderWay l.initial.self (changes_of l.fn.changes.items) l.self (changes_of (into_iter_items l.change-iterator)))
    (into_iter_len l.change-iterator ≡ length (into_iter_items l.change-iterator))
