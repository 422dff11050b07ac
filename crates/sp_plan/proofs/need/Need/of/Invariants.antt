use Rattle.sp_plan.specs.Plan.{changes_of, need_of_all}
use Rattle.std.proofs.Common.{take, ◌≡◌}
use Rattle.sp_plan.proofs.need.Need.of.Given as goal

abbrev pub invariant-loop-change : goal.invariant-loop-change
invariant-loop-change l = l.need ≡ need_of_all (changes_of (take l.change-index l.changes))
