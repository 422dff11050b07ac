use Rattle.sp_tree.specs.Tree.{SamePairs}
use Rattle.sp_endpoint.proofs.renewal.reserve_new.Given as goal

abbrev pub invariant-loop-subscription : goal.invariant-loop-subscription
invariant-loop-subscription l = SamePairs l.initial.tree l.tree
