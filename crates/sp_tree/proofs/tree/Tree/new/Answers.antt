use Rattle.std.proofs.Common.{subst, sym}
use Rattle.sp_tree.specs.Nodes.{IsTree}
use Rattle.sp_tree.proofs.Trees.{empty_tree}
use Rattle.sp_tree.proofs.tree.Tree.new.Goals as goal

pub invariant_of-result : goal.invariant_of-result
invariant_of-result c = subst IsTree (sym c.new.ensures.items) empty_tree
