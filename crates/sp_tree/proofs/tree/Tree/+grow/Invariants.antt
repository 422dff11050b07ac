use Rattle.std.proofs.Common.{length}
use Rattle.sp_tree.proofs.tree.Tree.+grow.Given as goal

abbrev pub decreases-grow : goal.decreases-grow
decreases-grow l = length l.text.now
