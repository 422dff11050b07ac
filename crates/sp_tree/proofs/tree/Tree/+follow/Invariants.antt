use Rattle.std.proofs.Common.{length}
use Rattle.sp_tree.proofs.tree.Tree.+follow.Given as goal

abbrev pub decreases-follow : goal.decreases-follow
decreases-follow l = length l.text.now
