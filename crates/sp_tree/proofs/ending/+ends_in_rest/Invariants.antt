use Rattle.std.proofs.Common.{length}
use Rattle.sp_tree.proofs.ending.+ends_in_rest.Given as goal

abbrev pub decreases-ends_in_rest : goal.decreases-ends_in_rest
decreases-ends_in_rest l = length l.text.now
