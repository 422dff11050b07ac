use Rattle.std.proofs.Common.{length}
use Rattle.sp_topic.proofs.matching.+texts_match.Given as goal

abbrev pub decreases-texts_match : goal.decreases-texts_match
decreases-texts_match l = length l.subscription.now
