use Rattle.sp_replaylog.proofs.Suffixes.{is_longest}
use Rattle.sp_replaylog.proofs.laws.the_log_keeps_the_longest_suffix_that_fits.Goals as goal

pub returns : goal.returns
returns c = is_longest
