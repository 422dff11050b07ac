use Rattle.std.proofs.Common.{sym}
use Rattle.sp_journal.proofs.OneFate.{ends_sound, ends_version}
use Rattle.sp_journal.proofs.OneReading.{one_place, unborn_ends}
use Rattle.sp_journal.proofs.laws.ends_are_sound.Goals as goal

pub returns : goal.returns
returns c file units place ends = (
  λ others other also. sym (one_place units others place other file ends also),
  λ at damaged. ends_sound units place at file ends damaged,
  λ found other. ends_version units place found file ends other,
  λ unborn. unborn_ends units place file unborn ends,
)
