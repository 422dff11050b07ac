use Rattle.sp_ledger.proofs.Empty.{empty_sound}
use Rattle.sp_ledger.proofs.laws.the_empty_ledger_is_sound.Goals as goal

pub returns : goal.returns
returns c = empty_sound
