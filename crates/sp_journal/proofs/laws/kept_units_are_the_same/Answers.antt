use Rattle.sp_journal.proofs.OneReading.{kept_units, kept_units_back}
use Rattle.sp_journal.proofs.laws.kept_units_are_the_same.Goals as goal

pub returns : goal.returns
returns c old new units keeps = (kept_units units old new keeps, kept_units_back units old new keeps)
