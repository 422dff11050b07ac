use Rattle.sp_ledger.proofs.Units.{event_later, one_unit}
use Rattle.sp_ledger.proofs.laws.each_event_is_one_unit.Goals as goal

pub returns-clause-unit : goal.returns-clause-unit
returns-clause-unit c = one_unit

pub returns-clause-numbers : goal.returns-clause-numbers
returns-clause-numbers c = event_later
