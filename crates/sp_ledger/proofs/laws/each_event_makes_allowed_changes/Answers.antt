use Rattle.sp_ledger.proofs.Steps.{accepted_changes}
use Rattle.sp_ledger.proofs.laws.each_event_makes_allowed_changes.Goals as goal

pub returns : goal.returns
returns c = accepted_changes
