use Rattle.sp_ledger.proofs.Numbered.{restart_accepted}
use Rattle.sp_ledger.proofs.laws.a_restart_is_never_refused.Goals as goal

pub returns-clause-accepted : goal.returns-clause-accepted
returns-clause-accepted c = restart_accepted
