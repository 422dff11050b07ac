use Rattle.sp_ledger.proofs.Rises.{event_least, step_rises}
use Rattle.sp_ledger.proofs.laws.the_least_refusal_is_told.Goals as goal

pub returns-clause-rise : goal.returns-clause-rise
returns-clause-rise c = step_rises

pub returns-clause-least : goal.returns-clause-least
returns-clause-least c = event_least
