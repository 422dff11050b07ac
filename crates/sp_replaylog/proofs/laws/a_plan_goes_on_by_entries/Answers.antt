use Rattle.sp_replaylog.proofs.Plans.{by_first, none_beyond}
use Rattle.sp_replaylog.proofs.laws.a_plan_goes_on_by_entries.Goals as goal

pub returns-clause-first : goal.returns-clause-first
returns-clause-first c = by_first

pub returns-clause-end : goal.returns-clause-end
returns-clause-end c = none_beyond
