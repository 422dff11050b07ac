use Rattle.sp_ledger.proofs.Answered.{answer_shows}
use Rattle.sp_ledger.proofs.Telling.{accepted_tells, idle_tells}
use Rattle.sp_ledger.proofs.laws.each_fate_that_is_told_is_so.Goals as goal

pub returns-clause-accepted : goal.returns-clause-accepted
returns-clause-accepted c = accepted_tells

pub returns-clause-idle : goal.returns-clause-idle
returns-clause-idle c = idle_tells

pub returns-clause-answered : goal.returns-clause-answered
returns-clause-answered c = answer_shows
