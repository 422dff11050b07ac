use Rattle.sp_ledger.proofs.Answered.{accepted_balanced, answer_balanced, idle_balanced}
use Rattle.sp_ledger.proofs.Fits.{tally_small}
use Rattle.sp_ledger.proofs.Tallies.{tally_balanced}
use Rattle.sp_ledger.proofs.laws.each_tally_is_balanced.Goals as goal

pub returns-clause-balanced : goal.returns-clause-balanced
returns-clause-balanced c = tally_balanced

pub returns-clause-answered : goal.returns-clause-answered
returns-clause-answered c = answer_balanced

pub returns-clause-small : goal.returns-clause-small
returns-clause-small c = tally_small

pub returns-clause-accepted : goal.returns-clause-accepted
returns-clause-accepted c = λ L moment caller event told. accepted_balanced L moment caller event told

pub returns-clause-idle : goal.returns-clause-idle
returns-clause-idle c = λ L moment caller event told. idle_balanced L moment caller event told
