use Rattle.sp_ledger.proofs.InOrder.{accepted_in_order, idle_in_order}
use Rattle.sp_ledger.proofs.laws.each_partition_is_handed_out_in_order.Goals as goal

pub returns-clause-accepted : goal.returns-clause-accepted
returns-clause-accepted c = λ L s moment caller event told M e. accepted_in_order L s moment caller event told M e

pub returns-clause-idle : goal.returns-clause-idle
returns-clause-idle c = λ L s moment caller event told e. idle_in_order L s moment caller event told e
