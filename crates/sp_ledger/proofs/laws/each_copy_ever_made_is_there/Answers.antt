use Rattle.sp_ledger.proofs.Whole.{empty_whole, outcome_whole}
use Rattle.sp_ledger.proofs.laws.each_copy_ever_made_is_there.Goals as goal

pub returns-clause-empty : goal.returns-clause-empty
returns-clause-empty c = λ next first. empty_whole first

pub returns-clause-kept : goal.returns-clause-kept
returns-clause-kept c = outcome_whole
