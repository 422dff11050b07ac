use Rattle.sp_selector.proofs.Answered.{fault_is_bad, no_fault, tree_derived, tree_read}
use Rattle.sp_selector.proofs.OnePlace.{one_place}
use Rattle.sp_selector.proofs.selector.reading_is_by_the_grammar.Goals as goal

pub returns-clause-derived : goal.returns-clause-derived
returns-clause-derived c = tree_derived

pub returns-clause-read : goal.returns-clause-read
returns-clause-read c = tree_read

pub returns-clause-form : goal.returns-clause-form
returns-clause-form c = no_fault

pub returns-clause-fault : goal.returns-clause-fault
returns-clause-fault c = fault_is_bad

pub returns-clause-place : goal.returns-clause-place
returns-clause-place c = one_place
