use Rattle.sp_selector.specs.Tree.{expression}
use Rattle.sp_selector.proofs.Answered.{bad_is, bad_place, fault_none, fault_some, no_tree}
use Rattle.sp_selector.proofs.Selectors.{selector_sound}
use Rattle.sp_selector.proofs.selector.Selector.read.Goals as goal

pub of_tree-requires : goal.of_tree-requires
of_tree-requires c = selector_sound c.args.text.now (expression c.in-Ok.tree) c.in-Ok.ensures

pub returns-in-Err-clause-bad : goal.returns-in-Err-clause-bad
returns-in-Err-clause-bad c at h = fault_some c.args.text.now at (bad_is expression c.args.text.now c.in-Err.e at c.in-Err.ensures (cc))

pub returns-in-Err-clause-none : goal.returns-in-Err-clause-none
returns-in-Err-clause-none c at e h is = no_tree c.args.text.now at e (bad_is expression c.args.text.now c.in-Err.e at c.in-Err.ensures (cc)) is

pub returns-in-Err-clause-place : goal.returns-in-Err-clause-place
returns-in-Err-clause-place c at h = bad_place c.args.text.now at (bad_is expression c.args.text.now c.in-Err.e at c.in-Err.ensures (cc))

pub returns-in_ok-of_tree-in-Ok-clause-form : goal.returns-in_ok-of_tree-in-Ok-clause-form
returns-in_ok-of_tree-in-Ok-clause-form c = fault_none c.args.text.now (expression c.in-Ok.tree) c.in-Ok.ensures
