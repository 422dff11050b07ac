use Rattle.sp_ledger.specs.OnCopies.{is_named}
use Rattle.sp_plan.proofs.Taken.{AreTaken}
use Rattle.sp_ending.proofs.plans.first_named.Given as goal

abbrev pub invariant-loop-own : goal.invariant-loop-own
invariant-loop-own l = AreTaken (is_named l.copy) l.copies l.own-index l.most l.named.items
