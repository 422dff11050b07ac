use Rattle.std.proofs.Common.{◌≡◌}
use Rattle.sp_hall.proofs.tests.call_often.Given as goal

abbrev pub invariant-loop : goal.invariant-loop
invariant-loop g l = (l.pass.hall ≡ l.fn.pass.hall) × (l.pass.parts ≡ l.fn.pass.parts)
