use Rattle.std.proofs.Common.{◌≡◌, drop}
use Rattle.sp_rest.specs.Publish.Headers.{has_twice}
use Rattle.sp_rest.proofs.publish.headers.has_twice.Given as goal

abbrev pub invariant-loop-i : goal.invariant-loop-i
invariant-loop-i l = has_twice (drop l.i l.fields) ≡ has_twice l.fields
