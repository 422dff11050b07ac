use Rattle.std.proofs.Common.{◌≡◌, drop}
use Rattle.sp_rest.specs.Wire.Targets.{is_in_target}
use Rattle.sp_rest.proofs.wire.completion.ends_in_target.Given as goal

abbrev pub invariant-loop-i : goal.invariant-loop-i
invariant-loop-i l = is_in_target (drop l.i l.bytes) ≡ is_in_target l.bytes
