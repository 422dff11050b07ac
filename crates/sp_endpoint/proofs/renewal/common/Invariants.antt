use Rattle.std.proofs.Common.{◌≡◌, ◌≤◌, ◌-◌, length, take}
use Rattle.sp_endpoint.proofs.renewal.common.Given as goal

abbrev pub invariant-loop-same : goal.invariant-loop-same
invariant-loop-same l = (l.same ≤ length l.from) × (l.same ≤ length l.to) × (take l.same l.from ≡ take l.same l.to)

abbrev pub decreases-loop-same : goal.decreases-loop-same
decreases-loop-same l = length l.from - l.same
