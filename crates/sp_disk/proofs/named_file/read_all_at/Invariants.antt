use Rattle.std.proofs.Common.{length, ◌-◌, ◌≤◌}
use Rattle.sp_disk.proofs.named_file.read_all_at.Given as goal

abbrev pub invariant-loop-filled : goal.invariant-loop-filled
invariant-loop-filled l = l.filled ≤ length l.into

abbrev pub decreases-loop-filled : goal.decreases-loop-filled
decreases-loop-filled l = length l.into - l.filled
