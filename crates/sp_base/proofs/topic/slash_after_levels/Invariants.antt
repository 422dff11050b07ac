use Rattle.std.proofs.Common.{◌≡◌, ◌≤◌, ◌<◌, take}
use Rattle.std.specs.Prelude.{◌==◌, count_by}
use Rattle.sp_base.proofs.topic.slash_after_levels.Given as goal

abbrev pub invariant-loop-at : goal.invariant-loop-at
invariant-loop-at l = record {
  counted : l.slashes ≡ count_by (λ b. b == 47) (take l.at l.bytes);
  few : l.slashes < l.count;
  some : l.slashes ≤ l.at;
}
