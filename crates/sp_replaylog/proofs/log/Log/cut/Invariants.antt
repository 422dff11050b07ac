use Rattle.std.proofs.Common.{◌≡◌, ◌≤◌, ◌+◌, length}
use Rattle.sp_replaylog.specs.Log.{longest_fitting}
use Rattle.sp_replaylog.proofs.log.Log.cut.Given as goal

-- what stays is what stays of the entries so far
abbrev pub invariant-loop-self : goal.invariant-loop-self
invariant-loop-self l = record {
  entries : longest_fitting l.bytes l.self.entries ≡ longest_fitting l.bytes l.fn.self.entries;
  enabled : l.self.enabled ≡ l.fn.self.enabled;
  maximum : l.self.maximum ≡ l.fn.self.maximum;
  kept : l.fn.self.room ≤ l.self.room;
  room : l.self.room + length l.self.entries ≡ l.fn.self.room + length l.fn.self.entries;
}

abbrev pub decreases-loop-self : goal.decreases-loop-self
decreases-loop-self l = length l.self.entries
