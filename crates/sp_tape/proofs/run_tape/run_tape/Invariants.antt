use Rattle.std.proofs.Common.{◌≡◌, ◌≤◌}
use Rattle.sp_ledger.specs.Sound.{IsLedger}
use Rattle.sp_tape.specs.Serves.{IsIn}
use Rattle.sp_tape.specs.State.{RunState}
use Rattle.sp_tape.proofs.Exits.{Between}
use Rattle.sp_tape.proofs.run_tape.run_tape.Given as goal

abbrev pub invariant-loop-number : goal.invariant-loop-number
invariant-loop-number g l = record {
  between : (start : RunState) → IsIn g.D.Disk.tells g.D.Disk.content g.D.Disk.may_leave start l.fn.store → IsLedger start.ledger
      → Between g.D.Disk.tells g.D.Disk.content g.D.Disk.may_leave g.D.Disk.moment g.D.Disk.left_since g.D.Disk.faults g.met.D.Disk.only_now g.met.D.Disk.counts_now l.fn.store.disk l.most start
      (g.S.Source.left l.fn.source) (g.S.Source.left l.source) (g.K.Sink.written l.fn.sink) (g.K.Sink.written l.sink)
      l.waiting.items l.number l.offset l.store;
  later : g.D.Disk.faults l.fn.store.disk ≤ g.D.Disk.faults l.store.disk;
  source_same : g.S.Source.faults l.source ≡ g.S.Source.faults l.fn.source;
  sink_same : g.K.Sink.faults l.sink ≡ g.K.Sink.faults l.fn.sink;
}
