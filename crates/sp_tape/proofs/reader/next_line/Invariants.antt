use Rattle.std.proofs.Common.{◌≡◌, ◌≤◌, ℕ, length}
use Rattle.sp_tape.specs.Reading.{Reads, IsReadWhileUnfinished, longest_read}
use Rattle.sp_tape.proofs.reader.next_line.Given as goal

abbrev pub invariant-loop : goal.invariant-loop
invariant-loop g l = record {
  reads : Reads (g.S.Source.left l.fn.source) (g.S.Source.left l.source) l.fn.waiting.items l.waiting.items;
  no_further : (room : ℕ) → length l.fn.waiting.items ≤ longest_read → IsReadWhileUnfinished room l.waiting.items;
  same : g.S.Source.faults l.source ≡ g.S.Source.faults l.fn.source;
}
