use Rattle.std.proofs.Common.{◌≡◌, ◌≤◌, ℕ}
use Rattle.sp_tape.specs.Gathering.{IsBegun, read_so_far}
use Rattle.sp_tape.specs.Reading.{Reads, IsReadWhileUnfinished}
use Rattle.sp_tape.proofs.body.gather.Given as goal

abbrev pub invariant-loop : goal.invariant-loop
invariant-loop g l =
    let start = read_so_far l.head l.fn.body.items l.fn.waiting.items in
    let read = read_so_far l.head l.body.items l.waiting.items in
    record {
      begun : IsBegun l.head l.used l.body.items l.waiting.items;
      reads : Reads (g.S.Source.left l.fn.source) (g.S.Source.left l.source) start read;
      no_further : (room : ℕ) → l.used ≤ room → IsReadWhileUnfinished room start → IsReadWhileUnfinished room read;
      same : g.S.Source.faults l.source ≡ g.S.Source.faults l.fn.source;
    }
