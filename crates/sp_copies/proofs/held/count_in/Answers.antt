use Rattle.std.proofs.Common.{◌+◌, ◌-◌, ◌^◌, ◌==◌, min, if◌then◌else◌}
use Rattle.std.proofs.lemmas.List.Edits.{map_over_more}
use Rattle.sp_copies.specs.declared.held.CopyAttempts.{CopyAttempts}
use Rattle.sp_copies.proofs.held.count_in.Goals as goal

pub loop-row-preserved : goal.loop-row-preserved
loop-row-preserved c =
    rw (c.counted.ensures, ← c.row-item.is)
    (map_over_more (λ (a : CopyAttempts). if a.copy ==
    c.args.copy then record a {
      count = min (a.count + 1)
          (2 ^ 64 - 1);
    } else a) c.args.rows.now c.loop-row.rows c.loop-row.row-index c.row-item.result
    c.loop-row-test.true c.loop-row.invariant c.row-item.is)
