use Rattle.std.proofs.lemmas.List.Edits.{map_over_more}
use Rattle.sp_replaylog.proofs.Running.{after}
use Rattle.sp_replaylog.proofs.replays.go_on_among.Goals as goal

pub loop-row-preserved : goal.loop-row-preserved
loop-row-preserved c =
    rw (c.after_step.ensures, ← c.row-item.is)
    (map_over_more (after c.args.endpoint c.args.next c.args.copies) c.args.rows.now c.loop-row.rows c.loop-row.row-index c.row-item.result
    c.loop-row-test.true c.loop-row.invariant c.row-item.is)
