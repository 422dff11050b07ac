use Rattle.std.proofs.Common.{◌≡◌, ◌++◌, take, drop}
use Rattle.sp_replaylog.specs.Replays.{with_step}
use Rattle.sp_replaylog.proofs.replays.go_on_among.Given as goal

-- the rows so far have gone on
abbrev pub invariant-loop-row : goal.invariant-loop-row
invariant-loop-row l =
    l.rows ≡ with_step l.endpoint l.next l.copies (take l.row-index l.initial.rows) ++ drop l.row-index l.initial.rows
