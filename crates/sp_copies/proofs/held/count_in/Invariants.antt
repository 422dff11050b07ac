use Rattle.std.proofs.Common.{◌≡◌, ◌++◌, take, drop}
use Rattle.sp_copies.specs.History.{attempted}
use Rattle.sp_copies.proofs.held.count_in.Given as goal

-- the rows so far are counted
abbrev pub invariant-loop-row : goal.invariant-loop-row
invariant-loop-row l = l.rows ≡ attempted l.copy (take l.row-index l.initial.rows) ++ drop l.row-index l.initial.rows
