use Rattle.std.proofs.Common.{◌≡◌, ◌&&◌, not, take}
use Rattle.sp_copies.specs.History.{has_come, is_closed, is_held}
use Rattle.sp_copies.proofs.Deadlines.{ordered_to}
use Rattle.sp_copies.proofs.due.due.Given as goal

-- the first of the copies so far
abbrev pub invariant-loop-copy : goal.invariant-loop-copy
invariant-loop-copy l =
    l.first.items ≡ take l.most (ordered_to (λ c. not (is_closed l.closed c.number) && not
    (is_held l.held c.number) && has_come c.deadline l.moment) l.made l.copy-index)
