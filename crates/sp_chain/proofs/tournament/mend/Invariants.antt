use Rattle.std.proofs.Common.{◌≡◌, ◌<◌, length}
use Rattle.sp_chain.specs.Tournament.{IsRightBut}
use Rattle.sp_chain.proofs.tournament.mend.Given as goal

-- all nodes are right but this one
abbrev pub invariant-loop-at : goal.invariant-loop-at
invariant-loop-at l =
    (length l.inner ≡ length l.leaves) × (l.at < length l.leaves) × IsRightBut l.inner l.leaves l.at

abbrev pub decreases-loop-at : goal.decreases-loop-at
decreases-loop-at l = l.at
