use Rattle.std.proofs.Common.{◌≡◌, length}
use Rattle.sp_chain.proofs.Tournaments.{RightBehind}
use Rattle.sp_chain.proofs.tournament.build.Given as goal

-- the last nodes are right
abbrev pub invariant-loop-back : goal.invariant-loop-back
invariant-loop-back l = (length l.inner ≡ length l.leaves) × RightBehind l.inner l.leaves l.back
