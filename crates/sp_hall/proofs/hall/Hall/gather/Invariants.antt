use Rattle.sp_hall.proofs.Gathering.{Gathers}
use Rattle.sp_hall.proofs.hall.Hall.gather.Given as goal

abbrev pub invariant-loop-other : goal.invariant-loop-other
invariant-loop-other g l = Gathers l.initial.self l.initial.pass l.initial.others.items l.pass l.others.items

abbrev pub decreases-loop-other : goal.decreases-loop-other
decreases-loop-other g l = goal.left-loop-other g l
