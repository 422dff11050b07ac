use Rattle.std.proofs.Common.{arith}
use Rattle.sp_hall.proofs.Moves.{looks}
use Rattle.sp_hall.proofs.turns.look.Goals as goal

pub load-requires : goal.load-requires
load-requires g c =
    let hall = c.requires.hall in
    let words = hall.1.0 in
    let waits = c.requires.waits in
    (hall.0, omega arith, looks g.O.Object.shows _ _ _ _ waits.drawn waits.turn waits.part waits.carries hall.1.1)
