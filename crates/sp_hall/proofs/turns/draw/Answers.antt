use Rattle.std.proofs.Common.{arith}
use Rattle.sp_hall.proofs.Draws.{draws}
use Rattle.sp_hall.proofs.turns.draw.Goals as goal

pub fetch_add-requires : goal.fetch_add-requires
fetch_add-requires g c =
    let words = c.requires.hall.1.0 in
    (c.requires.hall.0, omega arith, draws g.O.Object.shows _ _ _ _ c.requires.idle.0 c.requires.idle.1)
