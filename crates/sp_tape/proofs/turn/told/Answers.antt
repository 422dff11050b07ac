use Rattle.std.proofs.Common.{refl}
use Rattle.sp_tape.proofs.turn.told.Goals as goal

pub returns-in-Ok : goal.returns-in-Ok
returns-in-Ok c = rw c.in-Ok.is (c.first.result, c.first.ensures, refl)
