use Rattle.std.proofs.Common.{arith, sym}
use Rattle.sp_copies.proofs.Places.{after-place, after-none}
use Rattle.sp_copies.proofs.fates.closed_after.Goals as goal

pub returns-in-Some : goal.returns-in-Some
returns-in-Some c = omega (arith, after-place c.args.closed.now c.args.copy c.in-Some.place (sym c.in-Some.ensures))

pub returns-in-None : goal.returns-in-None
returns-in-None c = sym (after-none c.args.closed.now c.args.copy (sym c.in-None.ensures))
