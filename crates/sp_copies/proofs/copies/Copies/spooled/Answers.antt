use Rattle.std.proofs.Common.{arith, ap, length}
use Rattle.sp_copies.specs.Inside.{kept_in}
use Rattle.sp_copies.proofs.KeptLemmas.{kept_of}
use Rattle.sp_copies.proofs.Tallied.{spooled-and-closed}
use Rattle.sp_copies.proofs.copies.Copies.spooled.Goals as goal

pub overflow_sub-result : goal.overflow_sub-result
overflow_sub-result c =
    let s = c.self.invariant.stands in
    let within = spooled-and-closed c.self.invariant.history s.sound in
    omega (arith, within, ap length s.made, ap length s.closed)

pub returns : goal.returns
returns c H r =
    let s = kept_of (kept_in c.self.inside) c.args.self.now c.self.view_is H r in
    let within = spooled-and-closed H r.sound in
    omega (arith, within, ap length s.made, ap length s.closed)
