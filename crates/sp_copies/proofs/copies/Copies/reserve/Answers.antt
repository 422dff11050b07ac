use Rattle.std.proofs.Common.{arith}
use Rattle.sp_copies.specs.Inside.{kept_in, spooled}
use Rattle.sp_copies.proofs.KeptLemmas.{seen_of}
use Rattle.sp_copies.proofs.Room.{free-le-spooled}
use Rattle.sp_copies.proofs.copies.Copies.reserve.Goals as goal

pub invariant_of-self-2 : goal.invariant_of-self-2
invariant_of-self-2 c =
    let G = c.self.invariant.history in
    let s = c.self.invariant.stands in
    let open_now = c.spooled.ensures G (seen_of (kept_in c.self.inside) c.args.self.now c.self.view_is G s) in
    let later = c.in_ok-later.ensures in
    record {
      history = G;
      stands = record {
        made = rw c.reserve.ensures.items s.made;
        closed = rw c.reserve-3.ensures.items s.closed;
        held = rw c.reserve-4.ensures.items s.held;
        attempts = rw c.reserve-2.ensures.items s.attempts;
        next = s.next;
        sound = s.sound;
      };
      to_make = omega (
        arith,
        c.max-self-inside.ensures,
        c.in_ok-reserve.ensures.room,
        c.reserve.ensures.kept,
        c.self.invariant.to_make,
      );
      to_count = omega (
        arith,
        c.max-self-inside.ensures,
        c.in_ok-reserve-2.ensures.room,
        c.reserve-2.ensures.kept,
        c.self.invariant.to_count,
      );
      to_close = omega (
        arith,
        c.max-self-inside.ensures,
        c.in_ok-reserve-3.ensures.room,
        c.reserve-3.ensures.kept,
        later,
        open_now,
        c.self.invariant.to_close,
      );
      to_hold = omega (
        arith,
        c.max-self-inside.ensures,
        c.in_ok-reserve-4.ensures.room,
        c.reserve-4.ensures.kept,
        later,
        open_now,
        c.self.invariant.to_hold,
        free-le-spooled G,
      );
    }
