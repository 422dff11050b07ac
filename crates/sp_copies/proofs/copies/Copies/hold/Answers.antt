use Rattle.std.proofs.Common.{◌≡◌, ℕ, true, arith}
use Rattle.sp_copies.specs.History.{History, is_free, with_held}
use Rattle.sp_copies.specs.Inside.{kept_in}
use Rattle.sp_copies.proofs.Changes.{held_stands}
use Rattle.sp_copies.proofs.KeptLemmas.{kept_of, of_each, of_own}
use Rattle.sp_copies.proofs.Room.{free-held}
use Rattle.sp_copies.proofs.copies.Copies.hold.Goals as goal

abbrev IsFree : ℕ → History → Type 0
IsFree copy H = is_free H copy ≡ true

pub add-requires : goal.add-requires
add-requires c =
    let G = c.self.invariant.history in
    let a = c.args in
    let free_now = of_own (IsFree a.copy)
    (kept_in c.self.inside) a.self.now c.self.view_is c.requires.free G c.self.invariant.stands in
    omega (arith, free-held G a.copy a.flow free_now, c.self.invariant.to_hold)

pub invariant_of-self : goal.invariant_of-self
invariant_of-self c =
    let k = kept_in c.self.inside in
    let G = c.self.invariant.history in
    let s = c.self.invariant.stands in
    let a = c.args in
    let free_now = of_own (IsFree a.copy) k a.self.now c.self.view_is c.requires.free G s in
    record {
      history = with_held a.copy a.flow G;
      stands = rw (c.add.ensures.items, c.count_attempt.ensures.items) (held_stands k a.copy a.flow _ G s free_now);
      to_make = c.self.invariant.to_make;
      to_count = omega (arith, c.count_attempt.ensures.room, c.self.invariant.to_count);
      to_close = c.self.invariant.to_close;
      to_hold = omega (arith, free-held G a.copy a.flow free_now, c.self.invariant.to_hold, c.add.ensures.room);
    }

pub returns-clause-held : goal.returns-clause-held
returns-clause-held c H r =
    let k = kept_in c.self.inside in
    let a = c.args in
    let free_now = of_each (IsFree a.copy) a.self.now c.requires.free H r in
    rw (c.add.ensures.items, c.count_attempt.ensures.items)
    (held_stands k a.copy a.flow _ H (kept_of k a.self.now c.self.view_is H r) free_now)
