use Rattle.std.proofs.Common.{◌≡◌, ℕ, true, arith}
use Rattle.sp_copies.specs.History.{History, is_spooled, with_closed}
use Rattle.sp_copies.specs.Inside.{kept_in}
use Rattle.sp_copies.proofs.Changes.{closed_stands}
use Rattle.sp_copies.proofs.KeptLemmas.{kept_of, of_each, of_own}
use Rattle.sp_copies.proofs.Room.{spooled-closed, free-closed}
use Rattle.sp_copies.proofs.copies.Copies.close.Goals as goal

abbrev IsOpen : ℕ → History → Type 0
IsOpen copy H = is_spooled H copy ≡ true

pub add-requires : goal.add-requires
add-requires c =
    let G = c.self.invariant.history in
    let a = c.args in
    let open_now = of_own (IsOpen a.copy)
    (kept_in c.self.inside) a.self.now c.self.view_is c.requires.spooled G c.self.invariant.stands in
    omega (arith, spooled-closed G a.copy a.how a.at open_now, c.self.invariant.to_close)

pub invariant_of-self : goal.invariant_of-self
invariant_of-self c =
    let k = kept_in c.self.inside in
    let G = c.self.invariant.history in
    let s = c.self.invariant.stands in
    let a = c.args in
    let open_now = of_own (IsOpen a.copy) k a.self.now c.self.view_is c.requires.spooled G s in
    record {
      history = with_closed a.copy a.how a.at G;
      stands = rw (c.add.ensures.items, c.let_go.ensures.items) (closed_stands k a.copy a.how a.at _ G s open_now);
      to_make = c.self.invariant.to_make;
      to_count = c.self.invariant.to_count;
      to_close = omega (
        arith,
        spooled-closed G a.copy a.how a.at open_now,
        c.self.invariant.to_close,
        c.add.ensures.room,
      );
      to_hold = omega (arith, free-closed G a.copy a.how a.at, c.self.invariant.to_hold, c.let_go.ensures.kept);
    }

pub returns-clause-closed : goal.returns-clause-closed
returns-clause-closed c H r =
    let k = kept_in c.self.inside in
    let a = c.args in
    let open_now = of_each (IsOpen a.copy) a.self.now c.requires.spooled H r in
    rw (c.add.ensures.items, c.let_go.ensures.items)
    (closed_stands k a.copy a.how a.at _ H (kept_of k a.self.now c.self.view_is H r) open_now)
