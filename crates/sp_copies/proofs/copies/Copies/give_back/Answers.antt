use Rattle.std.proofs.Common.{◌≡◌, ℕ, true, arith}
use Rattle.sp_copies.specs.History.{History, is_held, with_given_back}
use Rattle.sp_copies.specs.Inside.{kept_in}
use Rattle.sp_copies.proofs.Changes.{given_back_stands}
use Rattle.sp_copies.proofs.KeptLemmas.{kept_of, of_own}
use Rattle.sp_copies.proofs.Marks.{one-let-go}
use Rattle.sp_copies.proofs.Room.{free-given_back}
use Rattle.sp_copies.proofs.copies.Copies.give_back.Goals as goal

abbrev IsTaken : ℕ → History → Type 0
IsTaken copy H = is_held H.held copy ≡ true

pub invariant_of-self : goal.invariant_of-self
invariant_of-self c =
    let k = kept_in c.self.inside in
    let G = c.self.invariant.history in
    let s = c.self.invariant.stands in
    let copy = c.args.copy in
    let held_now = of_own (IsTaken copy) k c.args.self.now c.self.view_is c.requires.held G s in
    let room = rw (c.let_go.ensures.items, s.held) at c.let_go.ensures.room in
    record {
      history = with_given_back copy G;
      stands = rw c.let_go.ensures.items (given_back_stands k copy _ G s);
      to_make = c.self.invariant.to_make;
      to_count = c.self.invariant.to_count;
      to_close = c.self.invariant.to_close;
      to_hold =
          omega (arith, free-given_back G copy s.sound, c.self.invariant.to_hold, room, one-let-go G.held copy held_now);
    }

pub returns-clause-given_back : goal.returns-clause-given_back
returns-clause-given_back c H r =
    let k = kept_in c.self.inside in
    rw c.let_go.ensures.items (given_back_stands k c.args.copy _ H (kept_of k c.args.self.now c.self.view_is H r))
