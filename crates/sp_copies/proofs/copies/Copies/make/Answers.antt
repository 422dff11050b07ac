use Rattle.std.proofs.Common.{◌≤◌, ◌<◌, ℕ, ◌+◌, ◌^◌, arith}
use Rattle.sp_copies.specs.History.{History, used_bytes, with_made}
use Rattle.sp_copies.specs.Inside.{kept_in}
use Rattle.sp_copies.proofs.Changes.{made_stands}
use Rattle.sp_copies.proofs.KeptLemmas.{kept_of, of_each, of_own}
use Rattle.sp_copies.proofs.Room.{spooled-made, free-made}
use Rattle.sp_copies.proofs.copies.Copies.make.Goals as goal

abbrev Fits : ℕ → ℕ → History → Type 0
Fits endpoint size H = used_bytes H endpoint + size ≤ 2 ^ 40

pub invariant_of-self : goal.invariant_of-self
invariant_of-self c =
    let k = kept_in c.self.inside in
    let G = c.self.invariant.history in
    let s = c.self.invariant.stands in
    let new = c.args.copy in
    let fits = of_own (Fits new.endpoint new.size) k c.args.self.now c.self.view_is c.requires.used G s in
    let some : 0 < c.self.inside.spare = rw (← c.self.view_is) at c.requires.room in
    record {
      history = with_made new G;
      stands = rw (c.add.ensures.items, c.add-2.ensures.items, c.of-number.ensures) (made_stands k new _ G s fits);
      to_make = omega (arith, c.add.ensures.room, c.self.invariant.to_make);
      to_count = omega (arith, c.add-2.ensures.room, c.self.invariant.to_count);
      to_close = omega (arith, spooled-made G new, c.self.invariant.to_close);
      to_hold = omega (arith, free-made G new, c.self.invariant.to_hold);
    }

pub returns-clause-made : goal.returns-clause-made
returns-clause-made c H r =
    let k = kept_in c.self.inside in
    let new = c.args.copy in
    let fits = of_each (Fits new.endpoint new.size) c.args.self.now c.requires.used H r in
    rw (c.add.ensures.items, c.add-2.ensures.items, c.of-number.ensures)
    (made_stands k new _ H (kept_of k c.args.self.now c.self.view_is H r) fits)
