use Rattle.std.proofs.Common.{arith, ap, ◌∙◌, sym}
use Rattle.sp_hall.proofs.Parts.{joins, compares}
use Rattle.sp_hall.proofs.hall.Hall.meet.Goals as goal

pub join_seat-requires : goal.join_seat-requires
join_seat-requires g c =
    let words = c.self.invariant.0 in
    let mine = c.pass.invariant in
    let theirs = c.other.invariant in (
      ap (λ k. k.hall.table) c.pass.view_is ∙ ap (λ k. k.table) c.requires.hall ∙ sym (ap (λ k. k.table) c.self.view_is),
      ap (λ k. k.hall.table) c.other.view_is ∙ ap (λ k. k.table) c.requires.other ∙ sym (ap (λ k. k.table) c.self.view_is),
      theirs.carries,
      omega arith,
      joins g.O.Object.shows _ _ _ _ _ mine.idle theirs.idle mine.part theirs.part,
    )

pub load-pass-inside-requires : goal.load-pass-inside-requires
load-pass-inside-requires g c =
    let words = c.self.invariant.0 in
    let part = c.pass.invariant.part in
    let joined = ap (λ m. m.0.parts) c.join_seat.ensures.2 in (
      c.join_seat.ensures.0 ∙ ap (λ k. k.hall.table) c.pass.view_is ∙ ap (λ k. k.table) c.requires.hall ∙ sym (ap (λ k. k.table) c.self.view_is),
      omega arith,
      compares g.O.Object.shows _ _ _ _ (omega arith),
    )
