use Rattle.std.proofs.Common.{arith, ap, ◌∙◌, sym, ◌≡◌}
use Rattle.sp_hall.proofs.Parts.{splits}
use Rattle.sp_hall.proofs.hall.Hall.split.Goals as goal

pub split_seat-seat-requires : goal.split_seat-seat-requires
split_seat-seat-requires g c =
    let words = c.self.invariant.0 in
    let parts : c.pass.inside.seat.me.0.parts ≡ c.args.pass.now.parts = ap (λ k. k.parts) c.pass.view_is in
    let two = c.requires.parts in (
      ap (λ k. k.hall.table) c.pass.view_is ∙ ap (λ k. k.table) c.requires.hall ∙ sym (ap (λ k. k.table) c.self.view_is),
      omega arith,
      splits g.O.Object.shows _ _ _ (omega arith),
    )
