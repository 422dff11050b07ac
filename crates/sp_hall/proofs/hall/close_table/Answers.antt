use Rattle.std.proofs.Common.{◌≡◌, length, refl, ◌∙◌, sym}
use Rattle.std.specs.Slots.{slots_items, slots_counts}
use Rattle.sp_hall.proofs.Ends.{closes, last_of}
use Rattle.sp_hall.proofs.hall.close_table.Goals as goal

pub unwrap-object-requires : goal.unwrap-object-requires
unwrap-object-requires g c =
    let long : length (slots_items c.close_with-closed.result.slots) ≡ 1 = sym (slots_counts c.close_with-closed.result.slots).0 ∙ c.close_with-closed.ensures.counts.1 ∙ c.requires.hall.1.1 in
    let whole = closes g.O.Object.shows _ _ _ _ _ long c.requires.all.0 c.requires.all.1 c.close_with-closed.ensures.values.2 c.take.result c.take.ensures.value in
    rw whole.is refl

pub returns : goal.returns
returns g c =
    let long : length (slots_items c.close_with-closed.result.slots) ≡ 1 = sym (slots_counts c.close_with-closed.result.slots).0 ∙ c.close_with-closed.ensures.counts.1 ∙ c.requires.hall.1.1 in
    let whole = closes g.O.Object.shows _ _ _ _ _ long c.requires.all.0 c.requires.all.1 c.close_with-closed.ensures.values.2 c.take.result c.take.ensures.value in
    last_of g.O.Object.shows _ _ _ _ c.unwrap-object.ensures whole
