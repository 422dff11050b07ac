use Rattle.std.proofs.Common.{◌∷◌, Some, ap, ◌∙◌, sym}
use Rattle.atomic_table.specs.Table.{rest}
use Rattle.sp_hall.proofs.turns.take.Goals as goal

pub exchange-requires : goal.exchange-requires
exchange-requires g c =
    let slot = c.requires.slot in
    (c.requires.hall, (Some slot.0, slot.1 ∙ ap (λ r. (0, Some slot.0) ∷ r) (sym (ap rest slot.1))))
