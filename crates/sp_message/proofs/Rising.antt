-- Names that rise from one property to the next.
use Rattle.std.proofs.Common.{◌≡◌, ◌≤◌, true, List, [], ◌∷◌, length, refl, arith}
use Rattle.sp_message.specs.declared.property.Property.{Property}
use Rattle.sp_message.specs.Property.{names_rise}

pub one_rises : (rows : List Property) → length rows ≤ 1 → names_rise rows ≡ true
one_rises [] h = refl
one_rises (p ∷ []) h = refl
one_rises (p ∷ q ∷ rows) h = absurd (omega arith)
