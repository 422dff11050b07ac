-- How long what is written of a unit is.
use Rattle.std.proofs.Common.{◌≡◌, ℕ, ◌+◌, ◌≤◌, ◌<◌, List, [], ◌∷◌, length, ⊎_elim, ap, get_or, ◌∙◌, arith, length-append}
use Rattle.std.proofs.lemmas.Bool.{cases_lt}
use Rattle.sp_event.specs.declared.request.Event.{Event}
use Rattle.sp_journal.proofs.UnitSteps.{length-framed}
use Rattle.sp_journal.specs.Format.{IsPiece, framed}
use Rattle.sp_store.specs.Commit.{need_of}
use Rattle.sp_unit.specs.UnitBytes.{UnitView, unit_bytes}

pub piece_long : (unit : UnitView) (piece : List ℕ) → IsPiece unit piece → length piece + 1 ≡ need_of unit
piece_long unit piece is =
    omega (
      arith,
      ap length is.bytes,
      length-append (framed (unit_bytes unit)) (0 ∷ []),
      length-framed (unit_bytes unit),
    )

-- what isn't above a bound is at most that
pub at_most : (limit at need other : ℕ) → need ≡ other → (limit < at + need → ⊥) → at + other ≤ limit
at_most limit at need other same none =
    ⊎_elim (λ above. absurd (none above)) (λ below. omega (arith, same, below)) (cases_lt limit (at + need))

-- the first of one event
pub first_is : (unit : List Event) (event other d : Event) → unit ≡ event ∷ [] → other ≡ get_or unit 0 d → other ≡ event
first_is unit event other d one is = is ∙ ap (λ (es : List Event). get_or es 0 d) one
