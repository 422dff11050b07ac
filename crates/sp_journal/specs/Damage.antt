-- Which bytes are no journal of this version, and from where on.
use Rattle.std.specs.Prelude.{◌≡◌, ◌≢◌, ◌⊎◌, ℕ, ◌<◌, ◌≤◌, List, ◌∷◌, ◌++◌, length, take, drop, codes}
use Rattle.std.specs.Int.{w32, from_le_bytes}
use Rattle.sp_unit.specs.UnitBytes.{KeepsUnitRules, UnitView, unit_bytes}
use Rattle.sp_journal.specs.Closing.{IsClosedAt}
use Rattle.sp_journal.specs.Format.{framed, IsFront}

-- 14 bytes or more, and the birth gate is open
abbrev pub IsBorn : List ℕ → Type 0
IsBorn file = (14 ≤ length file) × (¬ IsClosedAt 0 file)

-- the name stands behind the birth gate
abbrev pub HasName : List ℕ → Type 0
HasName file = take 8 (drop 1 file) ≡ codes "spooljnl"

-- the version that a journal's bytes tell
abbrev pub version_of : List ℕ → ℕ
version_of file = from_le_bytes w32 (take 4 (drop 9 file))

-- a unit's bytes behind their length, and a gate behind them
abbrev pub BeginsWithUnit : List ℕ → Type 0
BeginsWithUnit bytes =
    (unit : UnitView) × (gate : ℕ) × (behind : List ℕ) × KeepsUnitRules unit
    × (bytes ≡ framed (unit_bytes unit) ++ gate ∷ behind)

-- behind these units a gate is open, and no unit follows
pub record StopsAt (units : List UnitView) (place : ℕ) (file : List ℕ) : Type 0 where
  pub front : List ℕ
  pub gate : ℕ
  pub behind : List ℕ
  pub is_front : IsFront units front
  pub is_place : length front ≡ place
  pub shown : gate ≢ 0
  pub bytes : file ≡ front ++ gate ∷ behind
  pub no_unit : ¬ BeginsWithUnit behind

-- where bytes are damaged: at 0 where they are more than the 14 of a journal that isn't born, at 1 where a born
-- journal has another name, else at an open gate behind which no unit follows
abbrev pub IsDamaged : ℕ → List ℕ → Type 0
IsDamaged at file =
    ((at ≡ 0) × (14 < length file) × IsClosedAt 0 file)
    ⊎ (((at ≡ 1) × IsBorn file × (¬ HasName file)) ⊎ ((units : List UnitView) × StopsAt units at file))

-- a journal of another version
abbrev pub IsOtherVersion : ℕ → List ℕ → Type 0
IsOtherVersion found file = IsBorn file × HasName file × (version_of file ≡ found) × (found ≢ 1)
