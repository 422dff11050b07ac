-- What a call that writes units may leave, if it is cut off.
use Rattle.std.specs.Prelude.{◌≡◌, ◌⊎◌, ℕ, List, [], ◌∷◌, ◌++◌, length, Option, Some, None}
use Rattle.sp_unit.specs.UnitBytes.{KeepsUnitRules, UnitView, unit_bytes}
use Rattle.sp_journal.specs.Format.{framed, IsFront, EndsAt, IsUnborn, HasUnits}

-- one unit more stands whole behind the gate at a place, which is closed or open, and a closed gate behind the unit
pub record Offers (units : List UnitView) (unit : UnitView) (place : ℕ) (file : List ℕ) : Type 0 where
  pub front : List ℕ
  pub gate : ℕ
  pub behind : List ℕ
  pub is_front : IsFront units front
  pub is_place : length front ≡ place
  pub keeps : KeepsUnitRules unit
  pub bytes : file ≡ front ++ gate ∷ (framed (unit_bytes unit) ++ 0 ∷ behind)

-- a gate whose opening or closing may have been cut off: it is closed, or its unit is whole
abbrev pub IsUnsure : List UnitView → UnitView → ℕ → List ℕ → Type 0
IsUnsure units unit place file = EndsAt units place file ⊎ Offers units unit place file

-- these units, or these and one more
abbrev pub HasUnitsOr : List UnitView → UnitView → List ℕ → Type 0
HasUnitsOr units unit file = HasUnits units file ⊎ HasUnits (units ++ unit ∷ []) file

-- these units, or where one is unsure these or these and that one
abbrev pub HasUnitsMaybe : Option UnitView → List UnitView → List ℕ → Type 0
HasUnitsMaybe None units file = HasUnits units file
HasUnitsMaybe (Some unit) units file = HasUnitsOr units unit file

-- the file as it was, or one without units where it was unborn: either way it has the units that it had
abbrev pub KeepsUnits : List ℕ → List ℕ → Type 0
KeepsUnits old new = (new ≡ old) ⊎ (IsUnborn old × HasUnits [] new)
