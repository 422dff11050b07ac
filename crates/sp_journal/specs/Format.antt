-- What a journal's bytes are, version 1.
use Rattle.std.specs.Prelude.{◌≡◌, ◌≢◌, ◌⊎◌, ℕ, ◌<◌, List, [], ◌∷◌, ◌++◌, length, take, codes}
use Rattle.std.specs.Int.{w32, to_le_bytes}
use Rattle.sp_unit.specs.UnitBytes.{KeepsUnitRules, UnitView, unit_bytes}

-- what stands between the birth gate and the first unit's gate: a name, and the version in four bytes
abbrev pub heading : List ℕ
heading = codes "spooljnl" ++ 1 ∷ 0 ∷ 0 ∷ 0 ∷ []

-- a body behind its length, four bytes of which the lowest comes first
abbrev pub framed : List ℕ → List ℕ
framed body = to_le_bytes w32 (length body) ++ body

-- units one after the other, each behind an open gate: every byte but 0x00 is one
abbrev pub AreUnits : List UnitView → List ℕ → Type 0
AreUnits [] bytes = bytes ≡ []
AreUnits (unit ∷ units) bytes =
    (gate : ℕ) × (rest : List ℕ) × (gate ≢ 0) × KeepsUnitRules unit
    × (bytes ≡ gate ∷ (framed (unit_bytes unit) ++ rest))
    × AreUnits units rest

-- an open birth gate, the heading and these units: all that stands before a gate
pub record IsFront (units : List UnitView) (front : List ℕ) : Type 0 where
  pub birth : ℕ
  pub tail : List ℕ
  pub born : birth ≢ 0
  pub bytes : front ≡ birth ∷ (heading ++ tail)
  pub are_units : AreUnits units tail

-- these units stand before a place, and there a gate
pub record ComesTo (units : List UnitView) (place : ℕ) (file : List ℕ) : Type 0 where
  pub front : List ℕ
  pub gate : ℕ
  pub behind : List ℕ
  pub is_front : IsFront units front
  pub is_place : length front ≡ place
  pub bytes : file ≡ front ++ gate ∷ behind

-- these units end at a place: there stands the first closed gate, and behind it anything
pub record EndsAt (units : List UnitView) (place : ℕ) (file : List ℕ) : Type 0 where
  pub front : List ℕ
  pub behind : List ℕ
  pub is_front : IsFront units front
  pub is_place : length front ≡ place
  pub bytes : file ≡ front ++ 0 ∷ behind

-- a file of fewer than 14 bytes, or of 14 with the birth gate closed
abbrev pub IsUnborn : List ℕ → Type 0
IsUnborn file = (length file < 14) ⊎ ((length file ≡ 14) × (take 1 file ≡ 0 ∷ []))

-- the units of a file: those up to the first closed gate, and none where it isn't born
abbrev pub HasUnits : List UnitView → List ℕ → Type 0
HasUnits units file = ((units ≡ []) × IsUnborn file) ⊎ ((place : ℕ) × EndsAt units place file)

-- what is written behind a gate for a unit: its bytes behind their length, and the next gate, closed
pub record IsPiece (unit : UnitView) (piece : List ℕ) : Type 0 where
  pub keeps : KeepsUnitRules unit
  pub bytes : piece ≡ framed (unit_bytes unit) ++ 0 ∷ []
