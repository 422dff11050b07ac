-- The files through which a birth goes.
use Rattle.std.specs.Prelude.{◌≡◌, ℕ, ◌≤◌, List, [], ◌∷◌, ◌++◌, length, take}
use Rattle.sp_journal.specs.Format.{heading}

-- the birth gate is closed, and there is at most the heading and the first unit's gate
abbrev pub IsBlank : List ℕ → Type 0
IsBlank file = (length file ≤ 14) × (take 1 file ≡ 0 ∷ [])

-- all stands there, and the birth gate is closed
abbrev pub IsNamed : List ℕ → Type 0
IsNamed file = file ≡ 0 ∷ (heading ++ 0 ∷ [])
