-- Which key each number has.
use Rattle.std.specs.Prelude.{◌≡◌, ◌==◌, ℕ, List, Option}
use Rattle.std.specs.Map.{lookup}

-- the numbers with their keys, and how many more fit without memory
pub record Numbered : Type 0 where
  pub entries : List (ℕ × ℕ)
  pub room : ℕ

-- the key of a number, where it has one
abbrev pub key_of : Numbered → ℕ → Option ℕ
key_of numbers number = lookup (λ n. number == n) numbers.entries

-- both have the same key for each number
abbrev pub SameKeys : Numbered → Numbered → Type 0
SameKeys old new = (number : ℕ) → key_of new number ≡ key_of old number
