-- A list that is cut at a byte.
use Rattle.std.specs.Prelude.{◌==◌, ℕ, List, [], ◌∷◌, Option, Some, None, option_map, if◌then◌else◌}

-- what stands before the first such byte, and behind it
abbrev pub cut : ℕ → List ℕ → Option (List ℕ × List ℕ)
cut byte [] = None
cut byte (x ∷ xs) = if x == byte then Some ([], xs) else option_map (λ p. (x ∷ p.0, p.1)) (cut byte xs)
