-- The children of a node by a text.
use Rattle.std.specs.Prelude.{ℕ, List, Option, bytes_eq}
use Rattle.std.specs.Map.{lookup}

-- the place of the child of a text, where there is one
abbrev pub child : List (List ℕ × ℕ) → List ℕ → Option ℕ
child children text = lookup (λ key. bytes_eq text key) children
