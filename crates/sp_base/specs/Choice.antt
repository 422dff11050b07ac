-- Choices and the words that stand for them.
use Rattle.std.specs.Prelude.{ℕ, List, Option, Bool, find, position, bytes_eq}

-- the choice that a word stands for
abbrev pub choice_named : {C : Type 0} → (C → List ℕ) → List C → List ℕ → Option C
choice_named word_of choices word = find (λ c. bytes_eq (word_of c) word) choices

-- its place among the choices, from 0
abbrev pub place_named : {C : Type 0} → (C → List ℕ) → List C → List ℕ → Option ℕ
place_named word_of choices word = position (λ c. bytes_eq (word_of c) word) choices
