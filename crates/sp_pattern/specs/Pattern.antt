-- The patterns of LIKE: how a text spells one, and which texts match it.
use Rattle.std.specs.Prelude.{◌==◌, ◌&&◌, ◌||◌, ℕ, Bool, true, false, List, [], ◌∷◌, Option, Some, None, if◌then◌else◌}
use Rattle.std.specs.Str.{chars}
use Rattle.sp_pattern.specs.declared.item.PatternItem.{PatternItem}
use Rattle.sp_pattern.specs.declared.item.PatternItem.TheVariants.{Any, One, Exactly}

-- a character of a pattern that stands for others, or for itself
abbrev pub plain_item : ℕ → PatternItem
plain_item c = if c == 37 then Any else (if c == 95 then One else Exactly c)

-- the character is the escape character, where there is one
abbrev pub is_escape : Option ℕ → ℕ → Bool
is_escape None c = false
is_escape (Some e) c = e == c

-- the items of a pattern's characters: behind the escape character the next one stands for itself, and an escape
-- character at the end stands for itself
abbrev pub items_from : Option ℕ → Bool → List ℕ → List PatternItem
items_from escape false [] = []
items_from None true [] = []
items_from (Some e) true [] = Exactly e ∷ []
items_from escape true (c ∷ cs) = Exactly c ∷ items_from escape false cs
items_from escape false (c ∷ cs) =
    if is_escape escape c then items_from escape true cs else plain_item c ∷ items_from escape false cs

-- the pattern that a text spells
abbrev pub pattern_of : Option ℕ → List ℕ → List PatternItem
pattern_of escape text = items_from escape false (chars text)

-- from this place on or from a later one
abbrev pub at_some_place : (List ℕ → Bool) → List ℕ → Bool
at_some_place test [] = test []
at_some_place test (c ∷ cs) = test (c ∷ cs) || at_some_place test cs

-- the characters match the pattern
abbrev pub matches : List PatternItem → List ℕ → Bool
matches [] [] = true
matches [] (c ∷ cs) = false
matches (Any ∷ items) cs = at_some_place (matches items) cs
matches (One ∷ items) [] = false
matches (One ∷ items) (c ∷ cs) = matches items cs
matches (Exactly e ∷ items) [] = false
matches (Exactly e ∷ items) (c ∷ cs) = (e == c) && matches items cs
