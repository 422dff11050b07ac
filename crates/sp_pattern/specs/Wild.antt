-- Matching a pattern without trying places in vain.
use Rattle.std.specs.Prelude.{◌==◌, ℕ, List, [], ◌∷◌, if◌then◌else◌}
use Rattle.sp_pattern.specs.declared.like.Outcome.{Outcome}
use Rattle.sp_pattern.specs.declared.like.Outcome.TheVariants.{Match, NoMatch, TextEnded}
use Rattle.sp_pattern.specs.declared.item.PatternItem.{PatternItem}
use Rattle.sp_pattern.specs.declared.item.PatternItem.TheVariants.{Any, One, Exactly}

-- the first outcome that isn't NoMatch, from this place on
abbrev pub or_later : Outcome → Outcome → Outcome
or_later Match later = Match
or_later TextEnded later = TextEnded
or_later NoMatch later = later

-- the first outcome other than NoMatch, at this place or a later one
abbrev pub first_outcome : (List ℕ → Outcome) → List ℕ → Outcome
first_outcome try [] = or_later (try []) TextEnded
first_outcome try (c ∷ cs) = or_later (try (c ∷ cs)) (first_outcome try cs)

-- where the text ended before the pattern, no later place matches
abbrev pub outcome : List PatternItem → List ℕ → Outcome
outcome [] [] = Match
outcome [] (c ∷ cs) = NoMatch
outcome (Any ∷ items) cs = first_outcome (outcome items) cs
outcome (One ∷ items) [] = TextEnded
outcome (One ∷ items) (c ∷ cs) = outcome items cs
outcome (Exactly e ∷ items) [] = TextEnded
outcome (Exactly e ∷ items) (c ∷ cs) = if e == c then outcome items cs else NoMatch
