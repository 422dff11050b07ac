-- The way through a tree that a subscription takes.
use Rattle.std.specs.Prelude.{ℕ, Bool, true, false, ◌&&◌, ◌||◌, List, [], ◌∷◌, if◌then◌else◌}
use Rattle.sp_topic.specs.Matching.{is_rest, level_matches}

-- the levels before a last `>`, or all of them
abbrev pub steps : List (List ℕ) → List (List ℕ)
steps [] = []
steps (level ∷ more) = if is_rest (level ∷ more) then [] else level ∷ steps more

-- whether the last level is `>`
abbrev pub ends_in_rest : List (List ℕ) → Bool
ends_in_rest [] = false
ends_in_rest (level ∷ more) = is_rest (level ∷ more) || ends_in_rest more

-- the steps match the levels of a topic, one after another, and a `>` behind them the one or more that remain
abbrev pub way_matches : List (List ℕ) → Bool → List (List ℕ) → Bool
way_matches [] false [] = true
way_matches [] true [] = false
way_matches [] rest (topic_level ∷ topic_more) = rest
way_matches (step ∷ more) rest [] = false
way_matches (step ∷ more) rest (topic_level ∷ topic_more) =
    level_matches step topic_level && way_matches more rest topic_more
