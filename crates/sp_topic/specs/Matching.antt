-- Which topics a subscription matches, level by level.
use Rattle.std.specs.Prelude.{ℕ, ◌-◌, Bool, true, false, not, ◌&&◌, ◌||◌, List, [], ◌∷◌, length, take, nat_eq, bytes_eq, if◌then◌else◌}
use Rattle.std.specs.List.{starts_with, ends_with}
use Rattle.sp_base.specs.Topic.{levels}
use Rattle.sp_topic.specs.Subscription.{topic_of, is_exception}

-- a level that ends in `*` matches a level that begins with what stands before the `*`, and any
-- other level matches an equal one
abbrev pub level_matches : List ℕ → List ℕ → Bool
level_matches level topic_level =
    if ends_with nat_eq level (42 ∷ []) then starts_with nat_eq topic_level (take (length level - 1) level)
    else bytes_eq level topic_level

-- `>` alone as the last level
abbrev pub is_rest : List (List ℕ) → Bool
is_rest [] = false
is_rest (level ∷ []) = bytes_eq level (62 ∷ [])
is_rest (level ∷ next ∷ more) = false

-- the levels of a subscription match those of a topic: a last `>` matches the one or more that
-- remain, and else each level matches the one in its place
abbrev pub levels_match : List (List ℕ) → List (List ℕ) → Bool
levels_match [] [] = true
levels_match [] (topic_level ∷ topic_more) = false
levels_match (level ∷ more) [] = false
levels_match (level ∷ more) (topic_level ∷ topic_more) =
    is_rest (level ∷ more) || (level_matches level topic_level && levels_match more topic_more)

-- a subscription matches a topic, an exception as it reads without its `!`
unfoldable pub matches : List ℕ → List ℕ → Bool
matches subscription topic = levels_match (levels (topic_of subscription)) (levels topic)

-- a plain subscription that matches the topic
abbrev pub selects : List ℕ → List ℕ → Bool
selects subscription topic = not (is_exception subscription) && matches subscription topic

-- an exception that matches the topic
abbrev pub excepts : List ℕ → List ℕ → Bool
excepts subscription topic = is_exception subscription && matches subscription topic
