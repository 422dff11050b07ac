-- How two lists of levels match, one level after the other.
use Rattle.std.proofs.Common.{◌≡◌, ◌<◌, ℕ, true, false, ◌&&◌, ◌||◌, List, [], ◌∷◌, length, refl, ap, arith}
use Rattle.std.specs.Prelude.{◌==◌}
use Rattle.std.proofs.lemmas.List.Splits.{length-slice_split}
use Rattle.sp_base.specs.Topic.{levels}
use Rattle.sp_topic.specs.Matching.{is_rest, level_matches, levels_match}

some_levels : (text : List ℕ) → 0 < length (levels text)
some_levels text = omega (arith, length-slice_split (λ b. b == 47) text)

not_last : (level : List ℕ) (more : List (List ℕ)) → 0 < length more → is_rest (level ∷ more) ≡ false
not_last level [] h = absurd (omega arith)
not_last level (next ∷ more) h = refl

-- a level that others follow is not the last
pub is_rest_more : (level text : List ℕ) → is_rest (level ∷ levels text) ≡ false
is_rest_more level text = not_last level (levels text) (some_levels text)

pub match_rest : (xs ys : List (List ℕ)) (l t : List ℕ) (ls ts : List (List ℕ)) → xs ≡ l ∷ ls → ys ≡ t ∷ ts → is_rest (l ∷ ls) ≡ true → levels_match xs ys ≡ true
match_rest xs ys l t ls ts e f h = rw (e, f) (ap (λ b. b || (level_matches l t && levels_match ls ts)) h)

pub match_level : (xs ys : List (List ℕ)) (l t : List ℕ) (ls ts : List (List ℕ)) → xs ≡ l ∷ ls → ys ≡ t ∷ ts → is_rest (l ∷ ls) ≡ false → levels_match xs ys ≡ (level_matches l t && levels_match ls ts)
match_level xs ys l t ls ts e f h = rw (e, f) (ap (λ b. b || (level_matches l t && levels_match ls ts)) h)

more_than_none : (xs : List (List ℕ)) → 0 < length xs → levels_match xs [] ≡ false
more_than_none [] h = absurd (omega arith)
more_than_none (x ∷ xs) h = refl

none_of_more : (ys : List (List ℕ)) → 0 < length ys → levels_match [] ys ≡ false
none_of_more [] h = absurd (omega arith)
none_of_more (y ∷ ys) h = refl

pub match_too_long : (text : List ℕ) → levels_match (levels text) [] ≡ false
match_too_long text = more_than_none (levels text) (some_levels text)

pub match_too_short : (text : List ℕ) → levels_match [] (levels text) ≡ false
match_too_short text = none_of_more (levels text) (some_levels text)

pub ruleset steps = (match_rest, match_level, match_too_long, match_too_short)
