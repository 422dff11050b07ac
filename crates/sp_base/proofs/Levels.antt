-- The levels of a text that is cut at a slash.
use Rattle.std.proofs.Common.{◌≡◌, ◌∙◌, ◌+◌, ◌<◌, ◌≤◌, ℕ, true, false, cond, List, [], ◌∷◌, ◌++◌, length, take, drop, get_or, refl, sym, ap, arith, length-append, Some, None}
use Rattle.std.specs.Prelude.{◌==◌, count_by}
use Rattle.std.specs.List.{onto_first, join_with_byte}
use Rattle.std.proofs.lemmas.Bool.{lt-ltb, le-ltb, cond-true, cond-false}
use Rattle.std.proofs.lemmas.List.{take_at, take-append-drop, drop_more, length-take-le}
use Rattle.std.proofs.lemmas.List.Splits.{length-slice_split, join_with_byte-slice_split}
use Rattle.sp_base.specs.Topic.{levels, slash_after}

-- an element before the first of several parts
onto_first-append : (x : ℕ) (parts more : List (List ℕ)) → 0 < length parts → onto_first x (parts ++ more) ≡ onto_first x parts ++ more
onto_first-append x [] more h = absurd (omega arith)
onto_first-append x (part ∷ parts) more h = refl

some_levels : (text : List ℕ) → 0 < length (levels text)
some_levels text = omega (arith, length-slice_split (λ b. b == 47) text)

-- the levels of a text that is cut at a slash are those of its two sides
levels-at_slash : (front rest : List ℕ) → levels (front ++ 47 ∷ rest) ≡ levels front ++ levels rest
levels-at_slash [] rest = refl
levels-at_slash (x ∷ front) rest =
    let more = levels-at_slash front rest in
    let first = onto_first-append x (levels front) (levels rest) (some_levels front) in
    elim (x == 47) as (λ t. cond t ([] ∷ levels (front ++ 47 ∷ rest)) (onto_first x (levels (front ++ 47 ∷ rest))) ≡ cond t ([] ∷ levels front) (onto_first x (levels front)) ++ levels rest) [
      | true ↦ ap (λ parts. [] ∷ parts) more
      | false ↦ ap (onto_first x) more ∙ first
    ]

-- a front of n levels, and then a slash
pub slash_after-found : (n : ℕ) (front rest : List ℕ) → length (levels front) ≡ n → slash_after n (front ++ 47 ∷ rest) ≡ Some (length front)
slash_after-found n front rest h =
    let whole = levels-at_slash front rest in
    let some = some_levels rest in
    let longer : n < length (levels (front ++ 47 ∷ rest)) = rw whole (omega (arith, length-append (levels front) (levels rest))) in
    let firsts : take n (levels (front ++ 47 ∷ rest)) ≡ levels front = rw whole (take_at (levels front) (levels rest) n h) in
    let joined = join_with_byte-slice_split 47 front in
    cond-true _ _ _ (lt-ltb n (length (levels (front ++ 47 ∷ rest))) longer) ∙ ap (λ parts. Some (length (join_with_byte 47 parts))) firsts ∙ ap (λ text. Some (length text)) joined

-- no more levels than n
pub slash_after-none : (n : ℕ) (text : List ℕ) → length (levels text) ≤ n → slash_after n text ≡ None
slash_after-none n text h = cond-false _ _ _ (le-ltb n (length (levels text)) h)

-- the same in the count of slashes
pub slash_at : (n at : ℕ) (text : List ℕ) → at < length text → get_or text at 0 ≡ 47 → count_by (λ b. b == 47) (take at text) + 1 ≡ n → slash_after n text ≡ Some at
slash_at n at text within slash count =
    let parts : take at text ++ 47 ∷ drop (at + 1) text ≡ text = rw (← slash, ← drop_more text at 0 within) (take-append-drop at text) in
    let levels_before : length (levels (take at text)) ≡ n = length-slice_split (λ b. b == 47) (take at text) ∙ count in
    ap (slash_after n) (sym parts) ∙ slash_after-found n (take at text) (drop (at + 1) text) levels_before ∙ ap Some (length-take-le at text (omega arith))

pub slashes_below : (n : ℕ) (text : List ℕ) → count_by (λ b. b == 47) text < n → slash_after n text ≡ None
slashes_below n text h = slash_after-none n text (omega (arith, length-slice_split (λ b. b == 47) text))
