-- The way that a subscription takes says which topics it matches, and which subscription it is.
use Rattle.std.proofs.Common.{◌≡◌, ◌∙◌, ◌+◌, ◌-◌, ◌≤◌, ℕ, suc, Bool, true, false, cond, not, ◌&&◌, ◌||◌, List, [], ◌∷◌, ◌++◌, take, drop, length, refl, sym, ap, arith, length-append}
use Rattle.std.specs.Prelude.{◌==◌, bytes_eq, if◌then◌else◌}
use Rattle.std.specs.List.{join_with_byte}
use Rattle.std.specs.Cmp.Lexicographic.{same_text, bytes_decides}
use Rattle.std.proofs.lemmas.Bool.{eqb-true, true≢false, cond-true, cond-false}
use Rattle.std.proofs.lemmas.List.{take-append-drop}
use Rattle.std.proofs.lemmas.List.Splits.{join_with_byte-slice_split}
use Rattle.sp_base.specs.Topic.{levels}
use Rattle.sp_topic.specs.Matching.{is_rest, level_matches, levels_match}
use Rattle.sp_topic.specs.Subscription.{is_exception, topic_of}
use Rattle.sp_tree.specs.Node.{is_prefix}
use Rattle.sp_tree.specs.Nodes.{IsSpelled}
use Rattle.sp_tree.specs.Path.{ends_in_rest, steps, way_matches}

-- the levels match those of a topic where the way does
pub levels_match-way : (ls ts : List (List ℕ)) → levels_match ls ts ≡ way_matches (steps ls) (ends_in_rest ls) ts
levels_match-way [] [] = refl
levels_match-way [] (t ∷ ts) = refl
levels_match-way (l ∷ more) [] =
    elim (is_rest (l ∷ more)) as (λ b. false ≡ way_matches (cond b [] (l ∷ steps more)) (b || ends_in_rest more) [])
    [ true ↦ refl | false ↦ refl ]
levels_match-way (l ∷ more) (t ∷ ts) =
    elim (is_rest (l ∷ more)) as (λ b. (b || (level_matches l t && levels_match more ts)) ≡ way_matches (cond b [] (l ∷ steps more)) (b || ends_in_rest more) (t ∷ ts))
    [ true ↦ refl | false ↦ ap (λ b. level_matches l t && b) (levels_match-way more ts) ]

-- what stands behind the steps
abbrev pub tail : Bool → List (List ℕ)
tail true = (62 ∷ []) ∷ []
tail false = []

rest_is : (level : List ℕ) (more : List (List ℕ)) → is_rest (level ∷ more) ≡ true → level ∷ more ≡ tail true
rest_is level [] h = ap (λ l. l ∷ []) (same_text level (62 ∷ []) (sym h))
rest_is level (next ∷ more) h = absurd (true≢false (sym h))

-- the steps and what stands behind them are the levels
pub put_together : (ls : List (List ℕ)) → ls ≡ steps ls ++ tail (ends_in_rest ls)
put_together [] = refl
put_together (l ∷ more) = one (is_rest (l ∷ more)) refl (put_together more)
  where
    one : (b : Bool) → is_rest (l ∷ more) ≡ b → more ≡ steps more ++ tail (ends_in_rest more) → l ∷ more ≡ (cond b [] (l ∷ steps more)) ++ tail (b || ends_in_rest more)
    one true h later = rest_is l more h
    one false h later = ap (λ (ls : List (List ℕ)). l ∷ ls) later

same_levels : (s t : List ℕ) → levels s ≡ levels t → s ≡ t
same_levels s t h =
    sym (join_with_byte-slice_split 47 s) ∙ ap (join_with_byte 47) h ∙ join_with_byte-slice_split 47 t

exception-parts : (text : List ℕ) → is_exception text ≡ true → text ≡ 33 ∷ drop 1 text
exception-parts [] h = absurd (true≢false (sym h))
exception-parts (byte ∷ rest) h = ap (λ b. b ∷ rest) (eqb-true byte 33 h)

same_topics : (s t : List ℕ) → topic_of s ≡ topic_of t → is_exception s ≡ is_exception t → s ≡ t
same_topics s t h e = one (is_exception t) refl
  where
    one : (b : Bool) → is_exception t ≡ b → s ≡ t
    one true k =
        let drops : drop 1 s ≡ drop 1 t = sym (cond-true (is_exception s) (drop 1 s) s (e ∙ k)) ∙ h ∙ cond-true (is_exception t) (drop 1 t) t k in
        exception-parts s (e ∙ k) ∙ ap (λ r. 33 ∷ r) drops ∙ sym (exception-parts t k)
    one false k = sym (cond-false (is_exception s) (drop 1 s) s (e ∙ k)) ∙ h ∙ cond-false (is_exception t) (drop 1 t) t k

-- one way has one subscription
pub same_spelling : (s t : List ℕ) (way : List (List ℕ)) (rest exception : Bool) → IsSpelled s way rest exception → IsSpelled t way rest exception → s ≡ t
same_spelling s t way rest exception p q =
    let both : levels (topic_of s) ≡ levels (topic_of t) =
    put_together (levels (topic_of s)) ∙ (λ i. p.way_is i ++ tail (p.rest_is i)) ∙ sym (λ i. q.way_is i ++ tail (q.rest_is i)) ∙ sym (put_together (levels (topic_of t))) in
    same_topics s t (same_levels (topic_of s) (topic_of t) both) (p.exception_is ∙ sym q.exception_is)

-- a level that ends in `*`, and what stands before it
pub prefix_parts : (level : List ℕ) → is_prefix level ≡ true → take (length level - 1) level ++ 42 ∷ [] ≡ level
prefix_parts level h =
    ap (λ t. take (length level - 1) level ++ t) (same_text (42 ∷ []) (drop (length level - 1) level) (sym h))
    ∙ take-append-drop (length level - 1) level

pub last_of : (q : List ℕ) → length (q ++ 42 ∷ []) - 1 ≡ length q
last_of q = let e = length-append q (42 ∷ []) in omega (arith, e)

take_all_of : (q r : List ℕ) → take (length q) (q ++ r) ≡ q
take_all_of [] r = refl
take_all_of (x ∷ q) r = ap (λ t. x ∷ t) (take_all_of q r)

drop_all_of : (q r : List ℕ) → drop (length q) (q ++ r) ≡ r
drop_all_of [] r = refl
drop_all_of (x ∷ q) r = drop_all_of q r

pub prefix_made : (q : List ℕ) → is_prefix (q ++ 42 ∷ []) ≡ true
prefix_made q = ap (λ n. bytes_eq (42 ∷ []) (drop n (q ++ 42 ∷ []))) (last_of q) ∙ ap (bytes_eq (42 ∷ [])) (drop_all_of q (42 ∷ []))

pub before_made : (q : List ℕ) → take (length (q ++ 42 ∷ []) - 1) (q ++ 42 ∷ []) ≡ q
before_made q = ap (λ n. take n (q ++ 42 ∷ [])) (last_of q) ∙ take_all_of q (42 ∷ [])
