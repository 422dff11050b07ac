-- What the walk through the nodes finds: the endpoints to which a way leads that matches the topic.
use Rattle.std.proofs.Common.{◌≡◌, ◌∙◌, ◌+◌, ◌-◌, ◌≤◌, ◌<◌, ℕ, zero, suc, inl, inr, ◌⊎◌, Bool, true, false, cond, not, ◌&&◌, ◌||◌, List, [], ◌∷◌, ◌++◌, take, drop, length, Option, None, Some, refl, sym, ap, subst, arith}
use Rattle.std.specs.Prelude.{bytes_eq, nat_eq, slice_get}
use Rattle.std.specs.List.{starts_with}
use Rattle.std.specs.Option.{option_map_or}
use Rattle.std.specs.Cmp.Lexicographic.{same_text, bytes_decides}
use Rattle.std.proofs.lemmas.Bool.{true≢false, cond-true, cond-false, or_cases, or_left, or_right, and_parts, cases_lt}
use Rattle.std.proofs.lemmas.List.{length-take}
use Rattle.sp_topic.specs.Matching.{level_matches}
use Rattle.sp_tree.specs.Children.{child}
use Rattle.sp_tree.specs.Node.{child_at, endpoints_at, is_prefix}
use Rattle.sp_tree.specs.Nodes.{by_prefix, by_text, endpoints_of, finds, has_number, held, next, nobody, place, some_below}
use Rattle.sp_tree.specs.Path.{way_matches}
use Rattle.sp_tree.specs.declared.node.Node.{Node}
use Rattle.sp_tree.proofs.Paths.{before_made, prefix_made}

-- the child of a level is the one by its text, or the one by what stands before its `*`
pub next-text : (nodes : List Node) (at : ℕ) (level : List ℕ) → is_prefix level ≡ false → next nodes at level ≡ by_text nodes at level
next-text nodes at level h =
    elim (slice_get nodes at) as (λ o. option_map_or (λ node. child_at node level) o None ≡ option_map_or (λ node. child node.by_text level) o None)
    [ None ↦ refl | Some node ↦ cond-false (is_prefix level) (child node.by_prefix (take (length level - 1) level)) (child node.by_text level) h ]

pub next-prefix : (nodes : List Node) (at : ℕ) (level : List ℕ) → is_prefix level ≡ true → next nodes at level ≡ by_prefix nodes at (take (length level - 1) level)
next-prefix nodes at level h =
    elim (slice_get nodes at) as (λ o. option_map_or (λ node. child_at node level) o None ≡ option_map_or (λ node. child node.by_prefix (take (length level - 1) level)) o None)
    [ None ↦ refl | Some node ↦ cond-true (is_prefix level) (child node.by_prefix (take (length level - 1) level)) (child node.by_text level) h ]

pub next-made : (nodes : List Node) (at : ℕ) (q : List ℕ) → next nodes at (q ++ 42 ∷ []) ≡ by_prefix nodes at q
next-made nodes at q = next-prefix nodes at (q ++ 42 ∷ []) (prefix_made q) ∙ ap (by_prefix nodes at) (before_made q)

-- how a level matches another
matches_itself : (t : List ℕ) → is_prefix t ≡ false → level_matches t t ≡ true
matches_itself t h = cond-false (is_prefix t) (starts_with nat_eq t (take (length t - 1) t)) (bytes_eq t t) h ∙ (bytes_decides t t).1 refl

take_own : (n : ℕ) (t : List ℕ) → take (length (take n t)) t ≡ take n t
take_own zero t = refl
take_own (suc n) [] = refl
take_own (suc n) (x ∷ t) = ap (λ u. x ∷ u) (take_own n t)

matches_prefix : (n : ℕ) (t : List ℕ) → level_matches (take n t ++ 42 ∷ []) t ≡ true
matches_prefix n t =
    let q = take n t in
    cond-true (is_prefix (q ++ 42 ∷ [])) (starts_with nat_eq t (take (length (q ++ 42 ∷ []) - 1) (q ++ 42 ∷ []))) (bytes_eq (q ++ 42 ∷ []) t) (prefix_made q)
    ∙ ap (starts_with nat_eq t) (before_made q)
    ∙ (bytes_decides q (take (length q) t)).1 (sym (take_own n t))

-- some number below a bound passes
pub below_from : (test : ℕ → Bool) (bound : ℕ) → some_below test bound ≡ true → (n : ℕ) × (test n ≡ true)
below_from test zero h = absurd (true≢false (sym h))
below_from test (suc n) h =
    elim (or_cases (some_below test n) (test n) h) [ inl k ↦ below_from test n k | inr k ↦ (n, k) ]

pub below_at : (test : ℕ → Bool) (bound n : ℕ) → n < bound → test n ≡ true → some_below test bound ≡ true
below_at test zero n lt h = absurd (omega (arith, lt))
below_at test (suc bound) n lt h =
    elim (cases_lt n bound) [
      | inl less ↦ or_left (some_below test bound) (test bound) (below_at test bound n less h)
      | inr most ↦ or_right (some_below test bound) (test bound) (subst (λ k. test k ≡ true) (omega (arith, lt, most)) h)
    ]

module _ (nodes : List Node) (exception : Bool) (e : ℕ) where
  abbrev Led : Option ℕ → List (List ℕ) → Type 0
  Led from ts = (way : List (List ℕ)) × (rest : Bool) × (way_matches way rest ts ≡ true) × (has_number (held nodes from way rest exception).items e ≡ true)

  -- a step of a way
  step : (at : ℕ) (child : Option ℕ) (level t : List ℕ) (ts : List (List ℕ)) → next nodes at level ≡ child → level_matches level t ≡ true → Led child ts → Led (Some at) (t ∷ ts)
  step at child level t ts is matched led =
      (level ∷ led.0, led.1, (λ i. matched i && led.2 i), ap (λ from. has_number (option_map_or (endpoints_of nodes led.1 exception) (place nodes from led.0) nobody).items e) is ∙ led.3)

  pub found_by_way : ((at : ℕ) (text : List ℕ) (child : ℕ) → by_text nodes at text ≡ Some child → is_prefix text ≡ false) → (ts : List (List ℕ)) (from : Option ℕ) → finds nodes exception from ts e ≡ true → Led from ts
  found_by_way texts ts None h = absurd (true≢false (sym h))
  found_by_way texts [] (Some at) h = ([], false, refl, h)
  found_by_way texts (t ∷ ts) (Some at) h =
      elim (or_cases (has_number (endpoints_of nodes true exception at).items e) (finds nodes exception (by_text nodes at t) ts e || some_below (λ n. finds nodes exception (by_prefix nodes at (take n t)) ts e) (suc (length t))) h) [
        | inl here ↦ ([], true, refl, here)
        | inr later ↦ elim (or_cases (finds nodes exception (by_text nodes at t) ts e) (some_below (λ n. finds nodes exception (by_prefix nodes at (take n t)) ts e) (suc (length t))) later) [
          | inl text ↦
              let plain = text_child (by_text nodes at t) refl text in
              step at (by_text nodes at t) t t ts (next-text nodes at t plain) (matches_itself t plain) (found_by_way texts ts (by_text nodes at t) text)
          | inr prefix ↦
              let one = below_from (λ n. finds nodes exception (by_prefix nodes at (take n t)) ts e) (suc (length t)) prefix in
              step at (by_prefix nodes at (take one.0 t)) (take one.0 t ++ 42 ∷ []) t ts (next-made nodes at (take one.0 t)) (matches_prefix one.0 t) (found_by_way texts ts (by_prefix nodes at (take one.0 t)) one.1)
        ]
      ]
    where
      text_child : (o : Option ℕ) → by_text nodes at t ≡ o → finds nodes exception o ts e ≡ true → is_prefix t ≡ false
      text_child None is found = absurd (true≢false (sym found))
      text_child (Some child) is found = texts at t child is

  pub found_on_way : (ts : List (List ℕ)) (from : Option ℕ) (way : List (List ℕ)) (rest : Bool) → way_matches way rest ts ≡ true → has_number (held nodes from way rest exception).items e ≡ true → finds nodes exception from ts e ≡ true
  found_on_way ts None way rest matched there = absurd (true≢false (sym there))
  found_on_way [] (Some at) [] false matched there = there
  found_on_way [] (Some at) [] true matched there = absurd (true≢false (sym matched))
  found_on_way [] (Some at) (level ∷ more) rest matched there = absurd (true≢false (sym matched))
  found_on_way (t ∷ ts) (Some at) [] false matched there = absurd (true≢false (sym matched))
  found_on_way (t ∷ ts) (Some at) [] true matched there =
      or_left (has_number (endpoints_of nodes true exception at).items e) (finds nodes exception (by_text nodes at t) ts e || some_below (λ n. finds nodes exception (by_prefix nodes at (take n t)) ts e) (suc (length t))) there
  found_on_way (t ∷ ts) (Some at) (level ∷ more) rest matched there =
      let both = and_parts (level_matches level t) (way_matches more rest ts) matched in
      or_right (has_number (endpoints_of nodes true exception at).items e) (finds nodes exception (by_text nodes at t) ts e || some_below (λ n. finds nodes exception (by_prefix nodes at (take n t)) ts e) (suc (length t)))
      (one (is_prefix level) refl both.0 (found_on_way ts (next nodes at level) more rest both.1 there))
    where
      one : (b : Bool) → is_prefix level ≡ b → level_matches level t ≡ true → finds nodes exception (next nodes at level) ts e ≡ true
          → (finds nodes exception (by_text nodes at t) ts e || some_below (λ n. finds nodes exception (by_prefix nodes at (take n t)) ts e) (suc (length t))) ≡ true
      one false is matched found =
          let equal : level ≡ t = same_text level t (sym (sym (cond-false (is_prefix level) (starts_with nat_eq t (take (length level - 1) level)) (bytes_eq level t) is) ∙ matched)) in
          or_left (finds nodes exception (by_text nodes at t) ts e) (some_below (λ n. finds nodes exception (by_prefix nodes at (take n t)) ts e) (suc (length t)))
          (ap (λ u. finds nodes exception (by_text nodes at u) ts e) (sym equal) ∙ ap (λ o. finds nodes exception o ts e) (sym (next-text nodes at level is)) ∙ found)
      one true is matched found =
          let q = take (length level - 1) level in
          let equal : q ≡ take (length q) t = same_text q (take (length q) t) (sym (sym (cond-true (is_prefix level) (starts_with nat_eq t q) (bytes_eq level t) is) ∙ matched)) in
          or_right (finds nodes exception (by_text nodes at t) ts e) (some_below (λ n. finds nodes exception (by_prefix nodes at (take n t)) ts e) (suc (length t)))
          (below_at (λ n. finds nodes exception (by_prefix nodes at (take n t)) ts e) (suc (length t)) (length q) (shorter q t equal)
          (ap (λ u. finds nodes exception (by_prefix nodes at u) ts e) (sym equal) ∙ ap (λ o. finds nodes exception o ts e) (sym (next-prefix nodes at level is)) ∙ found))
        where
          shorter : (q t : List ℕ) → q ≡ take (length q) t → length q < suc (length t)
          shorter q t equal = let a = ap length equal in let b = length-take (length q) t in omega (arith, a, b)
