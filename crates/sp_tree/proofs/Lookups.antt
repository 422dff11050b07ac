-- Look-ups among the children of a node.
use Rattle.std.proofs.Common.{◌≡◌, ◌∙◌, ℕ, Bool, true, false, cond, List, [], ◌∷◌, ◌++◌, ◌-◌, map, take, drop, length, Option, None, Some, refl, sym, ap}
use Rattle.std.specs.Prelude.{bytes_eq, Vec}
use Rattle.std.specs.Map.{lookup}
use Rattle.std.specs.Cmp.Lexicographic.{same_text, bytes_decides}
use Rattle.std.proofs.lemmas.Bool.{cond-true, cond-false, false_from_ne_true, true≢false}
use Rattle.indexmap.specs.IndexMap.{insert_entry}
use Rattle.sp_tree.proofs.Searches.{same_tests}
use Rattle.sp_tree.proofs.Paths.{before_made, prefix_made, prefix_parts}
use Rattle.sp_tree.specs.Children.{child}
use Rattle.sp_tree.specs.Node.{is_prefix}

-- the keys as lists of bytes are looked up as the vectors are
pub seen : {A : Type 0} (text : List ℕ) (entries : List (Vec ℕ A × ℕ)) → child (map (λ e. (e.0.items, e.1)) entries) text ≡ lookup (λ key. bytes_eq text key.items) entries
seen text [] = refl
seen text (e ∷ es) = ap (cond (bytes_eq text e.0.items) (Some e.1)) (seen text es)

pub same_bytes : (s t : List ℕ) → bytes_eq s t ≡ bytes_eq t s
same_bytes s t = same_tests (bytes_eq s t) (bytes_eq t s)
    (λ h. (bytes_decides t s).1 (sym (same_text s t (sym h))))
    (λ h. (bytes_decides s t).1 (sym (same_text t s (sym h))))

abbrev key_eq : {A : Type 0} → Vec ℕ A → Vec ℕ A → Bool
key_eq x y = bytes_eq x.items y.items

-- after an insertion the text leads to the place, and each other one where it led
pub inserted : {A : Type 0} (key : Vec ℕ A) (place : ℕ) (entries : List (Vec ℕ A × ℕ)) (text : List ℕ) → lookup (λ k. bytes_eq text k.items) (insert_entry key_eq entries key place) ≡ cond (bytes_eq key.items text) (Some place) (lookup (λ k. bytes_eq text k.items) entries)
inserted key place [] text = ap (λ b. cond b (Some place) None) (same_bytes text key.items)
inserted key place (e ∷ es) text = one (bytes_eq key.items e.0.items) refl (inserted key place es text)
  where
    one : (b : Bool) → bytes_eq key.items e.0.items ≡ b
        → lookup (λ k. bytes_eq text k.items) (insert_entry key_eq es key place) ≡ cond (bytes_eq key.items text) (Some place) (lookup (λ k. bytes_eq text k.items) es)
        → lookup (λ k. bytes_eq text k.items) (cond b ((e.0, place) ∷ es) (e ∷ insert_entry key_eq es key place))
        ≡ cond (bytes_eq key.items text) (Some place) (cond (bytes_eq text e.0.items) (Some e.1) (lookup (λ k. bytes_eq text k.items) es))
    one true h later =
        let this : bytes_eq text e.0.items ≡ bytes_eq key.items text =
        ap (bytes_eq text) (sym (same_text key.items e.0.items (sym h))) ∙ same_bytes text key.items in
        elim (bytes_eq key.items text) as (λ b. bytes_eq text e.0.items ≡ b → cond (bytes_eq text e.0.items) (Some place) (lookup (λ k. bytes_eq text k.items) es) ≡ cond b (Some place) (cond (bytes_eq text e.0.items) (Some e.1) (lookup (λ k. bytes_eq text k.items) es))) [
          | true ↦ λ is. cond-true (bytes_eq text e.0.items) (Some place) (lookup (λ k. bytes_eq text k.items) es) is
          | false ↦ λ is. cond-false (bytes_eq text e.0.items) (Some place) (lookup (λ k. bytes_eq text k.items) es) is ∙ sym (cond-false (bytes_eq text e.0.items) (Some e.1) (lookup (λ k. bytes_eq text k.items) es) is)
        ] this
    one false h later = other (bytes_eq key.items text) refl
      where
        other : (b : Bool) → bytes_eq key.items text ≡ b → cond (bytes_eq text e.0.items) (Some e.1) (lookup (λ k. bytes_eq text k.items) (insert_entry key_eq es key place)) ≡ cond (bytes_eq key.items text) (Some place) (cond (bytes_eq text e.0.items) (Some e.1) (lookup (λ k. bytes_eq text k.items) es))
        other true is =
            let no_match : bytes_eq text e.0.items ≡ false = ap (λ s. bytes_eq s e.0.items) (sym (same_text key.items text (sym is))) ∙ h in
            cond-false (bytes_eq text e.0.items) (Some e.1) (lookup (λ k. bytes_eq text k.items) (insert_entry key_eq es key place)) no_match
            ∙ later ∙ cond-true (bytes_eq key.items text) (Some place) (lookup (λ k. bytes_eq text k.items) es) is
            ∙ sym (cond-true (bytes_eq key.items text) (Some place) (cond (bytes_eq text e.0.items) (Some e.1) (lookup (λ k. bytes_eq text k.items) es)) is)
        other false is =
            ap (cond (bytes_eq text e.0.items) (Some e.1)) (later ∙ cond-false (bytes_eq key.items text) (Some place) (lookup (λ k. bytes_eq text k.items) es) is)
            ∙ sym (cond-false (bytes_eq key.items text) (Some place) (cond (bytes_eq text e.0.items) (Some e.1) (lookup (λ k. bytes_eq text k.items) es)) is)

-- after a level that ends in `*` was named by what stands before it
pub named_prefix : (level prefix : List ℕ) (old new texts : List (List ℕ × ℕ)) (place : ℕ) → level ≡ prefix ++ 42 ∷ [] → ((other : List ℕ) → child new other ≡ cond (bytes_eq prefix other) (Some place) (child old other))
    → (other : List ℕ) → cond (is_prefix other) (child new (take (length other - 1) other)) (child texts other) ≡ cond (bytes_eq level other) (Some place) (cond (is_prefix other) (child old (take (length other - 1) other)) (child texts other))
named_prefix level prefix old new texts place is named other = one (is_prefix other) refl
  where
    q : List ℕ
    q = take (length other - 1) other

    one : (b : Bool) → is_prefix other ≡ b → cond (is_prefix other) (child new q) (child texts other) ≡ cond (bytes_eq level other) (Some place) (cond (is_prefix other) (child old q) (child texts other))
    one true h =
        cond-true (is_prefix other) (child new q) (child texts other) h ∙ named q
        ∙ (λ i. cond (same_level i) (Some place) (sym (cond-true (is_prefix other) (child old q) (child texts other) h) i))
      where
        same_level : bytes_eq prefix q ≡ bytes_eq level other
        same_level =
            same_tests (bytes_eq prefix q) (bytes_eq level other)
            (λ k. (bytes_decides level other).1 (is ∙ ap (λ p. p ++ 42 ∷ []) (same_text prefix q (sym k)) ∙ prefix_parts other h))
            (λ k. (bytes_decides prefix q).1 (sym (before_made prefix) ∙ ap (λ l. take (length l - 1) l) (sym is ∙ same_text level other (sym k))))
    one false h =
        let differs : bytes_eq level other ≡ false = false_from_ne_true (bytes_eq level other) (λ k. true≢false (sym (prefix_made prefix) ∙ ap is_prefix (sym is ∙ same_text level other (sym k)) ∙ h)) in
        cond-false (is_prefix other) (child new q) (child texts other) h
        ∙ sym (cond-false (is_prefix other) (child old q) (child texts other) h)
        ∙ sym (cond-false (bytes_eq level other) (Some place) (cond (is_prefix other) (child old q) (child texts other)) differs)

-- and after one that doesn't by itself
pub named_text : (level : List ℕ) (old new prefixes : List (List ℕ × ℕ)) (place : ℕ) → is_prefix level ≡ false → ((other : List ℕ) → child new other ≡ cond (bytes_eq level other) (Some place) (child old other))
    → (other : List ℕ) → cond (is_prefix other) (child prefixes (take (length other - 1) other)) (child new other) ≡ cond (bytes_eq level other) (Some place) (cond (is_prefix other) (child prefixes (take (length other - 1) other)) (child old other))
named_text level old new prefixes place plain named other = one (is_prefix other) refl
  where
    q : List ℕ
    q = take (length other - 1) other

    one : (b : Bool) → is_prefix other ≡ b → cond (is_prefix other) (child prefixes q) (child new other) ≡ cond (bytes_eq level other) (Some place) (cond (is_prefix other) (child prefixes q) (child old other))
    one true h =
        let differs : bytes_eq level other ≡ false = false_from_ne_true (bytes_eq level other) (λ k. true≢false (sym h ∙ ap is_prefix (sym (same_text level other (sym k))) ∙ plain)) in
        sym (cond-false (bytes_eq level other) (Some place) (cond (is_prefix other) (child prefixes q) (child old other)) differs ∙ cond-true (is_prefix other) (child prefixes q) (child old other) h ∙ sym (cond-true (is_prefix other) (child prefixes q) (child new other) h))
    one false h =
        cond-false (is_prefix other) (child prefixes q) (child new other) h ∙ named other
        ∙ ap (cond (bytes_eq level other) (Some place)) (sym (cond-false (is_prefix other) (child prefixes q) (child old other) h))

pub cut_prefix : (level prefix : List ℕ) → bytes_eq (drop (length level - 1) level) (42 ∷ []) ≡ true → prefix ≡ take (length level - 1) level → level ≡ prefix ++ 42 ∷ []
cut_prefix level prefix star before =
    sym (prefix_parts level (same_bytes (42 ∷ []) (drop (length level - 1) level) ∙ star))
    ∙ ap (λ p. p ++ 42 ∷ []) (sym before)
