-- Tests of lists of numbers and of texts.
use Rattle.std.proofs.Common.{◌≡◌, ◌∙◌, ◌↔◌, ◌<◌, ℕ, Bool, true, false, not, ◌&&◌, ◌||◌, List, [], ◌∷◌, ◌++◌, get_or, refl, sym, ap, eqb}
use Rattle.std.specs.Prelude.{◌==◌, Contains, IsTrue, bytes_eq}
use Rattle.std.specs.List.{dedup, list_any}
use Rattle.std.specs.Cmp.Lexicographic.{same_text, bytes_decides}
use Rattle.std.proofs.lemmas.Bool.{eqb-true, eq-eqb}
use Rattle.std.proofs.lemmas.List.Folds.{list_any-append, list_any_at, Any-from_list_any}
use Rattle.std.proofs.lemmas.List.Kept.{Contains-dedup_nat, Contains-from_dedup}

pub same_tests : (a b : Bool) → (a ≡ true → b ≡ true) → (b ≡ true → a ≡ true) → a ≡ b
same_tests true b there back = sym (there refl)
same_tests false true there back = back refl
same_tests false false there back = refl

pub or_false : (b : Bool) → (b || false) ≡ b
or_false true = refl
or_false false = refl

pub and_comm : (a b : Bool) → (a && b) ≡ (b && a)
and_comm true true = refl
and_comm true false = refl
and_comm false true = refl
and_comm false false = refl

-- one more element
pub list_any_push : {X : Type 0} (p : X → Bool) (xs : List X) (x : X) → list_any p (xs ++ x ∷ []) ≡ (list_any p xs || p x)
list_any_push p xs x = list_any-append p xs (x ∷ []) ∙ ap (λ t. list_any p xs || t) (or_false (p x))

-- a number is in the list where the test for it finds one
pub Contains-from_list_any : (xs : List ℕ) (n : ℕ) → list_any (λ m. m == n) xs ≡ true → Contains xs n
Contains-from_list_any xs n h =
    let found = Any-from_list_any (λ m. m == n) xs h in
    let same : found.1 ≡ n = eqb-true found.1 n found.4 in
    (found.0, found.2, rw same at found.3)

pub list_any-from_Contains : (xs : List ℕ) (n : ℕ) → Contains xs n → list_any (λ m. m == n) xs ≡ true
list_any-from_Contains xs n h = list_any_at (λ m. m == n) xs h.0 n h.1 (eq-eqb (get_or xs h.0 n) n h.2)

-- a text with a test that passes, among texts of which some passes
pub text_passes : (test : List ℕ → Bool) (texts : List (List ℕ)) → list_any test texts ≡ true → (text : List ℕ) × (list_any (λ t. bytes_eq t text) texts ≡ true) × (test text ≡ true)
text_passes test texts h =
    let found = Any-from_list_any test texts h in
    (found.1, list_any_at (λ t. bytes_eq t found.1) texts found.0 found.1 found.2 ((bytes_decides (get_or texts found.0 found.1) found.1).1 found.3), found.4)

-- some text passes where one of them does
pub passes_some : (test : List ℕ → Bool) (texts : List (List ℕ)) (text : List ℕ) → list_any (λ t. bytes_eq t text) texts ≡ true → test text ≡ true → list_any test texts ≡ true
passes_some test texts text there h =
    let found = Any-from_list_any (λ t. bytes_eq t text) texts there in
    let equal : found.1 ≡ text = same_text found.1 text (sym found.4) in
    list_any_at test texts found.0 found.1 found.2 (ap test (found.3 ∙ equal) ∙ h)

pub deduped : (xs : List ℕ) (e : ℕ) → list_any (λ n. n == e) (dedup eqb xs) ≡ list_any (λ n. n == e) xs
deduped xs e =
    same_tests (list_any (λ n. n == e) (dedup eqb xs)) (list_any (λ n. n == e) xs)
    (λ h. list_any-from_Contains xs e (Contains-from_dedup eqb xs e (Contains-from_list_any (dedup eqb xs) e h)))
    (λ h. list_any-from_Contains (dedup eqb xs) e (Contains-dedup_nat xs e (Contains-from_list_any xs e h)))
