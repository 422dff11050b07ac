-- Lists of which a test chooses elements, and lists of what a function makes of each element.
use Rattle.sp_copies.proofs.Counting.{filter-none}
use Rattle.sp_ledger.proofs.Listed.{pairs_head, pairs_tail}
use Rattle.std.proofs.Common.{ap, arith, refl, ◌∙◌}
use Rattle.std.proofs.lemmas.List.Elements.{All-cons, All-head, All-map, All-nil, All-tail, All-weaker}
use Rattle.std.proofs.lemmas.List.Folds.{list_any_none}
use Rattle.std.proofs.lemmas.List.Kept.{AllPairs-cons}
use Rattle.std.specs.Prelude.{All, AllPairs, Bool, List, None, Some, [], cond, false, filter, find, map, true, ◌&&◌}
use Rattle.std.specs.Prelude.{◌∷◌, ◌≡◌}

-- what holds of each element that passes
abbrev pub WherePasses : {X : Type 0} → (X → Bool) → (X → Type 0) → X → Type 0
WherePasses p P x = p x ≡ true → P x

-- is what holds of each that is kept
pub where_passes : {X : Type 0} (p : X → Bool) (P : X → Type 0) (xs : List X) → All P (filter p xs) →
    All (WherePasses p P) xs
where_passes {X} p P [] all = All-nil {X = X} (WherePasses p P)
where_passes {X} p P (x ∷ xs) all = one (p x) refl (where_passes p P xs) all
  where
    one : (b : Bool) → p x ≡ b → (All P (filter p xs) → All (WherePasses p P) xs) →
        All P (cond b (x ∷ filter p xs) (filter p xs)) → All (WherePasses p P) (x ∷ xs)
    one true is later k =
        All-cons {X = X} (WherePasses p P) x xs (λ h. All-head P x (filter p xs) k)
        (later (All-tail P x (filter p xs) k))
    one false is later k = All-cons {X = X} (WherePasses p P) x xs (λ h. absurd (cc)) (later k)

-- where an element passes and no later one does with it, it alone is kept
pub one_kept : {X : Type 0} (p : X → Bool) (xs : List X) (found : X) →
    AllPairs (λ x y. p x ≡ true → p y ≡ false) xs → find p xs ≡ Some found → filter p xs ≡ found ∷ []
one_kept p [] found alone is = absurd (cc)
one_kept {X} p (x ∷ xs) found alone is =
    one (p x) refl is (one_kept p xs found (pairs_tail {X = X} (λ y z. p y ≡ true → p z ≡ false) x xs alone))
  where
    rest : p x ≡ true → filter p xs ≡ []
    rest here = filter-none p xs
        (list_any_none p xs (All-weaker (λ (y : X). p x ≡ true → p y ≡ false) (λ (y : X). p y ≡ false)
        (λ y h. h here) xs (pairs_head {X = X} (λ y z. p y ≡ true → p z ≡ false) x xs alone)))

    one : (b : Bool) → p x ≡ b → cond b (Some x) (find p xs) ≡ Some found →
        (find p xs ≡ Some found → filter p xs ≡ found ∷ []) → cond b (x ∷ filter p xs) (filter p xs) ≡ found ∷ []
    one true here k later = let same :
        x ≡ found = cc in ap (λ y. y ∷ filter p xs) same ∙ ap (λ ys. found ∷ ys) (rest here)
    one false here k later = later k

-- where none is found, none is kept
pub none_kept : {X : Type 0} (p : X → Bool) (xs : List X) → find p xs ≡ None → filter p xs ≡ []
none_kept p [] is = refl
none_kept {X} p (x ∷ xs) is = one (p x) is (none_kept p xs)
  where
    one : (b : Bool) → cond b (Some x) (find p xs) ≡ None → (find p xs ≡ None → filter p xs ≡ []) →
        cond b (x ∷ filter p xs) (filter p xs) ≡ []
    one true k later = absurd (cc)
    one false k later = later k

-- a test that all pass keeps all
pub all_kept : {X : Type 0} (xs : List X) → filter (λ x. true) xs ≡ xs
all_kept [] = refl
all_kept (x ∷ xs) = ap (λ ys. x ∷ ys) (all_kept xs)

-- what two tests keep, one after the other
pub filter_twice : {X : Type 0} (p q : X → Bool) (xs : List X) → filter p (filter q xs) ≡ filter (λ x. q x && p x) xs
filter_twice p q [] = refl
filter_twice {X} p q (x ∷ xs) = one (q x) (filter_twice p q xs)
  where
    one : (b : Bool) → filter p (filter q xs) ≡ filter (λ y. q y && p y) xs →
        filter p (cond b (x ∷ filter q xs) (filter q xs)) ≡ cond (b && p x) (x ∷ filter (λ y. q y && p y) xs)
        (filter (λ y. q y && p y) xs)
    one true later = ap (λ rest. cond (p x) (x ∷ rest) rest) later
    one false later = later

-- a relation of what a function makes of each two elements
pub pairs_made : {X Y : Type 0} (R : Y → Y → Type 0) (f : X → Y) (xs : List X) →
    AllPairs (λ x y. R (f x) (f y)) xs → AllPairs R (map f xs)
pairs_made R f [] pairs = λ i j d lt le. absurd (omega arith)
pairs_made {X} {Y} R f (x ∷ xs) pairs =
    AllPairs-cons R (f x) (map f xs) (All-map (R (f x)) f xs (pairs_head {X = X} (λ y z. R (f y) (f z)) x xs pairs))
    (pairs_made R f xs (pairs_tail {X = X} (λ y z. R (f y) (f z)) x xs pairs))
