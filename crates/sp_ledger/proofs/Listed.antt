-- Lists that are looked through, and grow or lose elements.
use Rattle.std.proofs.Common.{ap, arith, refl, subst, suc, sym, zero, ◌∙◌}
use Rattle.std.proofs.lemmas.Bool.{eqb-true}
use Rattle.std.proofs.lemmas.List.Elements.{All-cons, All-head, All-map, All-nil, All-tail, All-take, All-weaker}
use Rattle.std.proofs.lemmas.List.Elements.{filter_passes}
use Rattle.std.proofs.lemmas.List.Folds.{list_any-append}
use Rattle.std.proofs.lemmas.List.Kept.{AllPairs-cons}
use Rattle.std.proofs.lemmas.List.Sums.{sum_by-cons}
use Rattle.std.specs.List.{list_any}
use Rattle.std.specs.Prelude.{All, AllPairs, Bool, List, Some, [], cond, count_by, false, filter, find, is_some, map}
use Rattle.std.specs.Prelude.{not, take, true, ℕ, ◌&&◌, ◌++◌, ◌+◌, ◌<◌, ◌==◌, ◌||◌, ◌∷◌, ◌≡◌}

pub or_left : (a b : Bool) → a ≡ true → (a || b) ≡ true
or_left true b h = refl
or_left false b h = absurd (cc)

pub or_right : (a b : Bool) → b ≡ true → (a || b) ≡ true
or_right true b h = refl
or_right false b h = h

-- one of two that holds, on either side
pub or_both : (a b c d : Bool) → (a ≡ true → c ≡ true) → (b ≡ true → d ≡ true) → (a || b) ≡ true → (c || d) ≡ true
or_both true b c d f g h = or_left c d (f refl)
or_both false b c d f g h = or_right c d (g h)

pub and_left : (a b : Bool) → (a && b) ≡ true → a ≡ true
and_left true b h = refl
and_left false b h = absurd (cc)

pub and_right : (a b : Bool) → (a && b) ≡ true → b ≡ true
and_right true b h = h
and_right false b h = absurd (cc)

pub and_both : (a b : Bool) → a ≡ true → b ≡ true → (a && b) ≡ true
and_both true b h k = k
and_both false b h k = absurd (cc)

pub not_true : (a : Bool) → not a ≡ true → a ≡ false
not_true true h = absurd (cc)
not_true false h = refl

pub not_false : (a : Bool) → not a ≡ false → a ≡ true
not_false true h = refl
not_false false h = absurd (cc)

-- what is found stays found where the list grows behind
pub any_grows : {X : Type 0} (p : X → Bool) (xs ys : List X) → list_any p xs ≡ true → list_any p (xs ++ ys) ≡ true
any_grows p xs ys h = list_any-append p xs ys ∙ or_left _ _ h

pub any_last : {X : Type 0} (p : X → Bool) (xs : List X) (x : X) → p x ≡ true → list_any p (xs ++ x ∷ []) ≡ true
any_last p xs x h = list_any-append p xs (x ∷ []) ∙ or_right _ _ (or_left _ _ h)

pub any_weaker : {X : Type 0} (p q : X → Bool) → ((x : X) → p x ≡ true → q x ≡ true) → (xs : List X) →
    list_any p xs ≡ true → list_any q xs ≡ true
any_weaker p q w [] h = absurd (cc)
any_weaker p q w (x ∷ xs) h = or_both (p x) (list_any p xs) (q x) (list_any q xs) (w x) (any_weaker p q w xs) h

-- what is found stays found where nothing of it is dropped
pub any_kept : {X : Type 0} (p q : X → Bool) → ((x : X) → p x ≡ true → q x ≡ true) → (xs : List X) →
    list_any p xs ≡ true → list_any p (filter q xs) ≡ true
any_kept p q w [] h = absurd (cc)
any_kept {X} p q w (x ∷ xs) h = one (any_kept p q w xs) (q x) refl
  where
    here : (b : Bool) → p x ≡ b → b ≡ false → (p x || list_any p xs) ≡ true → list_any p xs ≡ true
    here true is no_true k = absurd (cc)
    here false is no_true k = subst (λ b. (b || list_any p xs) ≡ true) is k

    dropped : q x ≡ false → (b : Bool) → p x ≡ b → b ≡ false
    dropped isnt true is = absurd (let yes : q x ≡ true = w x is in cc)
    dropped isnt false is = refl

    one : (list_any p xs ≡ true → list_any p (filter q xs) ≡ true) → (b : Bool) → q x ≡ b →
        list_any p (cond b (x ∷ filter q xs) (filter q xs)) ≡ true
    one later true is = or_both (p x) (list_any p xs) (p x) (list_any p (filter q xs)) (λ k. k) later h
    one later false is = later (here (p x) refl (dropped is (p x) refl) h)

-- a test of what a function makes of each element
pub list_any-map : {X Y : Type 0} (p : Y → Bool) (f : X → Y) (xs : List X) →
    list_any p (map f xs) ≡ list_any (λ x. p (f x)) xs
list_any-map p f [] = refl
list_any-map p f (x ∷ xs) = ap (λ more. p (f x) || more) (list_any-map p f xs)

-- what is found stays found where each element becomes one that passes too
pub any_mapped : {X : Type 0} (p : X → Bool) (f : X → X) → ((x : X) → p x ≡ true → p (f x) ≡ true) → (xs : List X) →
    list_any p xs ≡ true → list_any p (map f xs) ≡ true
any_mapped p f w xs h = list_any-map p f xs ∙ any_weaker p (λ x. p (f x)) w xs h

-- what is found by one test is found by another where that passes each element that the first does
pub any_where : {X : Type 0} (p q : X → Bool) (xs : List X) → All (λ x. p x ≡ true → q x ≡ true) xs →
    list_any p xs ≡ true → list_any q xs ≡ true
any_where p q [] all h = absurd (cc)
any_where {X} p q (x ∷ xs) all h =
    or_both (p x) (list_any p xs) (q x) (list_any q xs) (All-head (λ (y : X). p y ≡ true → q y ≡ true) x xs all)
    (any_where p q xs (All-tail (λ (y : X). p y ≡ true → q y ≡ true) x xs all)) h

-- each element that passes its own test is found by it
pub any_self : {X : Type 0} (q : X → X → Bool) (xs : List X) → All (λ x. q x x ≡ true → list_any (q x) xs ≡ true) xs
any_self {X} q [] = All-nil (λ (x : X). q x x ≡ true → list_any (q x) [] ≡ true)
any_self {X} q (x ∷ xs) =
    All-cons (λ (y : X). q y y ≡ true → list_any (q y) (x ∷ xs) ≡ true) x xs
    (λ h. or_left (q x x) (list_any (q x) xs) h)
    (All-weaker (λ (y : X). q y y ≡ true → list_any (q y) xs ≡ true)
    (λ (y : X). q y y ≡ true → list_any (q y) (x ∷ xs) ≡ true)
    (λ y f h. or_right (q y x) (list_any (q y) xs) (f h)) xs (any_self q xs))

-- what is found first stays first where the list grows behind
pub find_stays : {X : Type 0} (p : X → Bool) (xs ys : List X) (x : X) → find p xs ≡ Some x → find p (xs ++ ys) ≡ Some x
find_stays p [] ys x h = absurd (cc)
find_stays {X} p (y ∷ xs) ys x h = one (find_stays p xs ys x) (p y) h
  where
    one : (find p xs ≡ Some x → find p (xs ++ ys) ≡ Some x) → (b : Bool) → cond b (Some y) (find p xs) ≡ Some x →
        cond b (Some y) (find p (xs ++ ys)) ≡ Some x
    one later true k = k
    one later false k = later k

-- what is found passes the test
pub find_passes : {X : Type 0} (p : X → Bool) (xs : List X) (x : X) → find p xs ≡ Some x → p x ≡ true
find_passes p [] x h = absurd (cc)
find_passes {X} p (y ∷ xs) x h = one (find_passes p xs x) (p y) refl h
  where
    one : (find p xs ≡ Some x → p x ≡ true) → (b : Bool) → p y ≡ b → cond b (Some y) (find p xs) ≡ Some x → p x ≡ true
    one later true is k = let same : y ≡ x = cc in subst (λ z. p z ≡ true) same is
    one later false is k = later k

-- and is among those that were looked through
pub All-find : {X : Type 0} (P : X → Type 0) (test : X → Bool) (xs : List X) (x : X) → All P xs →
    find test xs ≡ Some x → P x
All-find P test [] x all e = absurd (cc)
All-find {X} P test (y ∷ ys) x all e = one (All-find P test ys x (All-tail P y ys all)) (test y) e
  where
    one : (find test ys ≡ Some x → P x) → (b : Bool) → cond b (Some y) (find test ys) ≡ Some x → P x
    one later true h = let same : y ≡ x = cc in subst P same (All-head P y ys all)
    one later false h = later h

-- where nothing is found, no element passes the test
pub none_found : {X : Type 0} (p : X → Bool) (xs : List X) → is_some (find p xs) ≡ false → All (λ x. p x ≡ false) xs
none_found {X} p [] h = All-nil (λ (x : X). p x ≡ false)
none_found {X} p (x ∷ xs) h = one (none_found p xs) (p x) refl h
  where
    one : (is_some (find p xs) ≡ false → All (λ (y : X). p y ≡ false) xs) → (b : Bool) → p x ≡ b →
        is_some (cond b (Some x) (find p xs)) ≡ false → All (λ (y : X). p y ≡ false) (x ∷ xs)
    one later true is k = absurd (cc)
    one later false is k = All-cons (λ (y : X). p y ≡ false) x xs is (later k)

-- nor where none is counted
pub none_counted : {X : Type 0} (p : X → Bool) (xs : List X) → count_by p xs ≡ 0 → All (λ x. p x ≡ false) xs
none_counted {X} p [] h = All-nil (λ (x : X). p x ≡ false)
none_counted {X} p (x ∷ xs) h =
    one (none_counted p xs) (p x) refl (sym (sum_by-cons {X = X} (λ y. cond (p y) 1 0) x xs) ∙ h)
  where
    one : (count_by p xs ≡ 0 → All (λ (y : X). p y ≡ false) xs) → (b : Bool) → p x ≡ b →
        cond (p x) 1 0 + count_by p xs ≡ 0 → All (λ (y : X). p y ≡ false) (x ∷ xs)
    one later true is k = let some :
        1 + count_by p xs ≡ 0 = subst (λ b. cond b 1 0 + count_by p xs ≡ 0) is k in absurd (omega arith)
    one later false is k =
        All-cons (λ (y : X). p y ≡ false) x xs is
        (later (let rest : 0 + count_by p xs ≡ 0 = subst (λ b. cond b 1 0 + count_by p xs ≡ 0) is k in omega arith))

-- what was found is found by a test
pub any_found : {X : Type 0} (p q : X → Bool) (xs : List X) (x : X) → find p xs ≡ Some x → q x ≡ true →
    list_any q xs ≡ true
any_found p q [] x h k = absurd (cc)
any_found {X} p q (y ∷ xs) x h k = one (λ e. any_found p q xs x e k) (p y) h
  where
    one : (find p xs ≡ Some x → list_any q xs ≡ true) → (b : Bool) → cond b (Some y) (find p xs) ≡ Some x →
        (q y || list_any q xs) ≡ true
    one later true e = let same : y ≡ x = cc in or_left (q y) (list_any q xs) (subst (λ z. q z ≡ true) (sym same) k)
    one later false e = or_right (q y) (list_any q xs) (later e)

-- each kept element passes the test
pub All-kept : {X : Type 0} (p : X → Bool) (xs : List X) → All (λ x. p x ≡ true) (filter p xs)
All-kept p xs = filter_passes p xs

-- two facts of each element
pub All-both : {X : Type 0} (P Q : X → Type 0) (xs : List X) → All P xs → All Q xs → All (λ x. P x × Q x) xs
All-both {X} P Q [] p q = All-nil (λ (x : X). P x × Q x)
All-both {X} P Q (x ∷ xs) p q =
    All-cons (λ (y : X). P y × Q y) x xs (All-head P x xs p, All-head Q x xs q)
    (All-both P Q xs (All-tail P x xs p) (All-tail Q x xs q))

-- the parts of a list whose elements stand in a relation to all later ones
pub pairs_head : {X : Type 0} (R : X → X → Type 0) (x : X) (xs : List X) → AllPairs R (x ∷ xs) → All (R x) xs
pairs_head R x xs p k d lt = p 0 (suc k) d (omega arith) (omega arith)

pub pairs_tail : {X : Type 0} (R : X → X → Type 0) (x : X) (xs : List X) → AllPairs R (x ∷ xs) → AllPairs R xs
pairs_tail R x xs p i j d lt le = p (suc i) (suc j) d (omega arith) (omega arith)

pub pairs_take : {X : Type 0} (R : X → X → Type 0) (n : ℕ) (xs : List X) → AllPairs R xs → AllPairs R (take n xs)
pairs_take R zero xs p = pairs_none R
  where
    pairs_none : {X : Type 0} (R : X → X → Type 0) → AllPairs R []
    pairs_none R i j d lt le = absurd (omega arith)
pairs_take R (suc n) [] p = p
pairs_take {X} R (suc n) (x ∷ xs) p =
    AllPairs-cons R x (take n xs) (All-take (R x) n xs (pairs_head R x xs p)) (pairs_take R n xs (pairs_tail R x xs p))

-- the relation stays where each element becomes one that stands in it as before
pub pairs_map : {X : Type 0} (R : X → X → Type 0) (f : X → X) (P : X → Type 0) →
    ((x y : X) → P x → P y → R x y → R (f x) (f y)) → (xs : List X) → All P xs → AllPairs R xs → AllPairs R (map f xs)
pairs_map R f P w [] all pairs = pairs
pairs_map {X} R f P w (x ∷ xs) all pairs =
    let rest = All-tail P x xs all in
    AllPairs-cons R (f x) (map f xs)
    (All-map (R (f x)) f xs
    (All-weaker (λ (y : X). P y × R x y) (λ (y : X). R (f x) (f y))
    (λ y both. w x y (All-head P x xs all) both.0 both.1) xs (All-both P (R x) xs rest (pairs_head R x xs pairs))))
    (pairs_map R f P w xs rest (pairs_tail R x xs pairs))

-- a lesser number is another one
pub lesser_is_not : (n m : ℕ) → n < m → (n == m) ≡ false
lesser_is_not n m lt = one (n == m) refl
  where
    one : (b : Bool) → (n == m) ≡ b → (n == m) ≡ false
    one false h = h
    one true h = let e : n ≡ m = eqb-true _ _ h in absurd (omega arith)

-- what holds of each element holds of one that is found
pub All-any : {X : Type 0} (P : X → Type 0) (Q : Type 0) (p : X → Bool) (xs : List X) → All P xs →
    ((x : X) → P x → p x ≡ true → Q) → list_any p xs ≡ true → Q
All-any P Q p [] all use_it h = absurd (cc)
All-any {X} P Q p (x ∷ xs) all use_it h = one (All-any P Q p xs (All-tail P x xs all) use_it) (p x) refl h
  where
    one : (list_any p xs ≡ true → Q) → (b : Bool) → p x ≡ b → (b || list_any p xs) ≡ true → Q
    one later true is k = use_it x (All-head P x xs all) is
    one later false is k = later k
