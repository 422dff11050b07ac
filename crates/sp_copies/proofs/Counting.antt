-- Counts and sums over the copies that were made, and over what a filter keeps.
use Rattle.std.proofs.Common.{◌≡◌, ◌≤◌, ◌<◌, ◌==◌, ℕ, ◌+◌, suc, Bool, true, false, not, ◌||◌, cond, List, [], ◌∷◌, refl, subst, ap, arith, ◌∙◌, All, AllPairs, count_by, sum_by, filter, length}
use Rattle.std.specs.List.{list_any}
use Rattle.std.proofs.lemmas.List.Elements.{All-head, All-tail, All-filter, filter_passes}
use Rattle.std.proofs.lemmas.List.Filters.{sum_by-filter_both}
use Rattle.std.proofs.lemmas.List.Sums.{sum_by-cons, sum_by-le-sum_by, length-filter}
use Rattle.std.proofs.lemmas.Bool.{eqb-true, or_parts}
use Rattle.sp_copies.specs.declared.made.MadeCopy.{MadeCopy}
use Rattle.sp_copies.specs.History.{is_made}

pub count-cons : (p : MadeCopy → Bool) (c : MadeCopy) (cs : List MadeCopy) → count_by p (c ∷ cs) ≡ cond (p c) 1 0 + count_by p cs
count-cons p c cs = sum_by-cons {X = MadeCopy} (λ x. cond (p x) 1 0) c cs

pub at-most-one : (b : Bool) → cond b 1 0 ≤ 1
at-most-one true = omega arith
at-most-one false = omega arith

one-le : (a b : Bool) → (a ≡ true → b ≡ true) → cond a 1 0 ≤ cond b 1 0
one-le false b h = omega arith
one-le true b h = rw (h refl) (omega arith)

-- a test that passes wherever another does counts as many or more
pub count-weaker : (p q : MadeCopy → Bool) → ((c : MadeCopy) → p c ≡ true → q c ≡ true) → (cs : List MadeCopy) → count_by p cs ≤ count_by q cs
count-weaker p q h cs = sum_by-le-sum_by {X = MadeCopy} (λ c. cond (p c) 1 0) (λ c. cond (q c) 1 0) cs (λ c. one-le (p c) (q c) (h c))

-- a stricter test that fails at a copy that was made counts fewer
pub count-fewer : (p q : MadeCopy → Bool) (copy : ℕ) → ((c : MadeCopy) → q c ≡ true → p c ≡ true) → ((c : MadeCopy) → c.number ≡ copy → p c ≡ true) → ((c : MadeCopy) → c.number ≡ copy → q c ≡ false) → (cs : List MadeCopy) → is_made cs copy ≡ true → count_by q cs + 1 ≤ count_by p cs
count-fewer p q copy all here gone [] made = absurd (cc)
count-fewer p q copy all here gone (c ∷ cs) made = rw (count-cons p c cs, count-cons q c cs) (one (λ m. count-fewer p q copy all here gone cs m) (c.number == copy) refl)
  where
    one : (is_made cs copy ≡ true → count_by q cs + 1 ≤ count_by p cs) → (b : Bool) → (c.number == copy) ≡ b → cond (q c) 1 0 + count_by q cs + 1 ≤ cond (p c) 1 0 + count_by p cs
    one later true h =
        let e : c.number ≡ copy = eqb-true _ _ h in
        rw (here c e, gone c e) (omega (arith, count-weaker q p all cs))
    one later false h = omega (arith, later (subst (λ b. (b || is_made cs copy) ≡ true) h made), one-le (q c) (p c) (all c))

-- a test that passes where another does, but for the copies of a number, counts at most those more
pub count-but-for : (p q : MadeCopy → Bool) (copy : ℕ) → ((c : MadeCopy) → (c.number == copy) ≡ false → q c ≡ true → p c ≡ true) → (cs : List MadeCopy) → count_by q cs ≤ count_by p cs + count_by (λ c. c.number == copy) cs
count-but-for p q copy h [] = omega arith
count-but-for p q copy h (c ∷ cs) = rw (count-cons p c cs, count-cons q c cs, count-cons (λ x. x.number == copy) c cs) (one (count-but-for p q copy h cs) (c.number == copy) refl)
  where
    one : count_by q cs ≤ count_by p cs + count_by (λ (x : MadeCopy). x.number == copy) cs → (b : Bool) → (c.number == copy) ≡ b → cond (q c) 1 0 + count_by q cs ≤ cond (p c) 1 0 + count_by p cs + (cond (c.number == copy) 1 0 + count_by (λ (x : MadeCopy). x.number == copy) cs)
    one rest true e = rw e (omega (arith, at-most-one (q c)))
    one rest false e = rw e (omega (arith, one-le (q c) (p c) (h c e)))

-- the parts of a list that rises
pub head_below : (c : MadeCopy) (cs : List MadeCopy) → AllPairs (λ (a b : MadeCopy). a.number < b.number) (c ∷ cs) → All (λ (b : MadeCopy). c.number < b.number) cs
head_below c cs p k d lt = p 0 (suc k) d (omega arith) (omega arith)

pub tail_rises : (c : MadeCopy) (cs : List MadeCopy) → AllPairs (λ (a b : MadeCopy). a.number < b.number) (c ∷ cs) → AllPairs (λ (a b : MadeCopy). a.number < b.number) cs
tail_rises c cs p i j d lt le = p (suc i) (suc j) d (omega arith) (omega arith)

none-above : (n : ℕ) (cs : List MadeCopy) → All (λ (b : MadeCopy). n < b.number) cs → count_by (λ c. c.number == n) cs ≡ 0
none-above n [] all = refl
none-above n (c ∷ cs) all = count-cons (λ x. x.number == n) c cs ∙ one (none-above n cs (All-tail (λ (b : MadeCopy). n < b.number) c cs all)) (c.number == n) refl
  where
    one : count_by (λ (x : MadeCopy). x.number == n) cs ≡ 0 → (b : Bool) → (c.number == n) ≡ b → cond (c.number == n) 1 0 + count_by (λ (x : MadeCopy). x.number == n) cs ≡ 0
    one rest true h =
        let e : c.number ≡ n = eqb-true _ _ h in
        let lt : n < c.number = All-head (λ (b : MadeCopy). n < b.number) c cs all in
        absurd (omega arith)
    one rest false h = rw h (omega arith)

-- where numbers rise, each stands at most once
pub once-made : (n : ℕ) (cs : List MadeCopy) → AllPairs (λ (a b : MadeCopy). a.number < b.number) cs → count_by (λ c. c.number == n) cs ≤ 1
once-made n [] rises = omega arith
once-made n (c ∷ cs) rises = rw (count-cons (λ x. x.number == n) c cs) (one (once-made n cs (tail_rises c cs rises)) (c.number == n) refl)
  where
    one : count_by (λ (x : MadeCopy). x.number == n) cs ≤ 1 → (b : Bool) → (c.number == n) ≡ b → cond (c.number == n) 1 0 + count_by (λ (x : MadeCopy). x.number == n) cs ≤ 1
    one rest true h = rw h (omega (arith, none-above n cs (subst (λ k. All (λ (b : MadeCopy). k < b.number) cs) (eqb-true _ _ h) (head_below c cs rises))))
    one rest false h = rw h (omega arith)

-- a sum over what a stricter test keeps is as large or smaller
pub sum-weaker : (f : MadeCopy → ℕ) (p q : MadeCopy → Bool) → ((c : MadeCopy) → p c ≡ true → q c ≡ true) → (cs : List MadeCopy) → sum_by f (filter p cs) ≤ sum_by f (filter q cs)
sum-weaker f p q h [] = omega arith
sum-weaker f p q h (c ∷ cs) = step (p c) (q c) (h c) (sum-weaker f p q h cs)
  where
    step : (a b : Bool) → (a ≡ true → b ≡ true) → sum_by f (filter p cs) ≤ sum_by f (filter q cs) → sum_by f (cond a (c ∷ filter p cs) (filter p cs)) ≤ sum_by f (cond b (c ∷ filter q cs) (filter q cs))
    step true true h k = rw (sum_by-cons f c (filter p cs), sum_by-cons f c (filter q cs)) (omega arith)
    step true false h k = let e : false ≡ true = h refl in absurd (cc)
    step false true h k = rw (sum_by-cons f c (filter q cs)) (omega arith)
    step false false h k = k

-- nothing passes a test that no element passes
pub filter-none : {X : Type 0} (p : X → Bool) (xs : List X) → list_any p xs ≡ false → filter p xs ≡ []
filter-none p [] h = refl
filter-none p (x ∷ xs) h = let both = or_parts (p x) (list_any p xs) h in rw (both.0) (filter-none p xs both.1)

pub count-none : {X : Type 0} (p : X → Bool) (xs : List X) → list_any p xs ≡ false → count_by p xs ≡ 0
count-none {X} p xs h = omega (arith, length-filter p xs, ap length (filter-none p xs h))

-- a filter keeps of each as many or fewer
pub count-filter : {X : Type 0} (p q : X → Bool) (xs : List X) → count_by p (filter q xs) ≤ count_by p xs
count-filter p q xs = omega (arith, sum_by-filter_both q (λ x. not (q x)) (λ x. refl) (λ x. cond (p x) 1 0) xs)

-- what a filter keeps has what its elements have where they pass
pub All-kept : {X : Type 0} (p : X → Bool) (P Q : X → Type 0) → ((x : X) → p x ≡ true → P x → Q x) → (xs : List X) → All P xs → All Q (filter p xs)
All-kept p P Q h xs all = λ k d lt. h _ (filter_passes p xs k d lt) (All-filter p P xs all k d lt)
