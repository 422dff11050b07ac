-- The bytes of copies that may end are at most those of all spooled copies, which fit on a sheet.
use Rattle.sp_copies.proofs.Marks.{eqb-turned}
use Rattle.sp_copies.specs.Counts.{used_in}
use Rattle.sp_copies.specs.History.{is_closed, is_made}
use Rattle.sp_copies.specs.declared.made.MadeCopy.{MadeCopy}
use Rattle.sp_copies.proofs.Chosen.{Apart}
use Rattle.sp_ending.specs.Ends.{MayEnd}
use Rattle.sp_ledger.proofs.Fits.{tally_small}
use Rattle.sp_ledger.proofs.Listed.{All-both, and_left, and_right, any_kept, pairs_head, pairs_tail}
use Rattle.sp_ledger.specs.Ledger.{Ledger}
use Rattle.sp_ledger.specs.Sound.{IsSound}
use Rattle.std.proofs.Common.{ap, arith, refl, subst, sym, ◌∙◌}
use Rattle.std.proofs.lemmas.Bool.{eqb-true}
use Rattle.std.proofs.lemmas.List.Elements.{All-filter, All-head, All-tail, All-weaker}
use Rattle.std.proofs.lemmas.List.Sums.{sum_by-cons}
use Rattle.std.specs.Prelude.{All, AllPairs, Bool, List, None, [], cond, false, filter, not, sum_by, true, ℕ, ◌+◌, ◌==◌}
use Rattle.std.specs.Prelude.{◌^◌, ◌||◌, ◌∷◌, ◌≡◌, ◌≤◌}

abbrev pub size_of_all : List MadeCopy → ℕ
size_of_all cs = sum_by (λ (c : MadeCopy). c.size) cs

-- the copies of other numbers
abbrev others : ℕ → List MadeCopy → List MadeCopy
others copy cs = filter (λ c. not (c.number == copy)) cs

fewer : (p : MadeCopy → Bool) (cs : List MadeCopy) → size_of_all (filter p cs) ≤ size_of_all cs
fewer p [] = omega arith
fewer p (c ∷ cs) = one (p c) (fewer p cs)
  where
    one : (b : Bool) → size_of_all (filter p cs) ≤ size_of_all cs →
        size_of_all (cond b (c ∷ filter p cs) (filter p cs)) ≤ size_of_all (c ∷ cs)
    one true rest =
        let a = sum_by-cons {X = MadeCopy} (λ x. x.size) c (filter p cs) in
        let b = sum_by-cons {X = MadeCopy} (λ x. x.size) c cs in
        omega (arith, rest, a, b)
    one false rest = let b = sum_by-cons {X = MadeCopy} (λ x. x.size) c cs in omega (arith, rest, b)

-- a copy is among others, under its own number
record IsIn (pool : List MadeCopy) (c : MadeCopy) : Type 0 where
  there : is_made pool c.number ≡ true
  own : All (λ d. (d.number == c.number) ≡ true → d ≡ c) pool

-- then the others and it are no more than all
one_out : (c : MadeCopy) (pool : List MadeCopy) → is_made pool c.number ≡ true →
    All (λ d. (d.number == c.number) ≡ true → d ≡ c) pool →
    c.size + size_of_all (others c.number pool) ≤ size_of_all pool
one_out c [] made own = absurd (cc)
one_out c (d ∷ ds) made own =
    one (d.number == c.number) refl made
    (λ k. one_out c ds k (All-tail (λ (y : MadeCopy). (y.number == c.number) ≡ true → y ≡ c) d ds own))
  where
    one : (b : Bool) → (d.number == c.number) ≡ b → (b || is_made ds c.number) ≡ true →
        (is_made ds c.number ≡ true → c.size + size_of_all (others c.number ds) ≤ size_of_all ds) →
        c.size + size_of_all (cond (not b) (d ∷ others c.number ds) (others c.number ds)) ≤ size_of_all (d ∷ ds)
    one true is k later =
        let it : d.size ≡ c.size =
        ap (λ (y : MadeCopy). y.size)
        (All-head (λ (y : MadeCopy). (y.number == c.number) ≡ true → y ≡ c) d ds own is) in
        let rest = fewer (λ y. not (y.number == c.number)) ds in
        let all = sum_by-cons {X = MadeCopy} (λ x. x.size) d ds in
        omega (arith, it, rest, all)
    one false is k later =
        let rest = later k in
        let a = sum_by-cons {X = MadeCopy} (λ x. x.size) d (others c.number ds) in
        let b = sum_by-cons {X = MadeCopy} (λ x. x.size) d ds in
        omega (arith, rest, a, b)

still_in : (c d : MadeCopy) (pool : List MadeCopy) → Apart c d → IsIn pool d → IsIn (others c.number pool) d
still_in c d pool apart is = record {
  there = any_kept {X = MadeCopy} (λ y. y.number == d.number) (λ y. not (y.number == c.number))
      (λ y own. let same : y.number ≡ d.number = eqb-true _ _ own in
      subst (λ n. not (n == c.number) ≡ true) (sym same) (ap not (eqb-turned d.number c.number ∙ apart))) pool is.there;
  own = All-filter (λ (y : MadeCopy). not (y.number == c.number))
      (λ (y : MadeCopy). (y.number == d.number) ≡ true → y ≡ d) pool is.own;
}

-- so copies of different numbers are no more than all among which they are
all_among : (cs pool : List MadeCopy) → All (IsIn pool) cs → AllPairs Apart cs → size_of_all cs ≤ size_of_all pool
all_among [] pool each apart = omega arith
all_among (c ∷ cs) pool each apart =
    let is = All-head (IsIn pool) c cs each in
    let out = one_out c pool is.there is.own in
    let rest = all_among cs (others c.number pool)
    (All-weaker (λ (d : MadeCopy). Apart c d × IsIn pool d) (IsIn (others c.number pool))
    (λ d both. still_in c d pool both.0 both.1) cs
    (All-both (Apart c) (IsIn pool) cs (pairs_head Apart c cs apart) (All-tail (IsIn pool) c cs each)))
    (pairs_tail Apart c cs apart) in
    let all = sum_by-cons {X = MadeCopy} (λ x. x.size) c cs in
    omega (arith, out, rest, all)

-- the spooled copies
abbrev open_in : Ledger → List MadeCopy
open_in L = filter (λ d. not (is_closed L.copies.closed d.number)) L.copies.made

-- a copy that may end is among them
is_open : (L : Ledger) (c : MadeCopy) → MayEnd L c → IsIn (open_in L) c
is_open L c may = record {
  there = any_kept {X = MadeCopy} (λ y. y.number == c.number) (λ y. not (is_closed L.copies.closed y.number))
      (λ y own. let same : y.number ≡ c.number = eqb-true _ _ own in
      subst (λ n. not (is_closed L.copies.closed n) ≡ true) (sym same)
      (and_right (is_made L.copies.made c.number) _ may.spooled)) L.copies.made
      (and_left (is_made L.copies.made c.number) _ may.spooled);
  own = All-filter (λ (y : MadeCopy). not (is_closed L.copies.closed y.number))
      (λ (y : MadeCopy). (y.number == c.number) ≡ true → y ≡ c) L.copies.made may.own;
}

pub ends_fit : (L : Ledger) → IsSound L → (cs : List MadeCopy) → All (MayEnd L) cs → AllPairs Apart cs →
    size_of_all cs ≤ 2 ^ 50
ends_fit L s cs each apart =
    let all = all_among cs (open_in L) (All-weaker (MayEnd L) (IsIn (open_in L)) (is_open L) cs each) apart in
    let few : used_in L.copies None ≤ 838860800000000 = let u = (tally_small L s None).used in omega (arith, u) in
    let same : size_of_all (open_in L) ≤ 838860800000000 = few in
    omega (arith, all, same)
