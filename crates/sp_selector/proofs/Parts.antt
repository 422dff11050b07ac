-- The tokens before the one that is beyond the limit, and the others.
use Rattle.std.proofs.Common.{◌≡◌, ◌+◌, ◌<◌, ◌≤◌, ◌++◌, ℕ, zero, suc, Bool, true, false, List, [], ◌∷◌, length, refl, sym, ap, arith}
use Rattle.std.specs.Prelude.{if◌then◌else◌}
use Rattle.std.proofs.lemmas.Bool.{cond-true, cond-false}
use Rattle.sp_selector.specs.declared.token.Token.{Token}
use Rattle.sp_selector.specs.Limit.{allowed}
use Rattle.sp_selector.specs.Scan.{is_counted, is_in, counted}

abbrev pub Beyond : ℕ → Bool → List Token → List Token → Type 0
Beyond most b front [] = Unit {0}
Beyond most b front (t ∷ ts) = most < counted b (front ++ t ∷ [])

pub record Parts (most : ℕ) (b : Bool) (ts : List Token) : Type 0 where
  pub front : List Token
  pub behind : List Token
  pub all : ts ≡ front ++ behind
  pub many : length front ≡ allowed most b ts
  pub few : counted b front ≤ most
  pub beyond : Beyond most b front behind

none_allowed : (b : Bool) (t : Token) (ts : List Token) → is_counted b t ≡ true → Parts 0 b (t ∷ ts)
none_allowed b t ts is = record {
  front = [];
  behind = t ∷ ts;
  all = refl;
  many = sym (cond-true (is_counted b t) 0 (1 + allowed 0 (is_in t) ts) is);
  few = omega arith;
  beyond = omega (arith, cond-true {A = ℕ} (is_counted b t) 1 0 is);
}

further_beyond : (most less : ℕ) (b : Bool) (t : Token) (front behind : List Token) → (if is_counted b t then 1 else 0) + less ≡ most → Beyond less (is_in t) front behind → Beyond most b (t ∷ front) behind
further_beyond most less b t front [] sum h = tt
further_beyond most less b t front (u ∷ us) sum h = omega arith

one_allowed : (most less : ℕ) (b : Bool) (t : Token) (ts : List Token) → (if is_counted b t then 1 else 0) + less ≡ most → allowed most b (t ∷ ts) ≡ 1 + allowed less (is_in t) ts → Parts less (is_in t) ts → Parts most b (t ∷ ts)
one_allowed most less b t ts sum next p = record {
  front = t ∷ p.front;
  behind = p.behind;
  all = ap (λ us. t ∷ us) p.all;
  many = omega (arith, p.many);
  few = omega (arith, p.few);
  beyond = further_beyond most less b t p.front p.behind sum p.beyond;
}

pub parts : (most : ℕ) (b : Bool) (ts : List Token) → Parts most b ts
parts zero b [] = record { front = []; behind = []; all = refl; many = refl; few = omega arith; beyond = tt }
parts (suc most) b [] = record { front = []; behind = []; all = refl; many = refl; few = omega arith; beyond = tt }
parts zero b (t ∷ ts) = by_test (is_counted b t) refl (parts zero (is_in t) ts)
  where
    by_test : (c : Bool) → is_counted b t ≡ c → Parts 0 (is_in t) ts → Parts 0 b (t ∷ ts)
    by_test true is p = none_allowed b t ts is
    by_test false is p = one_allowed 0 0 b t ts (omega (arith, cond-false {A = ℕ} (is_counted b t) 1 0 is)) (cond-false (is_counted b t) 0 (1 + allowed 0 (is_in t) ts) is) p
parts (suc most) b (t ∷ ts) = by_test (is_counted b t) refl (parts most (is_in t) ts) (parts (suc most) (is_in t) ts)
  where
    by_test : (c : Bool) → is_counted b t ≡ c → Parts most (is_in t) ts → Parts (suc most) (is_in t) ts → Parts (suc most) b (t ∷ ts)
    by_test true is p q = one_allowed (suc most) most b t ts (omega (arith, cond-true {A = ℕ} (is_counted b t) 1 0 is)) (ap (λ n. 1 + allowed n (is_in t) ts) (cond-true (is_counted b t) most (suc most) is)) p
    by_test false is p q = one_allowed (suc most) (suc most) b t ts (omega (arith, cond-false {A = ℕ} (is_counted b t) 1 0 is)) (ap (λ n. 1 + allowed n (is_in t) ts) (cond-false (is_counted b t) most (suc most) is)) q

-- more tokens are no fewer counted ones
pub counted_front : (b : Bool) (ts us : List Token) → counted b ts ≤ counted b (ts ++ us)
counted_front b [] us = omega arith
counted_front b (t ∷ ts) us = omega (arith, counted_front (is_in t) ts us)
