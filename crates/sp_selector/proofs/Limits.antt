-- All tokens are allowed exactly where few enough are counted.
use Rattle.std.proofs.Common.{◌≡◌, ◌+◌, ◌≤◌, ℕ, zero, suc, Bool, true, false, List, [], ◌∷◌, length, refl, arith}
use Rattle.std.specs.Prelude.{if◌then◌else◌}
use Rattle.sp_selector.specs.declared.token.Token.{Token}
use Rattle.sp_selector.specs.Scan.{is_counted, is_in, counted}
use Rattle.sp_selector.specs.Limit.{allowed}

none_left : (b : Bool) (a k n : ℕ) → (if b then 1 else 0) + k ≤ 0 → (k ≤ 0 → a ≡ n) → (if b then 0 else 1 + a) ≡ suc n
none_left true a k n few more = absurd (omega arith)
none_left false a k n few more = omega (arith, more (omega arith))

some_left : (b : Bool) (most k n : ℕ) (a : ℕ → ℕ) → (if b then 1 else 0) + k ≤ suc most → ((m : ℕ) → k ≤ m → a m ≡ n) → 1 + a (if b then most else suc most) ≡ suc n
some_left true most k n a few more = omega (arith, more most (omega arith))
some_left false most k n a few more = omega (arith, more (suc most) (omega arith))

pub allowed-counted : (most : ℕ) (after_in : Bool) (ts : List Token) → counted after_in ts ≤ most → allowed most after_in ts ≡ length ts
allowed-counted zero after_in [] few = refl
allowed-counted (suc most) after_in [] few = refl
allowed-counted zero after_in (t ∷ ts) few = none_left (is_counted after_in t) (allowed 0 (is_in t) ts) (counted (is_in t) ts) (length ts) few (allowed-counted zero (is_in t) ts)
allowed-counted (suc most) after_in (t ∷ ts) few = some_left (is_counted after_in t) most (counted (is_in t) ts) (length ts) (λ m. allowed m (is_in t) ts) few (λ m. allowed-counted m (is_in t) ts)

none_was_left : (b : Bool) (a k n : ℕ) → (if b then 0 else 1 + a) ≡ suc n → (a ≡ n → k ≤ 0) → (if b then 1 else 0) + k ≤ 0
none_was_left true a k n all more = absurd (omega arith)
none_was_left false a k n all more = omega (arith, more (omega arith))

some_was_left : (b : Bool) (most k n : ℕ) (a : ℕ → ℕ) → 1 + a (if b then most else suc most) ≡ suc n → ((m : ℕ) → a m ≡ n → k ≤ m) → (if b then 1 else 0) + k ≤ suc most
some_was_left true most k n a all more = omega (arith, more most (omega arith))
some_was_left false most k n a all more = omega (arith, more (suc most) (omega arith))

pub counted-allowed : (most : ℕ) (after_in : Bool) (ts : List Token) → allowed most after_in ts ≡ length ts → counted after_in ts ≤ most
counted-allowed zero after_in [] all = omega arith
counted-allowed (suc most) after_in [] all = omega arith
counted-allowed zero after_in (t ∷ ts) all = none_was_left (is_counted after_in t) (allowed 0 (is_in t) ts) (counted (is_in t) ts) (length ts) all (counted-allowed zero (is_in t) ts)
counted-allowed (suc most) after_in (t ∷ ts) all = some_was_left (is_counted after_in t) most (counted (is_in t) ts) (length ts) (λ m. allowed m (is_in t) ts) all (λ m. counted-allowed m (is_in t) ts)
