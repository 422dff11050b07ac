-- The text of a fixed number is read as the number.
use Rattle.std.proofs.Common.{◌≡◌, ◌∙◌, ◌+◌, ◌-◌, ◌*◌, ◌^◌, ◌/◌, ◌%◌, ◌<◌, ◌≤◌, ◌++◌, ℕ, zero, suc, Bool, true, false, List, [], ◌∷◌, Some, None, length, drop, take, refl, ap, ap₂, sym, subst, arith}
use Rattle.std.specs.Prelude.{◌==◌, ◌&&◌, if◌then◌else◌, nat_le, ℤ, pos, negsuc, neg_ℤ, unsigned_abs, slice_index}
use Rattle.std.specs.Fmt.{decimal}
use Rattle.std.specs.Int.{IsInRange, is_negative}
use Rattle.std.specs.List.{fold, list_all, position_or_len}
use Rattle.std.specs.Option.{option_map}
use Rattle.std.proofs.Math.Nat.{div-add-mod, div-lt_iff_lt-mul, mod-lt, pow-suc}
use Rattle.std.proofs.Math.Seq.{take-append_seam, drop-append-add}
use Rattle.std.proofs.lemmas.Bool.{cond-true}
use Rattle.std.proofs.lemmas.Bool.Decides.{nat_tests}
use Rattle.std.proofs.lemmas.Fmt.{decimal_nonempty, digits_decimal, digits_value-decimal}
use Rattle.std.proofs.lemmas.Grind.{pow_more}
use Rattle.std.proofs.lemmas.Str.Parse.{FoldsDigits, IsDigitsTest, IsNumeralModel, numerals_by_fold}
use Rattle.sp_message.specs.Decimal.{decimal_part, fixed_of, fixed_text, has_minus, is_digit, joined, millionths_of, number_of, places_of, unsigned_fixed_of, whole_of, whole_part, with_digit}
use Rattle.sp_message.proofs.Digits.{split_and, unit_positive}

-- ---- the digits of a whole number

in_range : (b : ℕ) → is_digit b ≡ true → IsInRange 48 57 b
in_range b h = grind (arith, nat_tests)

is_in_range : (b : ℕ) → IsInRange 48 57 b → is_digit b ≡ true
is_in_range b h = grind (arith, nat_tests, h.0, h.1)

both : (a b : Bool) → a ≡ true → b ≡ true → (a && b) ≡ true
both a b h k = rw h k

tells : IsDigitsTest (λ ds. list_all is_digit ds ≡ true)
tells = record {
  empty = refl;
  parts = λ b ds h. (in_range b (split_and (is_digit b) (list_all is_digit ds) h).0, (split_and (is_digit b) (list_all is_digit ds) h).1);
  more = λ b ds h k. both (is_digit b) (list_all is_digit ds) (is_in_range b h) k;
}

folds : FoldsDigits (λ n ds. fold with_digit n ds)
folds = record { empty = λ n. refl; more = λ n b ds h. refl }

own : IsNumeralModel (λ ds. list_all is_digit ds ≡ true) (λ ds. fold with_digit 0 ds)
own = numerals_by_fold (λ ds. list_all is_digit ds ≡ true) tells (λ n ds. fold with_digit n ds) folds

-- the text of a whole number is read as the number
pub whole_back : (n : ℕ) → n < 2 ^ 63 → whole_of (decimal n) ≡ Some n
whole_back n h =
    let wide : n < 2 ^ 64 = omega (arith, h) in
    let some : nat_le 1 (length (decimal n)) ≡ true = at_least (length (decimal n)) (decimal_nonempty n wide) in
    let is : number_of (decimal n) ≡ n = digits_value-decimal own n wide in
    let few : nat_le (number_of (decimal n)) (2 ^ 63 - 1) ≡ true = rw is (at_most n h) in
    cond-true _ _ _ (both _ _ (both _ _ some (digits_decimal own n wide)) few) ∙ ap Some is
  where
    at_least : (k : ℕ) → 0 < k → nat_le 1 k ≡ true
    at_least k some = grind (arith, nat_tests)

    at_most : (k : ℕ) → k < 2 ^ 63 → nat_le k (2 ^ 63 - 1) ≡ true
    at_most k below = grind (arith, nat_tests)

-- it has no minus
pub plain_decimal : (n : ℕ) → n < 2 ^ 64 → has_minus (decimal n) ≡ false
plain_decimal n h = first (decimal n) (decimal_nonempty n h) (digits_decimal own n h)
  where
    other : (c : ℕ) → is_digit c ≡ true → (c == 45) ≡ false
    other c is = grind (arith, nat_tests)

    first : (ds : List ℕ) → 0 < length ds → list_all is_digit ds ≡ true → (slice_index ds 0 == 45) ≡ false
    first [] some all = absurd (omega arith)
    first (b ∷ ds) some all = other b (split_and (is_digit b) (list_all is_digit ds) all).0

-- ---- the places behind the point

-- one to so many digits, which are the number after any other
record ArePlaces (k n : ℕ) (text : List ℕ) : Type 0 where
  digits : list_all is_digit text ≡ true
  some : 1 ≤ length text
  few : length text ≤ k
  value : (a : ℕ) → fold with_digit a text * 10 ^ (k - length text) ≡ a * 10 ^ k + n

digit_is : (q : ℕ) → q < 10 → is_digit (48 + q) ≡ true
digit_is q h = is_in_range (48 + q) (omega arith, omega (arith, h))

-- the first digit, and the places after it
first_then : (p more n q r a t : ℕ) → more ≡ p * 10 → n ≡ p * q + r → t ≡ (a * 10 + q) * p + r → t ≡ a * more + n
first_then p more n q r a t m is rest = rw (m, is) (omega (arith, rest))

last_place : (p more n q a : ℕ) → more ≡ p * 10 → n ≡ p * q + 0 → (a * 10 + q) * p ≡ a * more + n
last_place p more n q a m is = rw (m, is) (omega arith)

one_place : (k n q : ℕ) → q < 10 → n ≡ 10 ^ k * q + 0 → ArePlaces (suc k) n ((48 + q) ∷ [])
one_place k n q small is = record {
  digits = both _ _ (digit_is q small) refl;
  some = omega arith;
  few = omega arith;
  value = λ a.
      let next : a * 10 + (48 + q - 48) ≡ a * 10 + q = omega arith in
      let left : suc k - 1 ≡ k = omega arith in
      ap₂ (λ m j. m * 10 ^ j) next left ∙ last_place (10 ^ k) (10 ^ suc k) n q a (pow-suc 10 k) is;
}

more_places : (k n q r : ℕ) (rest : List ℕ) → q < 10 → n ≡ 10 ^ k * q + r → ArePlaces k r rest → ArePlaces (suc k) n ((48 + q) ∷ rest)
more_places k n q r rest small is others = record {
  digits = both _ _ (digit_is q small) others.digits;
  some = omega (arith, others.some);
  few = omega (arith, others.few);
  value = λ a.
      let next : a * 10 + (48 + q - 48) ≡ a * 10 + q = omega arith in
      let left : suc k - suc (length rest) ≡ k - length rest = omega arith in
      ap₂ (λ m j. fold with_digit m rest * 10 ^ j) next left
      ∙ first_then (10 ^ k) (10 ^ suc k) n q r a (fold with_digit (a * 10 + q) rest * 10 ^ (k - length rest)) (pow-suc 10 k) is (others.value (a * 10 + q));
}

not_zero : (r : ℕ) → (suc r == 0) ≡ false
not_zero r = grind (arith, nat_tests)

places_back : (k n : ℕ) → 0 < k → n < 10 ^ k → ArePlaces k n (places_of k n)
places_back zero n some below = absurd (omega arith)
places_back (suc k) n some below = split (places_back k) (n % 10 ^ k) refl
  where
    q : ℕ
    q = n / 10 ^ k

    small : q < 10
    small = (div-lt_iff_lt-mul (unit_positive k)).1 (omega (arith, pow_more 10 k, below))

    parts : (r : ℕ) → n % 10 ^ k ≡ r → n ≡ 10 ^ k * q + r
    parts r is = sym (div-add-mod n (10 ^ k)) ∙ ap (λ m. 10 ^ k * q + m) is

    further : (j r : ℕ) → k ≡ j → suc r < 10 ^ j → 0 < j
    further zero r e lt = absurd (omega (arith, lt))
    further (suc j) r e lt = omega arith

    split : ((r : ℕ) → 0 < k → r < 10 ^ k → ArePlaces k r (places_of k r)) → (r : ℕ) → n % 10 ^ k ≡ r → ArePlaces (suc k) n ((48 + q) ∷ (if n % 10 ^ k == 0 then [] else places_of k (n % 10 ^ k)))
    split fewer zero is =
        subst (λ m. ArePlaces (suc k) n ((48 + q) ∷ (if m == 0 then [] else places_of k m))) (sym is) (one_place k n q small (parts 0 is))
    split fewer (suc r) is =
        let below_k : suc r < 10 ^ k = subst (λ m. m < 10 ^ k) is (mod-lt n (unit_positive k)) in
        subst (λ m. ArePlaces (suc k) n ((48 + q) ∷ (if m == 0 then [] else places_of k m))) (sym is)
        (subst (λ (b : Bool). ArePlaces (suc k) n ((48 + q) ∷ (if b then [] else places_of k (suc r)))) (sym (not_zero r))
        (more_places k n q (suc r) (places_of k (suc r)) small (parts (suc r) is) (fewer (suc r) (further k r refl below_k) below_k)))

millionths_back : (n : ℕ) → n < 1000000 → millionths_of (places_of 6 n) ≡ Some n
millionths_back n h =
    let are : ArePlaces 6 n (places_of 6 n) = places_back 6 n (omega arith) h in
    cond-true _ _ _ (both _ _ (both _ _ (at_least (length (places_of 6 n)) are.some) are.digits) (at_most (length (places_of 6 n)) are.few)) ∙ ap Some (are.value 0 ∙ (omega arith))
  where
    at_least : (k : ℕ) → 1 ≤ k → nat_le 1 k ≡ true
    at_least k some = grind (arith, nat_tests)

    at_most : (k : ℕ) → k ≤ 6 → nat_le k 6 ≡ true
    at_most k few = grind (arith, nat_tests)

-- ---- the point between them

no_point : (b : ℕ) → is_digit b ≡ true → (b == 46) ≡ false
no_point b h = grind (arith, nat_tests)

point_is : (digits rest : List ℕ) → list_all is_digit digits ≡ true → position_or_len (λ b. b == 46) (digits ++ 46 ∷ rest) ≡ length digits
point_is [] rest h = refl
point_is (b ∷ digits) rest h =
    let parts = split_and (is_digit b) (list_all is_digit digits) h in
    let none : (b == 46) ≡ false = no_point b parts.0 in
    rw none (omega (arith, point_is digits rest parts.1))

before : (digits rest : List ℕ) → list_all is_digit digits ≡ true → whole_part (digits ++ 46 ∷ rest) ≡ digits
before digits rest h = ap (λ k. take k (digits ++ 46 ∷ rest)) (point_is digits rest h) ∙ take-append_seam digits (46 ∷ rest)

after : (digits rest : List ℕ) → list_all is_digit digits ≡ true → decimal_part (digits ++ 46 ∷ rest) ≡ rest
after digits rest h = ap (λ k. drop (k + 1) (digits ++ 46 ∷ rest)) (point_is digits rest h) ∙ drop-append-add digits (46 ∷ rest) 1

magnitude_back : (m : ℕ) → m ≤ (2 ^ 63 - 1) * 1000000 → unsigned_fixed_of (decimal (m / 1000000) ++ 46 ∷ places_of 6 (m % 1000000)) ≡ Some (pos m)
magnitude_back m h =
    let few : m / 1000000 < 2 ^ 63 = (div-lt_iff_lt-mul (unit_positive 6)).1 (omega (arith, h)) in
    let wide : m / 1000000 < 2 ^ 64 = omega (arith, few) in
    let digits : list_all is_digit (decimal (m / 1000000)) ≡ true = digits_decimal own (m / 1000000) wide in
    let rest = places_of 6 (m % 1000000) in
    let same : m / 1000000 * 1000000 + m % 1000000 ≡ m = omega (arith, div-add-mod m 1000000) in
    ap₂ joined
    (ap whole_of (before (decimal (m / 1000000)) rest digits) ∙ whole_back (m / 1000000) few)
    (ap millionths_of (after (decimal (m / 1000000)) rest digits) ∙ millionths_back (m % 1000000) (mod-lt m (unit_positive 6)))
    ∙ (ap (λ k. if nat_le k ((2 ^ 63 - 1) * 1000000) then Some (pos k) else None) same ∙ cond-true _ _ _ (at_most m h))
  where
    at_most : (k : ℕ) → k ≤ (2 ^ 63 - 1) * 1000000 → nat_le k ((2 ^ 63 - 1) * 1000000) ≡ true
    at_most k few = grind (arith, nat_tests)

-- ---- the sign before them

-- digits don't begin with a minus
no_minus : (digits rest : List ℕ) → 0 < length digits → list_all is_digit digits ≡ true → (slice_index (digits ++ rest) 0 == 45) ≡ false
no_minus [] rest some h = absurd (omega arith)
no_minus (b ∷ digits) rest some h = other b (split_and (is_digit b) (list_all is_digit digits) h).0
  where
    other : (c : ℕ) → is_digit c ≡ true → (c == 45) ≡ false
    other c is = grind (arith, nat_tests)

not_negative : (m : ℕ) → is_negative (pos m) ≡ false
not_negative m = grind (arith, nat_tests)

-- the text of each fixed number is read as the number
pub fixed_back : (z : ℤ) → unsigned_abs z ≤ (2 ^ 63 - 1) * 1000000 → fixed_of (fixed_text z) ≡ Some z
fixed_back (pos m) h =
    let few : m / 1000000 < 2 ^ 63 = (div-lt_iff_lt-mul (unit_positive 6)).1 (omega (arith, h)) in
    let wide : m / 1000000 < 2 ^ 64 = omega (arith, few) in
    let text = decimal (m / 1000000) ++ 46 ∷ places_of 6 (m % 1000000) in
    ap (λ (b : Bool). fixed_of ((if b then 45 ∷ [] else []) ++ decimal (m / 1000000) ++ 46 ∷ places_of 6 (m % 1000000))) (not_negative m)
    ∙ ap (λ (b : Bool). if b then option_map neg_ℤ (unsigned_fixed_of (drop 1 text)) else unsigned_fixed_of text)
    (no_minus (decimal (m / 1000000)) (46 ∷ places_of 6 (m % 1000000)) (decimal_nonempty (m / 1000000) wide) (digits_decimal own (m / 1000000) wide))
    ∙ magnitude_back m h
fixed_back (negsuc m) h = ap (option_map neg_ℤ) (magnitude_back (suc m) h)
