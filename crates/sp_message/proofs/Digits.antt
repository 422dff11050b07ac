-- Numbers by their digits.
use Rattle.std.proofs.Common.{◌≡◌, ◌∙◌, ◌+◌, ◌-◌, ◌*◌, ◌^◌, ◌/◌, ◌%◌, ◌<◌, ◌≤◌, ℕ, zero, suc, Bool, true, false, List, [], ◌∷◌, length, drop, get_or, refl, ap, sym, arith}
use Rattle.std.specs.Prelude.{◌==◌, ◌&&◌, if◌then◌else◌}
use Rattle.std.specs.List.{fold, list_all}
use Rattle.std.proofs.Math.Nat.{div-lt_iff_lt-mul, mul-lt-mul_of_pos_right, mul-le-mul_right, mul-le-mul_left, pow-suc}
use Rattle.std.proofs.lemmas.Grind.{pow_more}
use Rattle.std.proofs.lemmas.List.{drop_more}
use Rattle.std.proofs.lemmas.Nat.{pow-add}
use Rattle.std.proofs.lemmas.Bool.Decides.{nat_tests}
use Rattle.sp_message.specs.Decimal.{is_digit, number_of, with_digit, places_of}

pub split_and : (a b : Bool) → (a && b) ≡ true → (a ≡ true) × (b ≡ true)
split_and true b h = (refl, h)
split_and false b h = cc

-- more digits make no smaller number
pub no_less : (n : ℕ) (digits : List ℕ) → n ≤ fold with_digit n digits
no_less n [] = omega arith
no_less n (b ∷ digits) = omega (arith, no_less (with_digit n b) digits)

-- the number so far, with the next digit, is no greater than the whole
pub next_is_within : (text : List ℕ) (i n next : ℕ) → i < length text → fold with_digit n (drop i text) ≡ number_of text → next ≡ with_digit n (get_or text i 0) → next ≤ number_of text
next_is_within text i n next within rest is =
    let step : fold with_digit n (drop i text) ≡ fold with_digit next (drop (i + 1) text) = ap (fold with_digit n) (drop_more text i 0 within) ∙ ap (λ m. fold with_digit m (drop (i + 1) text)) (sym is) in
    omega (arith, no_less next (drop (i + 1) text), step, rest)

pub unit_positive : (k : ℕ) → 0 < 10 ^ k
unit_positive zero = omega arith
unit_positive (suc k) = omega (arith, unit_positive k, pow_more 10 k)

digit_small : (b : ℕ) → is_digit b ≡ true → b - 48 < 10
digit_small b h = grind (arith, nat_tests)

one_more : (n next power more below : ℕ) → next + 1 ≤ (n + 1) * 10 → below < (next + 1) * power → more ≡ power * 10 → below < (n + 1) * more
one_more n next power more below small h e = rw e (omega (arith, h, mul-le-mul_right power small))

-- a number after so many digits more
below_after : (n : ℕ) (digits : List ℕ) → list_all is_digit digits ≡ true → fold with_digit n digits < (n + 1) * 10 ^ length digits
below_after n [] h = omega arith
below_after n (b ∷ digits) h =
    let both = split_and (is_digit b) (list_all is_digit digits) h in
    let small : with_digit n b + 1 ≤ (n + 1) * 10 = omega (arith, digit_small b both.0) in
    one_more n (with_digit n b) (10 ^ length digits) _ _ small (below_after (with_digit n b) digits both.1) (pow-suc 10 (length digits))

pub few_below : (digits : List ℕ) → list_all is_digit digits ≡ true → number_of digits < 10 ^ length digits
few_below digits h = omega (arith, below_after 0 digits h)

-- a number of k digits, six of which make a million
pub scaled_below : (n k : ℕ) → k ≤ 6 → n < 10 ^ k → n * 10 ^ (6 - k) < 1000000
scaled_below n k few below =
    let six : k + (6 - k) ≡ 6 = omega arith in
    let whole : 10 ^ k * 10 ^ (6 - k) ≡ 10 ^ 6 = sym (pow-add 10 k (6 - k)) ∙ ap (λ m. 10 ^ m) six in
    omega (arith, mul-lt-mul_of_pos_right below (unit_positive (6 - k)), whole)

power_grows : (i j : ℕ) → i ≤ j → 10 ^ i ≤ 10 ^ j
power_grows i j h =
    let all : i + (j - i) ≡ j = omega arith in
    let whole : 10 ^ i * 10 ^ (j - i) ≡ 10 ^ j = sym (pow-add 10 i (j - i)) ∙ ap (λ m. 10 ^ m) all in
    omega (arith, mul-le-mul_left (10 ^ i) (unit_positive (j - i)), whole)

-- six digits are no more than 2^63 - 1
pub six_digits_are_few : (digits : List ℕ) → list_all is_digit digits ≡ true → length digits ≤ 6 → number_of digits ≤ 9223372036854775807
six_digits_are_few digits h few = omega (arith, few_below digits h, power_grows (length digits) 6 few)

-- the first of so many places, and what is left for the others
pub first_place : (places n : ℕ) → 0 < places → n < 10 ^ places → n / 10 ^ (places - 1) < 10
first_place zero n some below = absurd (omega arith)
first_place (suc k) n some below =
    let last : suc k - 1 ≡ k = omega arith in
    rw last ((div-lt_iff_lt-mul (unit_positive k)).1 (omega (arith, pow_more 10 k)))

pub next_places : (places n : ℕ) → 0 < places → places_of places n ≡ (48 + n / 10 ^ (places - 1)) ∷ (if n % 10 ^ (places - 1) == 0 then [] else places_of (places - 1) (n % 10 ^ (places - 1)))
next_places zero n some = absurd (omega arith)
next_places (suc k) n some =
    let last : k ≡ suc k - 1 = omega arith in
    ap (λ j. (48 + n / 10 ^ j) ∷ (if n % 10 ^ j == 0 then [] else places_of j (n % 10 ^ j))) last
