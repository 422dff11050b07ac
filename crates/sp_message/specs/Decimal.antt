-- Decimal numbers as they are written: digits, a point, and up to six digits.
use Rattle.std.specs.Prelude.{◌==◌, ◌&&◌, ◌+◌, ◌-◌, ◌*◌, ◌^◌, ◌/◌, ◌%◌, ℕ, zero, suc, Bool, List, [], ◌∷◌, ◌++◌, length, nat_le, ℤ, pos, neg_ℤ, unsigned_abs, Option, Some, None, if◌then◌else◌, slice_index, drop}
use Rattle.std.specs.List.{list_all, fold, before_first, after_first}
use Rattle.std.specs.Fmt.{decimal}
use Rattle.std.specs.Option.{option_map}
use Rattle.std.specs.Int.{is_negative}

-- one of 0 to 9
abbrev pub is_digit : ℕ → Bool
is_digit b = nat_le 48 b && nat_le b 57

-- one or more digits
abbrev pub are_digits : List ℕ → Bool
are_digits text = nat_le 1 (length text) && list_all is_digit text

-- a number, and then a digit after it
abbrev pub with_digit : ℕ → ℕ → ℕ
with_digit n b = n * 10 + (b - 48)

-- the number that the digits are
abbrev pub number_of : List ℕ → ℕ
number_of digits = fold with_digit 0 digits

-- the number that one or more digits are, of at most 2^63 - 1
abbrev pub whole_of : List ℕ → Option ℕ
whole_of text = if are_digits text && nat_le (number_of text) (2 ^ 63 - 1) then Some (number_of text) else None

-- the millionths that one to six decimals are
abbrev pub millionths_of : List ℕ → Option ℕ
millionths_of text = if are_digits text && nat_le (length text) 6 then Some (number_of text * 10 ^ (6 - length text)) else None

-- whole and millionths together, of at most (2^63 - 1) million millionths
abbrev pub bounded : ℕ → ℕ → Option ℤ
bounded whole millionths = if nat_le (whole * 1000000 + millionths) ((2 ^ 63 - 1) * 1000000) then Some (pos (whole * 1000000 + millionths)) else None

-- the two parts together, where both are there
abbrev pub joined : Option ℕ → Option ℕ → Option ℤ
joined (Some whole) (Some millionths) = bounded whole millionths
joined (Some whole) None = None
joined None millionths = None

-- what stands before and after the first point
abbrev pub whole_part : List ℕ → List ℕ
whole_part text = before_first (λ b. b == 46) text

abbrev pub decimal_part : List ℕ → List ℕ
decimal_part text = after_first (λ b. b == 46) text

-- digits, a point, one to six digits: the number in millionths
abbrev pub unsigned_fixed_of : List ℕ → Option ℤ
unsigned_fixed_of text = joined (whole_of (whole_part text)) (millionths_of (decimal_part text))

-- the text begins with a minus
abbrev pub has_minus : List ℕ → Bool
has_minus text = slice_index text 0 == 45

-- the fixed number that a text is, in millionths: behind a minus it is below zero, or zero
abbrev pub fixed_of : List ℕ → Option ℤ
fixed_of text = if has_minus text then option_map neg_ℤ (unsigned_fixed_of (drop 1 text)) else unsigned_fixed_of text

-- so many places of a number below 10 ^ places, from the first one on, without zeros at the end but in the first place
abbrev pub places_of : ℕ → ℕ → List ℕ
places_of zero n = []
places_of (suc k) n = (48 + n / 10 ^ k) ∷ (if n % 10 ^ k == 0 then [] else places_of k (n % 10 ^ k))

-- the one canonical text of a fixed number: no zeros at the front but one digit before the point, none at the end but one digit after it, and zero without a sign
abbrev pub fixed_text : ℤ → List ℕ
fixed_text z = (if is_negative z then 45 ∷ [] else []) ++ decimal (unsigned_abs z / 1000000) ++ 46 ∷ places_of 6 (unsigned_abs z % 1000000)
