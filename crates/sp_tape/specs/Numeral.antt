-- Numbers in decimal digits.
use Rattle.std.specs.Prelude.{◌==◌, ◌&&◌, ◌||◌, not, ℕ, ◌+◌, ◌-◌, ◌*◌, List, [], ◌∷◌, length, slice_index, Bool, Option, Some, None, if◌then◌else◌, nat_le}
use Rattle.std.specs.Str.{all_ascii_digits}

-- 1 to 16 digits, with no 0 before another
abbrev pub is_numeral : List ℕ → Bool
is_numeral text = nat_le 1 (length text) && nat_le (length text) 16 && all_ascii_digits text && ((length text == 1) || not (slice_index text 0 == 48))

-- the number that digits write, read from the left onto the number so far
abbrev pub read_on : ℕ → List ℕ → ℕ
read_on n [] = n
read_on n (c ∷ cs) = read_on (10 * n + (c - 48)) cs

abbrev pub numeral_value : List ℕ → ℕ
numeral_value text = read_on 0 text

abbrev pub number_from : List ℕ → Option ℕ
number_from text = if is_numeral text then Some (numeral_value text) else None
