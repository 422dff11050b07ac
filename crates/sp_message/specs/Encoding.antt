-- How the parts of a value are written as bytes.
use Rattle.std.specs.Prelude.{◌≡◌, ◌&&◌, ℕ, ◌^◌, ◌/◌, ◌%◌, Bool, true, false, List, [], ◌∷◌, ◌++◌, length, Option, Some, None}
use Rattle.std.specs.List.{flat_map}
use Rattle.std.specs.Int.{w32, w64, to_le_bytes}

-- a number: 8 bytes, the lowest first
abbrev pub number_bytes : ℕ → List ℕ
number_bytes n = to_le_bytes w64 n

-- a number of 16 bytes, the lowest first
abbrev pub wide_bytes : ℕ → List ℕ
wide_bytes n = number_bytes (n % 2 ^ 64) ++ number_bytes (n / 2 ^ 64)

-- a text or a payload: its length in 4 bytes, the lowest first, and its own bytes
abbrev pub text_bytes : List ℕ → List ℕ
text_bytes text = to_le_bytes w32 (length text) ++ text

-- a truth value: one byte, 0 or 1
abbrev pub truth_bytes : Bool → List ℕ
truth_bytes false = 0 ∷ []
truth_bytes true = 1 ∷ []

-- an option: 0, or 1 and the value
abbrev pub option_bytes : {A : Type 0} → (A → List ℕ) → Option A → List ℕ
option_bytes bytes_of None = 0 ∷ []
option_bytes bytes_of (Some x) = 1 ∷ bytes_of x

-- a list: one byte with the number of its elements, and each of them
abbrev pub list_bytes : {A : Type 0} → (A → List ℕ) → List A → List ℕ
list_bytes bytes_of xs = length xs ∷ flat_map bytes_of xs
