-- What the words of the program ask for.
use Rattle.std.specs.Prelude.{◌&&◌, ℕ, ◌^◌, List, [], ◌∷◌, Option, Some, None, String, bytes_eq, codes, if◌then◌else◌, nat_le, option_map, string_bytes}
use Rattle.std.specs.declared.alloc.Global.{Global}
use Rattle.sp_tape.specs.Numeral.{number_from}
use Rattle.sp_tape.specs.declared.words.Form.{Form}
use Rattle.sp_tape.specs.declared.words.Form.TheVariants.{Run, Check}

-- the greatest length that a journal may be given, which is also the one where none is given
abbrev pub longest_journal : ℕ
longest_journal = 2 ^ 32

-- a number of bytes in the range of lengths
abbrev pub in_range : Option ℕ → Option ℕ
in_range None = None
in_range (Some n) = if nat_le 14 n && nat_le n longest_journal then Some n else None

-- a journal's greatest length as a word gives it: at least 14 bytes
abbrev pub length_from : List ℕ → Option ℕ
length_from word = in_range (number_from word)

abbrev pub form_of_one : List ℕ → Option Form
form_of_one word =
    if bytes_eq word (codes "run") then Some (Run longest_journal)
    else if bytes_eq word (codes "check") then Some Check else None

abbrev pub form_of_three : List ℕ → List ℕ → List ℕ → Option Form
form_of_three first second third =
    if bytes_eq first (codes "run") && bytes_eq second (codes "--max") then option_map Run (length_from third) else None

-- `run`, `run --max n`, or `check`
abbrev pub form_of : List (String Global) → Option Form
form_of [] = None
form_of (word ∷ []) = form_of_one (string_bytes word)
form_of (word ∷ another ∷ []) = None
form_of (first ∷ second ∷ third ∷ []) = form_of_three (string_bytes first) (string_bytes second) (string_bytes third)
form_of (first ∷ second ∷ third ∷ fourth ∷ rest) = None
