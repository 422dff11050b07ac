-- Names of endpoints and callers.
use Rattle.std.specs.Prelude.{◌==◌, ◌||◌, ◌&&◌, ℕ, Bool, List, length, nat_le}
use Rattle.std.specs.List.{list_all}

-- a letter, a digit, or one of _ - . / #
abbrev pub is_name_byte : ℕ → Bool
is_name_byte b =
    (nat_le 97 b && nat_le b 122) || (nat_le 65 b && nat_le b 90) || (nat_le 48 b && nat_le b 57) || (b == 95) || (b == 45) || (b == 46) || (b == 47) || (b == 35)

-- 1 to 200 such bytes
abbrev pub is_name : List ℕ → Bool
is_name name = nat_le 1 (length name) && nat_le (length name) 200 && list_all is_name_byte name

-- short enough to be the name of a caller
abbrev pub is_caller : List ℕ → Bool
is_caller name = nat_le (length name) 64
