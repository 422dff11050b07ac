-- What a property of a message may be.
use Rattle.std.specs.Str.{is_utf8}
use Rattle.std.specs.Prelude.{ℕ, ◌^◌, ◌-◌, ◌*◌, ◌&&◌, Bool, true, length, nat_le, unsigned_abs}
use Rattle.sp_message.specs.declared.value.Value.{Value}
use Rattle.sp_message.specs.declared.value.Value.TheVariants as variant

-- a whole number has a magnitude of at most 2^63 - 1, a fixed one of as many millions of millionths, and a text at most
-- 8,192 bytes of UTF-8
abbrev pub is_in_range : Value → Bool
is_in_range (variant.Whole n) = nat_le (unsigned_abs n) (2 ^ 63 - 1)
is_in_range (variant.Fixed z) = nat_le (unsigned_abs z) ((2 ^ 63 - 1) * 1000000)
is_in_range (variant.Text text) = nat_le (length text) 8192 && is_utf8 text
is_in_range (variant.Bool b) = true

-- the bytes of a text, and none for the other kinds
abbrev pub text_len : Value → ℕ
text_len (variant.Whole n) = 0
text_len (variant.Fixed f) = 0
text_len (variant.Text text) = length text
text_len (variant.Bool b) = 0
