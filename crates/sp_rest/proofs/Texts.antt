-- Bytes that are no text.
use Rattle.std.proofs.Common.{◌≡◌, ℕ, List, Bool, true, false, refl}
use Rattle.std.specs.Prelude.{IsUtf8}
use Rattle.std.specs.Str.{is_utf8}
use Rattle.std.proofs.lemmas.Str.{IsUtf8-from_is_utf8}

-- bytes that are no UTF-8 fail the test
pub no_text : (bytes : List ℕ) → (IsUtf8 bytes → ⊥) → is_utf8 bytes ≡ false
no_text bytes h = tested (is_utf8 bytes) refl
  where
    tested : (b : Bool) → is_utf8 bytes ≡ b → is_utf8 bytes ≡ false
    tested true e = absurd (h (IsUtf8-from_is_utf8 bytes e))
    tested false e = e
