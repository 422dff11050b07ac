-- Payloads as text and as base64.
use Rattle.std.proofs.Common.{◌≡◌, ℕ, List, Bool, true, false, Some, Result, Ok, Err, refl, ap}
use Rattle.std.specs.Prelude.{IsUtf8, ◌↔◌}
use Rattle.std.specs.Result.{result_ok}
use Rattle.std.specs.Str.{is_utf8}
use Rattle.std.proofs.lemmas.Str.{IsUtf8-from_is_utf8}
use Rattle.base64.specs.declared.decode.DecodeError.{DecodeError}
use Rattle.base64.specs.Engines.{standard}
use Rattle.base64.specs.GeneralPurpose.{IsBytes}
use Rattle.base64.proofs.EngineFacts.{decode_of_iff, decode_of-encode_of}
use Rattle.sp_json.specs.Payloads.{AreBytes, base64_of, from_base64}

-- bytes that are no UTF-8 fail the test
pub no_text : (bytes : List ℕ) → (IsUtf8 bytes → ⊥) → is_utf8 bytes ≡ false
no_text bytes h = tested (is_utf8 bytes) refl
  where
    tested : (b : Bool) → is_utf8 bytes ≡ b → is_utf8 bytes ≡ false
    tested true e = absurd (h (IsUtf8-from_is_utf8 bytes e))
    tested false e = e

was_ok : (r : Result (List ℕ) DecodeError) (bytes : List ℕ) → result_ok r ≡ Some bytes → r ≡ Ok bytes
was_ok (Ok b) bytes e = let same : b ≡ bytes = cc in ap Ok same
was_ok (Err d) bytes e = absurd (cc)

-- a text is read as bytes exactly where it is their base64
pub base64_is_strict : (text bytes : List ℕ) → IsBytes text → IsBytes bytes
    → (from_base64 text ≡ Some bytes) ↔ (text ≡ base64_of bytes)
unfolding from_base64 base64_of
base64_is_strict text bytes t b =
    let both = decode_of_iff standard text bytes (refl, refl) t b in
    (λ e. both.0 (was_ok _ bytes e), λ e. ap result_ok (both.1 e))

-- the base64 of bytes is read as the bytes
pub base64_back : (bytes : List ℕ) → AreBytes bytes → from_base64 (base64_of bytes) ≡ Some bytes
unfolding from_base64 base64_of
base64_back bytes h = ap result_ok (decode_of-encode_of standard bytes refl h)
