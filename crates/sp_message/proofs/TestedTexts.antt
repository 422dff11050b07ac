-- Texts that are read with a test.
use Rattle.std.proofs.Common.{◌≡◌, ◌∙◌, ℕ, Bool, true, false, List, Option, Some, None, refl, ap, sym, subst, IsUtf8, length, cond}
use Rattle.std.specs.Str.{is_utf8}
use Rattle.std.proofs.lemmas.Str.{is_utf8-from_IsUtf8, IsUtf8-from_is_utf8}
use Rattle.sp_message.specs.Decoding.{◌>>=◌, tested, text_at, text_that_at}

pub utf8_is : (text : List ℕ) → IsUtf8 text → is_utf8 text ≡ true
utf8_is text h = is_utf8-from_IsUtf8 text h

pub not_utf8 : (text : List ℕ) → ¬ (IsUtf8 text) → is_utf8 text ≡ false
not_utf8 text h = cases (is_utf8 text) refl
  where
    cases : (b : Bool) → is_utf8 text ≡ b → is_utf8 text ≡ false
    cases true e = absurd (h (IsUtf8-from_is_utf8 text e))
    cases false e = e

pub refused : (test : List ℕ → Bool) (bytes text rest : List ℕ) → text_at bytes ≡ Some (text, rest) → test text ≡ false → text_that_at test bytes ≡ None
unfolding text_that_at
refused test bytes text rest e h =
    ap (λ (r : Option (List ℕ × List ℕ)). r >>= λ t. tested test t) e ∙ ap (λ (b : Bool). cond b (Some (text, rest)) None) h

pub passed : (test : List ℕ → Bool) (bytes text rest : List ℕ) → text_at bytes ≡ Some (text, rest) → test text ≡ true → text_that_at test bytes ≡ Some (text, rest)
unfolding text_that_at
passed test bytes text rest e h =
    ap (λ (r : Option (List ℕ × List ℕ)). r >>= λ t. tested test t) e ∙ ap (λ (b : Bool). cond b (Some (text, rest)) None) h
