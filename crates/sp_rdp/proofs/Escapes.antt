-- What the set escapes is what has to be.
use Rattle.std.proofs.Common.{◌≡◌, ℕ, Bool, true, false, not, ◌||◌, cond, List, [], ◌∷◌, ◌++◌, refl, sym, ap, ◌∙◌, arith}
use Rattle.std.specs.Prelude.{nat_lt}
use Rattle.std.proofs.lemmas.Bool.{agree_below, agree_below_at, ltb-true}
use Rattle.std.proofs.lemmas.Bool.Decides.{nat_tests}
use Rattle.percent_encoding.specs.AsciiSet.{contains, should_percent_encode}
use Rattle.percent_encoding.specs.Percent.{percent_encode, percent_encode_byte}
use Rattle.sp_rdp.specs.declared.post.TheConstants.{ESCAPED}
use Rattle.sp_rdp.specs.Post.{is_escaped, escaped}

in_ascii : agree_below (contains ESCAPED) is_escaped 128 ≡ true
in_ascii = refl

above : (b : ℕ) → nat_lt b 128 ≡ false → is_escaped b ≡ true
above b beyond = grind (arith, nat_tests)

same_test : (b : ℕ) → should_percent_encode ESCAPED b ≡ is_escaped b
unfolding should_percent_encode
same_test b = tested (nat_lt b 128) refl
  where
    tested : (t : Bool) → nat_lt b 128 ≡ t → should_percent_encode ESCAPED b ≡ is_escaped b
    tested true e = ap (λ t. not t || contains ESCAPED b) e ∙ agree_below_at (contains ESCAPED) is_escaped 128 b in_ascii (ltb-true b 128 e)
    tested false e = ap (λ t. not t || contains ESCAPED b) e ∙ sym (above b e)

pub escapes : (text : List ℕ) → percent_encode ESCAPED text ≡ escaped text
unfolding percent_encode
escapes [] = refl
escapes (b ∷ text) =
    (λ i. cond (same_test b i) (percent_encode_byte b) (b ∷ []) ++ percent_encode ESCAPED text)
    ∙ ap (λ (t : List ℕ). cond (is_escaped b) (percent_encode_byte b) (b ∷ []) ++ t) (escapes text)
