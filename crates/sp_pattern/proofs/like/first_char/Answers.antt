use Rattle.std.proofs.Common.{◌≡◌, ◌∙◌, ◌++◌, ℕ, List, [], ◌∷◌, length, refl, sym, ap, arith}
use Rattle.std.specs.Str.{chars}
use Rattle.std.proofs.lemmas.Str.{chars-nil, chars_past_char}
use lib.Utf8.{encode}
use Rattle.sp_pattern.proofs.like.first_char.Goals as goal

no_bytes : (text : List ℕ) → length text ≡ 0 → text ≡ []
no_bytes [] h = refl
no_bytes (b ∷ text) h = absurd (omega arith)

pub returns-in-Some-clause-value : goal.returns-in-Some-clause-value
returns-in-Some-clause-value c =
    chars_past_char c.args.text.now c.as_str.result.now c.in-Some.c c.utf8.text (sym c.chars-chars.ensures.rest ∙ c.in-Some.ensures.steps.0 ∙ ap (λ rest. encode c.in-Some.c ++ rest) (sym c.as_str.ensures))

pub returns-in-None-clause-value : goal.returns-in-None-clause-value
returns-in-None-clause-value c =
    ap chars (no_bytes c.args.text.now (ap length (sym c.chars-chars.ensures.rest) ∙ c.in-None.ensures.steps.0.0)) ∙ chars-nil
