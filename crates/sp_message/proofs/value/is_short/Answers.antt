use Rattle.std.proofs.Common.{◌≡◌, ◌∙◌, Bool, List, true, false, ap, length, refl, subst, sym, ℕ}
use Rattle.std.specs.Prelude.{◌&&◌, nat_le}
use Rattle.std.specs.Str.{is_utf8}
use Rattle.std.proofs.lemmas.Str.{is_utf8-from_IsUtf8}
use Rattle.sp_message.proofs.value.is_short.Goals as goal

and_true : (b : Bool) → b ≡ (b && true)
and_true true = refl
and_true false = refl

pub returns : goal.returns
returns c =
    let same : c.as_str.result.now ≡ c.args.text.now = c.as_str.ensures in
    let utf8 : is_utf8 c.args.text.now ≡ true = subst (λ (t : List ℕ). is_utf8 t ≡ true) same (is_utf8-from_IsUtf8 c.as_str.result.now c.as_str.utf8) in
    ap (λ (t : List ℕ). nat_le (length t) 8192) same
    ∙ (and_true (nat_le (length c.args.text.now) 8192) ∙ ap (λ (b : Bool). nat_le (length c.args.text.now) 8192 && b) (sym utf8))
