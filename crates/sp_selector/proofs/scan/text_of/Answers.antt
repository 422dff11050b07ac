use Rattle.std.proofs.Common.{◌≡◌, ◌∙◌, List, ℕ, Some, sym, ap, true, arith, IsUtf8}
use Rattle.std.proofs.lemmas.Bool.{cond-true}
use Rattle.std.proofs.lemmas.Bool.Decides.{nat_tests}
use Rattle.std.proofs.lemmas.Str.{utf8_valid_len-IsUtf8}
use Rattle.sp_selector.specs.Scan.{is_utf8}
use Rattle.sp_selector.proofs.scan.text_of.Goals as goal

valid : (bytes : List ℕ) → IsUtf8 bytes → is_utf8 bytes ≡ true
valid bytes utf8 = let all = utf8_valid_len-IsUtf8 bytes utf8 in grind (arith, nat_tests, all)

pub returns-in-Ok : goal.returns-in-Ok
returns-in-Ok c = ap Some c.in-Ok.ensures.cases.0 ∙ sym (cond-true _ _ _ (valid c.args.bytes.now c.in-Ok.ensures.cases.1))
