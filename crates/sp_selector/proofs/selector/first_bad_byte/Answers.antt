use Rattle.std.proofs.Common.{length, sym, arith}
use Rattle.std.specs.Str.Lossy.{utf8_valid_len}
use Rattle.std.proofs.lemmas.Bool.{cond-false, le-ltb}
use Rattle.std.proofs.lemmas.Str.{utf8_valid_len-IsUtf8}
use Rattle.sp_selector.proofs.selector.first_bad_byte.Goals as goal

pub returns-in-Ok : goal.returns-in-Ok
returns-in-Ok c =
    let all = utf8_valid_len-IsUtf8 c.args.text.now c.in-Ok.ensures.cases.1 in
    sym (cond-false _ _ _ (le-ltb (utf8_valid_len c.args.text.now) (length c.args.text.now) (omega (arith, all))))
