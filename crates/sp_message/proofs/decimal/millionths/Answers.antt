use Rattle.std.proofs.Common.{◌≡◌, ◌∙◌, sym, true, arith}
use Rattle.std.specs.List.{list_all}
use Rattle.std.proofs.lemmas.Bool.Decides.{nat_tests}
use Rattle.sp_message.specs.Decimal.{is_digit}
use Rattle.sp_message.proofs.Digits.{six_digits_are_few}
use Rattle.sp_message.proofs.decimal.millionths.Goals as goal

pub unreachable-requires : goal.unreachable-requires
unreachable-requires c =
    let all : list_all is_digit c.args.text.now ≡ true = sym c.all_digits.ensures ∙ c.if-not-all_digits.false in
    grind (arith, nat_tests, six_digits_are_few c.args.text.now all (omega arith), c.in-None.ensures.value)
