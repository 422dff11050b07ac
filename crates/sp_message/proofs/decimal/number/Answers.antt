use Rattle.std.proofs.Common.{◌+◌, ◌*◌, arith}
use Rattle.std.proofs.lemmas.Bool.Decides.{nat_tests}
use Rattle.sp_message.proofs.Digits.{next_is_within}
use Rattle.sp_message.proofs.decimal.number.Goals as goal

pub returns-then-next-gt-GREATEST_WHOLE-clause-value : goal.returns-then-next-gt-GREATEST_WHOLE-clause-value
returns-then-next-gt-GREATEST_WHOLE-clause-value c =
    let within = next_is_within c.args.text.now c.loop-b.b-index c.loop-b.n (c.from.result * 10 + c.from-in-loop-b.result) (omega arith) c.loop-b.invariant.rest (omega (arith, c.from.ensures, c.from-in-loop-b.ensures)) in
    grind (arith, nat_tests, within)
