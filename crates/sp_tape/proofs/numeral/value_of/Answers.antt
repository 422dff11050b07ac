use Rattle.sp_tape.proofs.Numerals.{numeral-utf8}
use Rattle.sp_tape.proofs.numeral.value_of.Goals as goal

pub unreachable-requires : goal.unreachable-requires
unreachable-requires c = c.in-Err.ensures.cases.0 (numeral-utf8 c.args.text.now c.requires)
