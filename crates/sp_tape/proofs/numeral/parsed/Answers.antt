use Rattle.std.proofs.Common.{arith}
use Rattle.std.proofs.lemmas.Str.Parse.{parse_gives}
use Rattle.sp_tape.proofs.Numerals.{own, writes, below}
use Rattle.sp_tape.proofs.numeral.parsed.Goals as goal

pub unreachable-requires : goal.unreachable-requires
unreachable-requires c =
    let w = writes c.args.digits.now c.requires in
    let small = below c.args.digits.now w in
    cc (
      parse_gives own 64 c.args.digits.now c.parse.result c.parse.ensures.value.0 w.digits w.some (omega arith),
      c.in-Err.is,
    )

pub returns : goal.returns
returns c =
    let w = writes c.args.digits.now c.requires in
    let small = below c.args.digits.now w in
    cc (
      parse_gives own 64 c.args.digits.now c.parse.result c.parse.ensures.value.0 w.digits w.some (omega arith),
      c.in-Ok.is,
    )
