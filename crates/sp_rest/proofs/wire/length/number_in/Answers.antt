use Rattle.std.proofs.Common.{◌<◌, arith}
use Rattle.std.specs.Str.Parse.{digits_value}
use Rattle.std.proofs.lemmas.Grind.{common_steps}
use Rattle.sp_rest.proofs.Lengths.{value_grows}
use Rattle.sp_rest.proofs.wire.length.number_in.Goals as goal

pub returns-then-n-gt-MOST : goal.returns-then-n-gt-MOST
returns-then-n-gt-MOST c =
    let large : 8388608 < digits_value 10 c.args.value.now = grind (arith, common_steps, value_grows) in
    grind (arith, common_steps)
