use Rattle.std.proofs.Common.{arith}
use Rattle.std.specs.Prelude.{◌==◌, not, reverse}
use Rattle.std.proofs.lemmas.Bool.Decides.{nat_tests}
use Rattle.std.proofs.lemmas.List.{length-reverse}
use Rattle.std.proofs.lemmas.List.Sums.{prefix_len-le-length}
use Rattle.sp_rest.proofs.publish.suffix.tail_len.Goals as goal

pub returns-in-None-clause-value : goal.returns-in-None-clause-value
returns-in-None-clause-value c =
    grind (
      arith,
      nat_tests,
      length-reverse c.args.value.now,
      prefix_len-le-length (λ b. not (b == 59))
          (reverse c.args.value.now),
      c.in-None.ensures,
    )
