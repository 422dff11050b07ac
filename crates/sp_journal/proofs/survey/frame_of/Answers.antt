use Rattle.std.proofs.Common.{arith, rules}
use Rattle.sp_journal.proofs.GateForms.{no_unit, whole_gate}
use Rattle.sp_journal.proofs.survey.frame_of.Goals as goal

pub returns-clause-frame : goal.returns-clause-frame
returns-clause-frame c bytes some left counts is =
    whole_gate c.args.gate c.args.count c.from_le_bytes-size.result c.args.size bytes some counts is (search rules)
    (search rules) (search rules) (search rules) (omega arith) (omega (arith, left))

pub returns-then-size-gt-MAX_BODY-clause-frame : goal.returns-then-size-gt-MAX_BODY-clause-frame
returns-then-size-gt-MAX_BODY-clause-frame c bytes some left counts is =
    no_unit c.args.gate c.args.count c.from_le_bytes-size.result c.args.size bytes some counts is (search rules)
    (search rules) (search rules) (λ high fits. omega (arith, high))

pub returns-then-left-from-clause-frame : goal.returns-then-left-from-clause-frame
returns-then-left-from-clause-frame c bytes some left counts is =
    no_unit c.args.gate c.args.count c.from_le_bytes-size.result c.args.size bytes some counts is (search rules)
    (search rules) (search rules) (λ high fits. omega (arith, fits, left))
