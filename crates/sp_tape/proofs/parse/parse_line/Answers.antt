use Rattle.std.proofs.Common.{sym, ◌∙◌}
use Rattle.sp_tape.proofs.Bodies.{line_at}
use Rattle.sp_tape.proofs.Entries.{bad_line, not_empty}
use Rattle.sp_tape.proofs.Fronts.{finished_by_line}
use Rattle.sp_tape.proofs.parse.parse_line.Goals as goal

pub returns-in-Some-2 : goal.returns-in-Some-2
returns-in-Some-2 c =
    let at = sym c.in-Some.ensures in
    line_at c.args.bytes.now c.in-Some.line.now _ c.in-Some-2.head at (sym c.in_ok-head.ensures ∙ c.in-Some-2.is)

pub returns-in-None : goal.returns-in-None
returns-in-None c =
    let bytes = c.args.bytes.now in
    let line = c.in-Some.line.now in
    let at = sym c.in-Some.ensures in
    let says = sym c.in_ok-head.ensures ∙ c.in-None.is in (
      not_empty bytes _ at,
      λ room. (finished_by_line room bytes line _ at says, λ more. bad_line room bytes line _ more at says),
    )
