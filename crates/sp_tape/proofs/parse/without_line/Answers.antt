use Rattle.std.proofs.Common.{arith}
use Rattle.sp_tape.proofs.Cuts.{cut-none}
use Rattle.sp_tape.proofs.Entries.{bad_without_line, long_not_empty}
use Rattle.sp_tape.proofs.Fronts.{unfinished_without_line, finished_without_line}
use Rattle.sp_tape.proofs.parse.without_line.Goals as goal

pub returns-then-bytes-gt-LONGEST_HEAD : goal.returns-then-bytes-gt-LONGEST_HEAD
returns-then-bytes-gt-LONGEST_HEAD c =
    let bytes = c.args.bytes.now in (
      long_not_empty bytes (omega arith),
      λ room. (
        finished_without_line room bytes c.requires (omega arith),
        λ more. bad_without_line room bytes more (cut-none 10 bytes c.requires) (omega arith),
      ),
    )

pub returns-else-bytes-gt-LONGEST_HEAD : goal.returns-else-bytes-gt-LONGEST_HEAD
returns-else-bytes-gt-LONGEST_HEAD c room = unfinished_without_line room c.args.bytes.now c.requires (omega arith)
