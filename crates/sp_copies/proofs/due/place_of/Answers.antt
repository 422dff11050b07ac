use Rattle.std.proofs.Common.{sym}
use Rattle.sp_copies.specs.Due.{is_earlier}
use Rattle.sp_copies.proofs.Deadlines.{end-place}
use Rattle.sp_copies.proofs.due.place_of.Goals as goal

pub returns-in-None-clause-place : goal.returns-in-None-clause-place
returns-in-None-clause-place c = end-place (is_earlier c.args.copy.now) c.args.copies.now (sym c.in-None.ensures)
