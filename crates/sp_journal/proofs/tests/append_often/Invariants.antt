use Rattle.std.proofs.Common.{List}
use Rattle.sp_unit.specs.UnitBytes.{UnitView}
use Rattle.sp_journal.specs.State.{Rests}
use Rattle.sp_journal.proofs.tests.append_often.Given as goal

abbrev pub invariant-units : goal.invariant-units
invariant-units g l = record {
  rests : (units : List UnitView) × Rests g.D.Disk.tells g.D.Disk.content g.D.Disk.may_leave units l.journal l.disk;
}
