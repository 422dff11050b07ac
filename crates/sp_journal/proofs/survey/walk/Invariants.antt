use Rattle.std.proofs.Common.{◌<◌, ◌≤◌, ◌-◌, IsTrue, List}
use Rattle.sp_disk.specs.declared.disk.File.TheVariants.{Journal}
use Rattle.sp_disk.specs.Looked.{Looked}
use Rattle.sp_unit.specs.UnitBytes.{UnitView}
use Rattle.sp_journal.specs.Format.{ComesTo}
use Rattle.sp_journal.proofs.survey.walk.Given as goal

abbrev pub invariant-units : goal.invariant-units
invariant-units g l = record {
  below : l.place < l.len;
  looked : Looked g.D.Disk.tells g.D.Disk.content g.D.Disk.may_leave g.D.Disk.moment g.D.Disk.left_since l.fn.disk
      l.disk;
  faults : g.D.Disk.faults l.fn.disk ≤ g.D.Disk.faults l.disk;
  comes : IsTrue (g.D.Disk.tells l.fn.disk).content → (units : List UnitView)
      × ComesTo units l.place (g.D.Disk.content l.fn.disk Journal);
}

abbrev pub decreases-units : goal.decreases-units
decreases-units g l = l.len - l.place
