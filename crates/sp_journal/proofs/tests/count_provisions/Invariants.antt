use Rattle.std.proofs.Common.{IsTrue, List}
use Rattle.sp_disk.specs.declared.disk.File.TheVariants.{Journal as JournalFile}
use Rattle.sp_unit.specs.UnitBytes.{UnitView}
use Rattle.sp_journal.specs.Format.{ComesTo}
use Rattle.sp_journal.specs.State.{IsNotBorn}
use Rattle.sp_journal.proofs.tests.count_provisions.Given as goal

abbrev pub invariant-units : goal.invariant-units
invariant-units g l = record {
  comes : IsTrue (g.D.Disk.tells l.disk).content → ¬ IsNotBorn l.journal →
      (units : List UnitView) × ComesTo units l.place (g.D.Disk.content l.disk JournalFile);
}
