use Rattle.std.proofs.Common.{◌≡◌, ◌-◌, ◌^◌, ◌≤◌, [], IsTrue, List}
use Rattle.sp_core.specs.Stands.{Stands}
use Rattle.sp_disk.specs.Looked.{Looked}
use Rattle.sp_disk.specs.declared.disk.File.TheVariants.{Journal as JournalFile}
use Rattle.sp_journal.specs.Format.{ComesTo}
use Rattle.sp_journal.specs.State.{IsNotBorn}
use Rattle.sp_ledger.specs.Ledger.{Ledger}
use Rattle.sp_store.specs.Units.{IsLedgerOf}
use Rattle.sp_unit.specs.UnitBytes.{UnitView}
use Rattle.sp_store.proofs.fold.fold.Given as goal

abbrev pub invariant-units : goal.invariant-units
invariant-units g l = record {
  looked : Looked g.D.Disk.tells g.D.Disk.content g.D.Disk.may_leave g.D.Disk.moment g.D.Disk.left_since l.fn.disk
      l.disk;
  faults : g.D.Disk.faults l.fn.disk ≤ g.D.Disk.faults l.disk;
  so_far : (units : List UnitView) × (L : Ledger) × IsLedgerOf units L × Stands l.core L
      × (IsNotBorn l.fn.journal → units ≡ [])
      × (IsTrue (g.D.Disk.tells l.fn.disk).content → ¬ IsNotBorn l.fn.journal
      → ComesTo units l.at (g.D.Disk.content l.fn.disk JournalFile));
}

abbrev pub decreases-units : goal.decreases-units
decreases-units g l = 2 ^ 64 - l.at
