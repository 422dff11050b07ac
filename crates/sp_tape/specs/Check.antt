-- What looking at a journal prints.
use Rattle.std.specs.Prelude.{◌≡◌, ℕ, ◌-◌, Bool, IsTrue, List, None, Option}
use Rattle.std.specs.Io.KnownBytes.{Appends}
use Rattle.sp_event.specs.declared.answer.Answered.TheVariants.{Gave}
use Rattle.sp_event.specs.declared.answer.Reply.TheVariants.{Tally}
use Rattle.sp_flowline.specs.Answers.{line_of}
use Rattle.sp_journal.specs.Format.{HasUnits}
use Rattle.sp_ledger.specs.Ledger.{Ledger}
use Rattle.sp_ledger.specs.Tally.{tally_in}
use Rattle.sp_store.specs.Units.{IsLedgerOf}
use Rattle.sp_tape.specs.Serves.{WritesFront}
use Rattle.sp_tape.specs.declared.status.Status.{Status}
use Rattle.sp_tape.specs.declared.status.Status.TheVariants.{Done, Usage, BadTape, ReadFault, WriteFault, DiskFault, Damaged, Memory, OtherVersion}
use Rattle.sp_unit.specs.UnitBytes.{UnitView}

-- the line of the tally of all endpoints
abbrev pub tally_line : Ledger → List ℕ
tally_line L = line_of (Gave (Tally (tally_in L.copies None))) (L.next.unit - 1)

-- the ledger of the units that a journal has, where the disk tells them
pub record IsLookedAt (trusted : Bool) (file : List ℕ) (L : Ledger) : Type 0 where
  pub units : List UnitView
  pub is_ledger : IsLedgerOf units L
  pub has : IsTrue trusted → HasUnits units file

-- the line is written, or where a write failed a front of it, or nothing, where there was no memory or the journal
-- wasn't opened
abbrev pub Checks : Bool → List ℕ → Option (List ℕ) → Option (List ℕ) → Status → Type 0
Checks trusted file old new Done = (L : Ledger) × IsLookedAt trusted file L × Appends old new (tally_line L)
Checks trusted file old new WriteFault =
    (L : Ledger) × IsLookedAt trusted file L × WritesFront old new (tally_line L)
Checks trusted file old new Usage = ⊥
Checks trusted file old new (BadTape entry at) = ⊥
Checks trusted file old new ReadFault = ⊥
Checks trusted file old new DiskFault = new ≡ old
Checks trusted file old new (Damaged which at) = new ≡ old
Checks trusted file old new Memory = new ≡ old
Checks trusted file old new (OtherVersion found) = new ≡ old
