-- What a journal stands for on a disk.
use Rattle.std.specs.Prelude.{◌≡◌, ◌⊎◌, ℕ, List, Option, Some, None}
use Rattle.sp_disk.specs.Disk.{Folder, Telling}
use Rattle.sp_disk.specs.Everywhere.{Everywhere}
use Rattle.sp_disk.specs.declared.disk.File.TheVariants.{Journal as JournalFile}
use Rattle.sp_unit.specs.UnitBytes.{UnitView}
use Rattle.sp_journal.specs.Format.{EndsAt, IsUnborn}
use Rattle.sp_journal.specs.Unsure.{IsUnsure}
use Rattle.sp_journal.specs.declared.journal.Journal.{Journal}
use Rattle.sp_journal.specs.declared.journal.State.TheVariants.{NotBorn, Settled, Unsure}

-- the place of the gate at which a journal's units end
abbrev pub place_of : Journal → ℕ
place_of journal = journal.place

-- it was looked at before it was born: it has no units and no gate
abbrev pub IsNotBorn : Journal → Type 0
IsNotBorn journal = journal.state ≡ NotBorn

-- what a look found of a file: that it is unborn, or where its units end
abbrev pub IsLookOf : List ℕ → Journal → Type 0
IsLookOf file journal =
    (IsNotBorn journal × IsUnborn file)
    ⊎ ((units : List UnitView) × (¬ IsNotBorn journal) × EndsAt units (place_of journal) file)

-- it was opened and no gate is unsure: these units end at its place, as a read gives them and in every image
pub record Rests {D : Type 0} (tells : D → Telling) (content : D → Folder) (may_leave : D → Folder → Type 0)
    (units : List UnitView) (journal : Journal) (disk : D) : Type 0 where
  pub sure : journal.state ≡ Settled
  pub ends : Everywhere tells content may_leave JournalFile disk (EndsAt units (place_of journal))

-- the gate at its place is unsure: a read and every image give these units, or these and one more
pub record Doubts {D : Type 0} (tells : D → Telling) (content : D → Folder) (may_leave : D → Folder → Type 0)
    (units : List UnitView) (unit : UnitView) (journal : Journal) (disk : D) : Type 0 where
  pub unsure : journal.state ≡ Unsure
  pub gate : Everywhere tells content may_leave JournalFile disk (IsUnsure units unit (place_of journal))

-- it was opened and stands for these units, and where a gate is unsure for one more that may be there
abbrev pub StandsFor : {D : Type 0} → (D → Telling) → (D → Folder) → (D → Folder → Type 0) → Option UnitView
    → List UnitView → Journal → D → Type 0
StandsFor tells content may_leave None units journal disk = Rests tells content may_leave units journal disk
StandsFor tells content may_leave (Some unit) units journal disk =
    Doubts tells content may_leave units unit journal disk
