-- What follows from what a journal stands for.
use Rattle.std.proofs.Common.{◌≡◌, ◌+◌, ◌≤◌, List, length, Option, Some, None, IsTrue}
use Rattle.sp_disk.specs.Disk.{Folder, Telling}
use Rattle.sp_disk.specs.declared.disk.File.TheVariants.{Journal as JournalFile}
use Rattle.sp_unit.specs.UnitBytes.{UnitView}
use Rattle.sp_journal.specs.State.{StandsFor}
use Rattle.sp_journal.specs.declared.journal.Journal.{Journal}
use Rattle.sp_journal.specs.declared.journal.State.TheVariants.{Settled, Unsure}
use Rattle.sp_journal.proofs.Closes.{unsure_long}
use Rattle.sp_journal.proofs.UnitSteps.{ends_long}

-- a gate that is unsure isn't closed for good
pub settled_not_unsure : Settled ≡ Unsure → ⊥
settled_not_unsure = λ is. cc

-- a gate stands at the journal's place
pub stands_long : {D : Type 0} (tells : D → Telling) (content : D → Folder) (may_leave : D → Folder → Type 0)
    (maybe : Option UnitView) (units : List UnitView) (journal : Journal) (disk : D)
    → StandsFor tells content may_leave maybe units journal disk → IsTrue (tells disk).content
    → journal.place + 1 ≤ length (content disk JournalFile)
stands_long tells content may_leave None units journal disk was told =
    ends_long units journal.place (content disk JournalFile) (was.ends.reads told)
stands_long tells content may_leave (Some unit) units journal disk was told =
    unsure_long units journal.place unit (content disk JournalFile) (was.gate.reads told)
