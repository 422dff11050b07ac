-- Where a journal's units end.
use Rattle.std.proofs.Common.{◌≡◌, ◌∙◌, ◌+◌, ℕ, List, [], ◌∷◌, Option, Some, None, length, length-append, sym, ap, arith, sum_by, IsTrue, inl, inr}
use Rattle.std.proofs.lemmas.List.Sums.{sum_by-cons}
use Rattle.sp_disk.specs.Disk.{Folder, Telling}
use Rattle.sp_disk.specs.declared.disk.File.TheVariants.{Journal as JournalFile}
use Rattle.sp_journal.specs.Format.{AreUnits, EndsAt, IsFront, framed, heading}
use Rattle.sp_journal.specs.State as journals
use Rattle.sp_journal.specs.Unsure.{IsUnsure}
use Rattle.sp_journal.specs.declared.journal.Journal.{Journal}
use Rattle.sp_journal.proofs.UnitSteps.{length-framed}
use Rattle.sp_tape.specs.Places.{place_after}
use Rattle.sp_unit.specs.UnitBytes.{UnitView, unit_bytes}

abbrev size : UnitView → ℕ
size u = length (unit_bytes u) + 5

units_long : (units : List UnitView) (bytes : List ℕ) → AreUnits units bytes → length bytes ≡ sum_by size units
units_long [] bytes is = ap length is
units_long (unit ∷ units) bytes is =
    let rest = units_long units is.1 is.5 in
    omega (
      arith,
      ap length is.4,
      length-append (framed (unit_bytes unit)) is.1,
      length-framed (unit_bytes unit),
      rest,
      sum_by-cons size unit units,
    )

front_long : (units : List UnitView) (front : List ℕ) → IsFront units front → length front ≡ place_after units
front_long units front is =
    omega (arith, ap length is.bytes, length-append heading is.tail, units_long units is.tail is.are_units)

pub ends_place : (units : List UnitView) (place : ℕ) (file : List ℕ) → EndsAt units place file → place ≡ place_after units
ends_place units place file ends = sym ends.is_place ∙ front_long units ends.front ends.is_front

unsure_place : (units : List UnitView) (unit : UnitView) (place : ℕ) (file : List ℕ) → IsUnsure units unit place file
    → place ≡ place_after units
unsure_place units unit place file (inl ends) = ends_place units place file ends
unsure_place units unit place file (inr offers) = sym offers.is_place ∙ front_long units offers.front offers.is_front

-- a journal's place is that behind its units, where the disk tells its content
pub stands_place : {D : Type 0} (tells : D → Telling) (content : D → Folder) (may_leave : D → Folder → Type 0)
    (maybe : Option UnitView) (units : List UnitView) (journal : Journal) (disk : D)
    → journals.StandsFor tells content may_leave maybe units journal disk → IsTrue (tells disk).content
    → journals.place_of journal ≡ place_after units
stands_place tells content may_leave None units journal disk was told =
    ends_place units (journals.place_of journal) (content disk JournalFile) (was.ends.reads told)
stands_place tells content may_leave (Some unit) units journal disk was told =
    unsure_place units unit (journals.place_of journal) (content disk JournalFile) (was.gate.reads told)
