use Rattle.std.proofs.Common.{◌≡◌, ℕ, ◌+◌, ◌-◌, [], ◌∷◌, ◌++◌, length, ap, subst, arith, length-append}
use Rattle.sp_disk.specs.Everywhere.{Everywhere}
use Rattle.sp_disk.specs.declared.disk.File.TheVariants.{Journal as JournalFile}
use Rattle.sp_disk.proofs.EverywhereLemmas.{stepped}
use Rattle.sp_unit.specs.UnitBytes.{unit_bytes}
use Rattle.sp_journal.specs.Format.{EndsAt, framed}
use Rattle.sp_journal.specs.Unsure.{IsUnsure, HasUnitsOr}
use Rattle.sp_journal.proofs.UnitSteps.{units_or, length-framed}
use Rattle.sp_journal.proofs.journal.Journal.append.Goals as goal

pub returns-in-Ok-clause-added : goal.returns-in-Ok-clause-added
returns-in-Ok-clause-added g c units unit was is =
    let place = c.args.self.now.place in
    let piece = c.args.piece.now in
    let long : length piece ≡ length (unit_bytes unit) + 5 =
    omega (
      arith,
      ap length is.bytes,
      length-append (framed (unit_bytes unit)) (0 ∷ []),
      length-framed (unit_bytes unit),
    ) in
    let next : place + (length (unit_bytes unit) + 5) ≡ place + (length piece + 1 - 1) = omega (arith, long) in
    record {
      sure = was.sure;
      ends = subst (λ (n : ℕ). Everywhere g.D.Disk.tells g.D.Disk.content g.D.Disk.may_leave JournalFile c.add.new.disk
          (EndsAt (units ++ unit ∷ []) n)) next (c.in-Ok.ensures.added units unit was.ends is);
    }

pub returns-in-Ok-clause-any_moment : goal.returns-in-Ok-clause-any_moment
returns-in-Ok-clause-any_moment g c units unit was is vouches =
    let place = c.args.self.now.place in
    let old = c.args.disk.now in
    stepped g.D.Disk.moment g.D.Disk.left_since JournalFile old c.add.new.disk (g.D.Disk.may_leave old)
    (λ before. IsUnsure units unit place) (λ before. HasUnitsOr units unit)
    (λ a b unsure. units_or units place unit b unsure) (c.add.ensures.moments units unit was.ends is vouches)

pub returns-in-Err-clause-any_moment : goal.returns-in-Err-clause-any_moment
returns-in-Err-clause-any_moment g c units unit was is vouches =
    let place = c.args.self.now.place in
    let old = c.args.disk.now in
    stepped g.D.Disk.moment g.D.Disk.left_since JournalFile old c.add.new.disk (g.D.Disk.may_leave old)
    (λ before. IsUnsure units unit place) (λ before. HasUnitsOr units unit)
    (λ a b unsure. units_or units place unit b unsure) (c.add.ensures.moments units unit was.ends is vouches)
