use Rattle.std.proofs.Common.{◌≡◌, ◌⊎◌, List, ℕ, subst}
use Rattle.sp_disk.specs.declared.disk.File.TheVariants.{Journal as JournalFile}
use Rattle.sp_disk.proofs.LookedLemmas.{reads_same, told_still}
use Rattle.sp_journal.specs.Damage.{IsDamaged}
use Rattle.sp_store.proofs.Opens.{damaged_as_read}
use Rattle.sp_store.specs.Refused.{IsRefusedAt}
use Rattle.sp_store.proofs.store.Store.look.Goals as goal

pub returns-clause-damaged : goal.returns-clause-damaged
returns-clause-damaged g c told file at same =
    let reads = reads_same g.D.Disk.tells g.D.Disk.content g.D.Disk.may_leave g.D.Disk.moment g.D.Disk.left_since
    c.args.disk.now c.look.new.disk c.look.ensures.looked JournalFile in
    let still = told_still g.D.Disk.tells g.D.Disk.content g.D.Disk.may_leave g.D.Disk.moment g.D.Disk.left_since
    c.args.disk.now c.look.new.disk c.look.ensures.looked told in
    subst (λ (l : List ℕ). (file ≡ 0) × (IsDamaged at l ⊎ IsRefusedAt at l)) reads
    (damaged_as_read file at (g.D.Disk.content c.look.new.disk JournalFile) (c.fold.ensures.damaged still file at same))
