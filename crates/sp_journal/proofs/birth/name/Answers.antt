use Rattle.sp_disk.specs.Disk.{Torn}
use Rattle.sp_disk.specs.declared.disk.File.TheVariants.{Journal}
use Rattle.sp_disk.proofs.EverywhereLemmas.{reaches}
use Rattle.sp_journal.specs.Birth.{IsBlank}
use Rattle.sp_journal.specs.Unsure.{KeepsUnits}
use Rattle.sp_journal.proofs.Births.{blank_keeps}
use Rattle.sp_journal.proofs.birth.name.Goals as goal

pub returns-in_err-put-clause-moments : goal.returns-in_err-put-clause-moments
returns-in_err-put-clause-moments g c vouches =
    reaches g.D.Disk.moment g.D.Disk.left_since Journal c.args.disk.now c.put.new.disk
    (g.D.Disk.may_leave c.args.disk.now)
    IsBlank (Torn 1 13) KeepsUnits (c.requires.images vouches) blank_keeps (c.put.ensures.moments vouches.honest)

pub returns-clause-moments : goal.returns-clause-moments
returns-clause-moments g c vouches =
    reaches g.D.Disk.moment g.D.Disk.left_since Journal c.args.disk.now c.put.new.disk
    (g.D.Disk.may_leave c.args.disk.now)
    IsBlank (Torn 1 13) KeepsUnits (c.requires.images vouches) blank_keeps (c.put.ensures.moments vouches.honest)
