use Rattle.std.proofs.Common.{[]}
use Rattle.sp_disk.specs.Disk.{Torn}
use Rattle.sp_disk.specs.declared.disk.File.TheVariants.{Journal}
use Rattle.sp_disk.proofs.EverywhereLemmas.{reaches, settles}
use Rattle.sp_journal.specs.Birth.{IsNamed}
use Rattle.sp_journal.specs.Format.{EndsAt}
use Rattle.sp_journal.specs.Unsure.{KeepsUnits}
use Rattle.sp_journal.proofs.Births.{named_keeps, named_units, named_written}
use Rattle.sp_journal.proofs.birth.reveal.Goals as goal

pub returns-in_err-put-clause-reads : goal.returns-in_err-put-clause-reads
returns-in_err-put-clause-reads g c told = named_units _ _ (c.requires.reads told) (c.put.ensures.torn told)

pub returns-in_err-put-clause-moments : goal.returns-in_err-put-clause-moments
returns-in_err-put-clause-moments g c vouches =
    reaches g.D.Disk.moment g.D.Disk.left_since Journal c.args.disk.now c.put.new.disk
    (g.D.Disk.may_leave c.args.disk.now)
    IsNamed (Torn 0 1) KeepsUnits (c.requires.images vouches) named_keeps (c.put.ensures.moments vouches.honest)

pub returns-clause-born : goal.returns-clause-born
returns-clause-born g c =
    settles g.D.Disk.tells g.D.Disk.content g.D.Disk.may_leave Journal c.args.disk.now c.put.new.disk (EndsAt [] 13)
    c.put.ensures.telling (λ told. named_written _ _ (c.requires.reads told) (c.in_ok-put.ensures.written told))
    c.in_ok-put.ensures.durable

pub returns-clause-reads : goal.returns-clause-reads
returns-clause-reads g c told = named_units _ _ (c.requires.reads told) (c.put.ensures.torn told)

pub returns-clause-moments : goal.returns-clause-moments
returns-clause-moments g c vouches =
    reaches g.D.Disk.moment g.D.Disk.left_since Journal c.args.disk.now c.put.new.disk
    (g.D.Disk.may_leave c.args.disk.now)
    IsNamed (Torn 0 1) KeepsUnits (c.requires.images vouches) named_keeps (c.put.ensures.moments vouches.honest)
