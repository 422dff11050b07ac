use Rattle.std.proofs.Common.{sym, subst}
use Rattle.sp_disk.specs.Everywhere.{Vouches}
use Rattle.sp_disk.specs.declared.disk.File.TheVariants.{Journal}
use Rattle.sp_disk.proofs.EverywhereLemmas.{followed}
use Rattle.sp_journal.specs.Unsure.{KeepsUnits}
use Rattle.sp_journal.proofs.Births.{keeps_on}
use Rattle.sp_journal.proofs.birth.birth.Goals as goal

pub returns-in_err-name-clause-moments : goal.returns-in_err-name-clause-moments
returns-in_err-name-clause-moments g c vouches =
    followed g.D.Disk.moment g.D.Disk.left_since g.D.Disk.may_leave Journal g.met.D.Disk.counts_now c.args.disk.now
    c.blank.new.disk c.name.new.disk KeepsUnits KeepsUnits KeepsUnits (λ a b keeps. keeps) keeps_on
    (c.blank.ensures.moments vouches) (c.name.ensures.moments (subst Vouches (sym c.blank.ensures.telling) vouches))

pub returns-in_err-reveal-clause-moments : goal.returns-in_err-reveal-clause-moments
returns-in_err-reveal-clause-moments g c vouches =
    let blank : Vouches (g.D.Disk.tells c.blank.new.disk) = subst Vouches (sym c.blank.ensures.telling) vouches in
    let named : Vouches (g.D.Disk.tells c.name.new.disk) = subst Vouches (sym c.name.ensures.telling) blank in
    followed g.D.Disk.moment g.D.Disk.left_since g.D.Disk.may_leave Journal g.met.D.Disk.counts_now c.args.disk.now
    c.name.new.disk c.reveal.new.disk KeepsUnits KeepsUnits KeepsUnits (λ a b keeps. keeps) keeps_on
    (followed g.D.Disk.moment g.D.Disk.left_since g.D.Disk.may_leave Journal g.met.D.Disk.counts_now c.args.disk.now
    c.blank.new.disk c.name.new.disk KeepsUnits KeepsUnits KeepsUnits (λ a b keeps. keeps) keeps_on
    (c.blank.ensures.moments vouches) (c.name.ensures.moments blank)) (c.reveal.ensures.moments named)

pub returns-clause-moments : goal.returns-clause-moments
returns-clause-moments g c vouches =
    let blank : Vouches (g.D.Disk.tells c.blank.new.disk) = subst Vouches (sym c.blank.ensures.telling) vouches in
    let named : Vouches (g.D.Disk.tells c.name.new.disk) = subst Vouches (sym c.name.ensures.telling) blank in
    followed g.D.Disk.moment g.D.Disk.left_since g.D.Disk.may_leave Journal g.met.D.Disk.counts_now c.args.disk.now
    c.name.new.disk c.reveal.new.disk KeepsUnits KeepsUnits KeepsUnits (λ a b keeps. keeps) keeps_on
    (followed g.D.Disk.moment g.D.Disk.left_since g.D.Disk.may_leave Journal g.met.D.Disk.counts_now c.args.disk.now
    c.blank.new.disk c.name.new.disk KeepsUnits KeepsUnits KeepsUnits (λ a b keeps. keeps) keeps_on
    (c.blank.ensures.moments vouches) (c.name.ensures.moments blank)) (c.reveal.ensures.moments named)
