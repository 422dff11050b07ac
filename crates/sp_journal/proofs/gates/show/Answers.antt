use Rattle.std.proofs.Common.{[], ◌∷◌, ◌++◌, ◌+◌, length}
use Rattle.sp_disk.specs.Disk.{Torn}
use Rattle.sp_disk.specs.declared.disk.File.TheVariants.{Journal}
use Rattle.sp_disk.proofs.EverywhereLemmas.{reaches, settles, stays}
use Rattle.sp_unit.specs.UnitBytes.{unit_bytes}
use Rattle.sp_journal.specs.Format.{EndsAt}
use Rattle.sp_journal.specs.Unsure.{Offers}
use Rattle.sp_journal.proofs.UnitSteps.{offers_torn, offers_opened}
use Rattle.sp_journal.proofs.gates.show.Goals as goal

pub returns-in_err-put-clause-kept : goal.returns-in_err-put-clause-kept
returns-in_err-put-clause-kept g c units unit was =
    let at = c.args.place in
    stays g.D.Disk.moment g.D.Disk.left_since Journal c.args.disk.now c.put.new.disk g.D.Disk.tells g.D.Disk.content
    g.D.Disk.may_leave c.put.ensures.telling g.met.D.Disk.counts_now (Torn at 1) (Offers units unit at)
    (Offers units unit at)
    c.put.ensures.torn (λ vouches. c.put.ensures.moments vouches.honest) (offers_torn units at unit) was

pub returns-in_err-put-clause-moments : goal.returns-in_err-put-clause-moments
returns-in_err-put-clause-moments g c units unit was vouches =
    let at = c.args.place in
    reaches g.D.Disk.moment g.D.Disk.left_since Journal c.args.disk.now c.put.new.disk
    (g.D.Disk.may_leave c.args.disk.now)
    (Offers units unit at) (Torn at 1) (λ before. Offers units unit at) (was.images vouches) (offers_torn units at unit)
    (c.put.ensures.moments vouches.honest)

pub returns-clause-kept : goal.returns-clause-kept
returns-clause-kept g c units unit was =
    let at = c.args.place in
    stays g.D.Disk.moment g.D.Disk.left_since Journal c.args.disk.now c.put.new.disk g.D.Disk.tells g.D.Disk.content
    g.D.Disk.may_leave c.put.ensures.telling g.met.D.Disk.counts_now (Torn at 1) (Offers units unit at)
    (Offers units unit at)
    c.put.ensures.torn (λ vouches. c.put.ensures.moments vouches.honest) (offers_torn units at unit) was

pub returns-clause-shown : goal.returns-clause-shown
returns-clause-shown g c units unit was =
    let at = c.args.place in
    settles g.D.Disk.tells g.D.Disk.content g.D.Disk.may_leave Journal c.args.disk.now c.put.new.disk
    (EndsAt (units ++ unit ∷ []) (at + (length (unit_bytes unit) + 5))) c.put.ensures.telling
    (λ told. offers_opened units at unit _ _ (was.reads told) (c.in_ok-put.ensures.written told))
    c.in_ok-put.ensures.durable

pub returns-clause-moments : goal.returns-clause-moments
returns-clause-moments g c units unit was vouches =
    let at = c.args.place in
    reaches g.D.Disk.moment g.D.Disk.left_since Journal c.args.disk.now c.put.new.disk
    (g.D.Disk.may_leave c.args.disk.now)
    (Offers units unit at) (Torn at 1) (λ before. Offers units unit at) (was.images vouches) (offers_torn units at unit)
    (c.put.ensures.moments vouches.honest)
