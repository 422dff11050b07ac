use Rattle.std.proofs.Common.{◌+◌, length}
use Rattle.sp_disk.specs.Disk.{Torn}
use Rattle.sp_disk.specs.declared.disk.File.TheVariants.{Journal}
use Rattle.sp_disk.proofs.EverywhereLemmas.{reaches, settles, stays}
use Rattle.sp_journal.specs.Format.{EndsAt}
use Rattle.sp_journal.specs.Unsure.{Offers}
use Rattle.sp_journal.proofs.UnitSteps.{ends_torn, ends_written}
use Rattle.sp_journal.proofs.gates.stage.Goals as goal

pub returns-in_err-put-clause-kept : goal.returns-in_err-put-clause-kept
returns-in_err-put-clause-kept g c units was =
    let at = c.args.place in
    let n = length c.args.piece.now in
    stays g.D.Disk.moment g.D.Disk.left_since Journal c.args.disk.now c.put.new.disk g.D.Disk.tells g.D.Disk.content
    g.D.Disk.may_leave c.put.ensures.telling g.met.D.Disk.counts_now (Torn (at + 1) n) (EndsAt units at)
    (EndsAt units at)
    c.put.ensures.torn (λ vouches. c.put.ensures.moments vouches.honest) (ends_torn units at n) was

pub returns-in_err-put-clause-moments : goal.returns-in_err-put-clause-moments
returns-in_err-put-clause-moments g c units was vouches =
    let at = c.args.place in
    let n = length c.args.piece.now in
    reaches g.D.Disk.moment g.D.Disk.left_since Journal c.args.disk.now c.put.new.disk
    (g.D.Disk.may_leave c.args.disk.now)
    (EndsAt units at) (Torn (at + 1) n) (λ before. EndsAt units at) (was.images vouches) (ends_torn units at n)
    (c.put.ensures.moments vouches.honest)

pub returns-clause-kept : goal.returns-clause-kept
returns-clause-kept g c units was =
    let at = c.args.place in
    let n = length c.args.piece.now in
    stays g.D.Disk.moment g.D.Disk.left_since Journal c.args.disk.now c.put.new.disk g.D.Disk.tells g.D.Disk.content
    g.D.Disk.may_leave c.put.ensures.telling g.met.D.Disk.counts_now (Torn (at + 1) n) (EndsAt units at)
    (EndsAt units at)
    c.put.ensures.torn (λ vouches. c.put.ensures.moments vouches.honest) (ends_torn units at n) was

pub returns-clause-staged : goal.returns-clause-staged
returns-clause-staged g c units unit was is =
    settles g.D.Disk.tells g.D.Disk.content g.D.Disk.may_leave Journal c.args.disk.now c.put.new.disk
    (Offers units unit c.args.place) c.put.ensures.telling
    (λ told. ends_written units c.args.place unit c.args.piece.now _ _ (was.reads told) is
    (c.in_ok-put.ensures.written told))
    c.in_ok-put.ensures.durable

pub returns-clause-moments : goal.returns-clause-moments
returns-clause-moments g c units was vouches =
    let at = c.args.place in
    let n = length c.args.piece.now in
    reaches g.D.Disk.moment g.D.Disk.left_since Journal c.args.disk.now c.put.new.disk
    (g.D.Disk.may_leave c.args.disk.now)
    (EndsAt units at) (Torn (at + 1) n) (λ before. EndsAt units at) (was.images vouches) (ends_torn units at n)
    (c.put.ensures.moments vouches.honest)
