use Rattle.std.proofs.Common.{◌∙◌, sym}
use Rattle.sp_tape.proofs.Reopened.{readied_as_is, reopened}
use Rattle.sp_tape.proofs.reopen.ready.Goals as goal

pub returns-in-Restart : goal.returns-in-Restart
returns-in-Restart g c =
    let disk = c.into_disk.ensures in
    reopened g.D.Disk.tells g.D.Disk.content g.D.Disk.may_leave g.D.Disk.moment g.D.Disk.left_since g.D.Disk.faults c.args.kind c.args.store c.open.result c.in-Restart.is (rw disk at c.open.ensures.opened)
    (rw (sym c.requires) at c.open.ensures.max) (rw disk at c.open.ensures.damaged) (rw disk at c.open.ensures.other)
    (rw disk at c.open.ensures.any_moment) (rw disk at c.open.ensures.telling) (rw disk at c.open.ensures.later)
    (rw disk at c.open.ensures.cause)

pub returns-in-Flow : goal.returns-in-Flow
returns-in-Flow g c = readied_as_is g.D.Disk.tells g.D.Disk.content g.D.Disk.may_leave g.D.Disk.moment g.D.Disk.left_since g.D.Disk.faults c.args.kind c.args.store g.met.D.Disk.only_now (λ is. absurd (cc (sym c.in-Flow.is ∙ is)))

pub returns-in-Http : goal.returns-in-Http
returns-in-Http g c = readied_as_is g.D.Disk.tells g.D.Disk.content g.D.Disk.may_leave g.D.Disk.moment g.D.Disk.left_since g.D.Disk.faults c.args.kind c.args.store g.met.D.Disk.only_now (λ is. absurd (cc (sym c.in-Http.is ∙ is)))

pub returns-in-Rdp : goal.returns-in-Rdp
returns-in-Rdp g c = readied_as_is g.D.Disk.tells g.D.Disk.content g.D.Disk.may_leave g.D.Disk.moment g.D.Disk.left_since g.D.Disk.faults c.args.kind c.args.store g.met.D.Disk.only_now (λ is. absurd (cc (sym c.in-Rdp.is ∙ is)))
