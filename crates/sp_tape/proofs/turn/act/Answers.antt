use Rattle.std.proofs.Common.{◌≡◌, ◌∙◌, ap, refl, subst, sym}
use Rattle.sp_event.specs.declared.answer.Answered.TheVariants.{Gave}
use Rattle.sp_event.specs.declared.answer.Reply.TheVariants as replies
use Rattle.sp_tape.specs.Acts.{AnswersLine, IsUnitOf}
use Rattle.sp_tape.specs.Serves.{AnswersAs, IsUnitOfFlow, Leaves, fault_count}
use Rattle.sp_tape.specs.declared.entry.Kind.{Kind}
use Rattle.sp_tape.specs.declared.entry.Kind.TheVariants as kinds
use Rattle.sp_tape.proofs.Served.{stays, weaker}
use Rattle.sp_tape.proofs.turn.act.Goals as goal

not_restart : (kind : Kind) → kind ≡ kinds.Flow → kind ≡ kinds.Restart → ⊥
not_restart kind is other = absurd (cc (sym is ∙ other))

pub returns-in-Flow : goal.returns-in-Flow
returns-in-Flow g c =
    let store = c.args.store.now in
    let trusted = (g.D.Disk.tells store.disk).content in
    let e = c.args.entry.now in
    subst (λ (k : Kind). Leaves g.D.Disk.tells g.D.Disk.content g.D.Disk.may_leave g.D.Disk.moment g.D.Disk.left_since g.D.Disk.faults (AnswersAs trusted store.max k e) (IsUnitOfFlow e) store c.act_flow.new.store c.act_flow.result)
    (sym c.in-Flow.is) (weaker g.D.Disk.tells g.D.Disk.content g.D.Disk.may_leave g.D.Disk.moment g.D.Disk.left_since g.D.Disk.faults (AnswersLine trusted store.max e.moment e.caller e.body)
    (AnswersAs trusted store.max kinds.Flow e) (IsUnitOf e) (IsUnitOfFlow e) (λ S t h. h)
    (λ unit is. (λ other. not_restart e.kind c.in-Flow.is other, is)) store c.act_flow.new.store c.act_flow.result c.act_flow.ensures)

pub returns-in-Http : goal.returns-in-Http
returns-in-Http g c =
    let store = c.args.store.now in
    let trusted = (g.D.Disk.tells store.disk).content in
    let e = c.args.entry.now in
    subst (λ (k : Kind). Leaves g.D.Disk.tells g.D.Disk.content g.D.Disk.may_leave g.D.Disk.moment g.D.Disk.left_since g.D.Disk.faults (AnswersAs trusted store.max k e) (IsUnitOfFlow e) store store c.bad.result)
    (sym c.in-Http.is) (stays g.D.Disk.tells g.D.Disk.content g.D.Disk.may_leave g.D.Disk.moment g.D.Disk.left_since g.D.Disk.faults g.met.D.Disk.only_now (AnswersAs trusted store.max kinds.Http e) (IsUnitOfFlow e) store c.bad.result
    (λ S is. (c.bad.ensures, refl)) (ap fault_count c.bad.ensures))

pub returns-in-Rdp : goal.returns-in-Rdp
returns-in-Rdp g c =
    let store = c.args.store.now in
    let trusted = (g.D.Disk.tells store.disk).content in
    let e = c.args.entry.now in
    subst (λ (k : Kind). Leaves g.D.Disk.tells g.D.Disk.content g.D.Disk.may_leave g.D.Disk.moment g.D.Disk.left_since g.D.Disk.faults (AnswersAs trusted store.max k e) (IsUnitOfFlow e) store store c.bad-in-Rdp.result)
    (sym c.in-Rdp.is) (stays g.D.Disk.tells g.D.Disk.content g.D.Disk.may_leave g.D.Disk.moment g.D.Disk.left_since g.D.Disk.faults g.met.D.Disk.only_now (AnswersAs trusted store.max kinds.Rdp e) (IsUnitOfFlow e) store c.bad-in-Rdp.result
    (λ S is. (c.bad-in-Rdp.ensures, refl)) (ap fault_count c.bad-in-Rdp.ensures))

pub returns-in-Restart : goal.returns-in-Restart
returns-in-Restart g c =
    let store = c.args.store.now in
    let trusted = (g.D.Disk.tells store.disk).content in
    let e = c.args.entry.now in
    subst (λ (k : Kind). Leaves g.D.Disk.tells g.D.Disk.content g.D.Disk.may_leave g.D.Disk.moment g.D.Disk.left_since g.D.Disk.faults (AnswersAs trusted store.max k e) (IsUnitOfFlow e) store store (Gave replies.Restart))
    (sym c.in-Restart.is) (stays g.D.Disk.tells g.D.Disk.content g.D.Disk.may_leave g.D.Disk.moment g.D.Disk.left_since g.D.Disk.faults g.met.D.Disk.only_now (AnswersAs trusted store.max kinds.Restart e) (IsUnitOfFlow e) store (Gave replies.Restart)
    (λ S is. (refl, refl)) refl)
