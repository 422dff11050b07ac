use Rattle.std.proofs.Common.{refl, inl, inr, None}
use Rattle.sp_event.specs.declared.answer.Answered.TheVariants.{Gave, Memory, Refused}
use Rattle.sp_event.specs.declared.request.Ask.TheVariants.{Look}
use Rattle.sp_tape.specs.Serves.{IsUnitOfAsk, MayAnswer}
use Rattle.sp_tape.proofs.Served.{stays}
use Rattle.sp_tape.proofs.turn.look.Goals as goal

pub returns-in-Ok : goal.returns-in-Ok
returns-in-Ok g c =
    let store = c.args.store.now in
    let ask = Look c.args.query.now in
    stays g.D.Disk.tells g.D.Disk.content g.D.Disk.may_leave g.D.Disk.moment g.D.Disk.left_since g.D.Disk.faults g.met.D.Disk.only_now
    (MayAnswer (g.D.Disk.tells store.disk).content store.max c.args.moment c.args.caller.now ask)
    (IsUnitOfAsk c.args.moment c.args.caller.now ask) store (Gave c.in-Ok.reply)
    (λ S is. inl ((c.in-Ok.ensures S.ledger is.stands.stands, refl), refl)) refl

pub returns-in-Err-Refused : goal.returns-in-Err-Refused
returns-in-Err-Refused g c =
    let store = c.args.store.now in
    let ask = Look c.args.query.now in
    let said = rw c.in-Err-Refused.field-0-is at c.in-Err-Refused.ensures in
    rw c.refused.ensures (stays g.D.Disk.tells g.D.Disk.content g.D.Disk.may_leave g.D.Disk.moment g.D.Disk.left_since g.D.Disk.faults g.met.D.Disk.only_now
    (MayAnswer (g.D.Disk.tells store.disk).content store.max c.args.moment c.args.caller.now ask)
    (IsUnitOfAsk c.args.moment c.args.caller.now ask) store (Refused c.in-Err-Refused.refusal None)
    (λ S is. inl ((said S.ledger is.stands.stands, refl, refl), refl)) refl)

pub returns-in-Err-Memory : goal.returns-in-Err-Memory
returns-in-Err-Memory g c =
    let store = c.args.store.now in
    let ask = Look c.args.query.now in
    stays g.D.Disk.tells g.D.Disk.content g.D.Disk.may_leave g.D.Disk.moment g.D.Disk.left_since g.D.Disk.faults g.met.D.Disk.only_now
    (MayAnswer (g.D.Disk.tells store.disk).content store.max c.args.moment c.args.caller.now ask)
    (IsUnitOfAsk c.args.moment c.args.caller.now ask) store Memory (λ S is. inr (refl, refl)) refl
