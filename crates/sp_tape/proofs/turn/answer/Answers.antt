use Rattle.std.proofs.Common.{inl}
use Rattle.sp_event.specs.declared.request.Ask.TheVariants.{Do}
use Rattle.sp_tape.specs.Acts.{AnswersEvent}
use Rattle.sp_tape.specs.Serves.{IsUnitOfAsk, MayAnswer}
use Rattle.sp_tape.proofs.Served.{weaker}
use Rattle.sp_tape.proofs.turn.answer.Goals as goal

pub returns-in-Do : goal.returns-in-Do
returns-in-Do g c =
    let store = c.args.store.now in
    let trusted = (g.D.Disk.tells store.disk).content in
    let now = c.args.moment in
    let caller = c.args.caller.now in
    let event = c.in-Do.event in
    let One = IsUnitOfAsk now caller (Do event) in
    rw c.in-Do.is (weaker g.D.Disk.tells g.D.Disk.content g.D.Disk.may_leave g.D.Disk.moment g.D.Disk.left_since g.D.Disk.faults (AnswersEvent trusted store.max now caller event)
    (MayAnswer trusted store.max now caller (Do event)) One One (λ S t h. inl h) (λ unit is. is) store c.commit.new.store
    c.commit.result c.commit.ensures)

pub returns-in-Look : goal.returns-in-Look
returns-in-Look g c = rw c.in-Look.is c.look.ensures
