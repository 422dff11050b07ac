use Rattle.std.proofs.Common.{List, ℕ, None, Ok, Err, inl, inr, refl, subst}
use Rattle.sp_event.specs.declared.answer.Answered.TheVariants.{Memory, Refused}
use Rattle.sp_event.specs.declared.request.Ask.{Ask}
use Rattle.sp_flowline.specs.Request.{IsReadAs}
use Rattle.sp_tape.specs.Acts.{AnswersLine, IsUnitOf}
use Rattle.sp_tape.specs.Serves.{IsUnitOfAsk, MayAnswer}
use Rattle.sp_tape.proofs.Served.{stays, weaker}
use Rattle.sp_tape.proofs.turn.act_flow.Goals as goal

pub returns-in-Ok : goal.returns-in-Ok
returns-in-Ok g c =
    let store = c.args.store.now in
    let trusted = (g.D.Disk.tells store.disk).content in
    let e = c.args.entry.now in
    let ask = c.in-Ok.ask in
    let read = subst (λ (bytes : List ℕ). IsReadAs bytes (Ok ask)) c.as_slice.ensures c.in-Ok.ensures in
    weaker g.D.Disk.tells g.D.Disk.content g.D.Disk.may_leave g.D.Disk.moment g.D.Disk.left_since g.D.Disk.faults (MayAnswer trusted store.max e.moment e.caller ask) (AnswersLine trusted store.max e.moment e.caller e.body)
    (IsUnitOfAsk e.moment e.caller ask) (IsUnitOf e)
    (λ S t h. elim h [ inl said ↦ inl (Ok ask, read, said) | inr lack ↦ inr lack ])
    (λ unit is. (is.0, subst (λ (a : Ask). IsReadAs e.body (Ok a)) is.1 read, is.2)) store c.answer.new.store
    c.answer.result c.answer.ensures

pub returns-in-Err-Refused : goal.returns-in-Err-Refused
returns-in-Err-Refused g c =
    let store = c.args.store.now in
    let e = c.args.entry.now in
    let refusal = c.in-Err-Refused.refusal in
    let said = rw c.in-Err-Refused.field-0-is at c.in-Err-Refused.ensures in
    let read = subst (λ (bytes : List ℕ). IsReadAs bytes (Err refusal)) c.as_slice.ensures said in
    let told = rw c.in-Err-Refused.field-0-is at c.refused.ensures in
    rw told (stays g.D.Disk.tells g.D.Disk.content g.D.Disk.may_leave g.D.Disk.moment g.D.Disk.left_since g.D.Disk.faults g.met.D.Disk.only_now
    (AnswersLine (g.D.Disk.tells store.disk).content store.max e.moment e.caller e.body) (IsUnitOf e) store
    (Refused refusal None) (λ S is. inl (Err refusal, read, (refl, refl))) refl)

pub returns-in-Err-Memory : goal.returns-in-Err-Memory
returns-in-Err-Memory g c =
    let store = c.args.store.now in
    let e = c.args.entry.now in
    stays g.D.Disk.tells g.D.Disk.content g.D.Disk.may_leave g.D.Disk.moment g.D.Disk.left_since g.D.Disk.faults g.met.D.Disk.only_now (AnswersLine (g.D.Disk.tells store.disk).content store.max e.moment e.caller e.body) (IsUnitOf e) store
    Memory (λ S is. inr (refl, refl)) refl
