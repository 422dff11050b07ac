use Rattle.std.proofs.Common.{◌≡◌, ◌∙◌, ℕ, true, false, inl, inr, ap, refl, subst, sym}
use Rattle.sp_base.specs.declared.declined.Declined.{Declined}
use Rattle.sp_base.specs.declared.declined.EventRefusal.{EventRefusal}
use Rattle.sp_core.specs.Decided.{IsRefused, OnRefused}
use Rattle.sp_core.specs.Stands.{Stands}
use Rattle.sp_disk.specs.declared.disk.File.TheVariants.{Journal as JournalFile}
use Rattle.sp_disk.proofs.EverywhereLemmas.{stepped}
use Rattle.sp_journal.specs.State.{place_of}
use Rattle.sp_ledger.specs.Events.{outcome}
use Rattle.sp_ledger.specs.Step.{Outcome, is_idle}
use Rattle.sp_store.proofs.Receipts.{decided_accepted, put_done, put_idle, put_not, put_refused}
use Rattle.sp_journal.specs.Unsure.{HasUnitsOr}
use Rattle.sp_store.proofs.Moments.{or_grows, stays_put}
use Rattle.sp_store.specs.Commit.{MayGrow, Receives}
use Rattle.sp_unit.specs.UnitBytes.{UnitView}
use Rattle.sp_store.proofs.TakenIn.{one_of}
use Rattle.sp_store.proofs.put.put.Goals as goal

pub returns-in-Err-Refused-clause-comes : goal.returns-in-Err-Refused-clause-comes
returns-in-Err-Refused-clause-comes g c units L h event one =
    let unit : UnitView = record { moment = c.args.now; caller = c.args.from.now; events = c.args.unit.now } in
    let p = c.in-Err-Refused.ensures event one in
    let r = subst (λ (d : Declined EventRefusal). OnRefused d (IsRefused c.args.core.now c.args.now c.args.from.now event))
    c.in-Err-Refused.field-0-is p.refused in
    let told = rw c.in-Err-Refused.field-0-is at c.refused_by.ensures in
    put_refused g.D.Disk.tells g.D.Disk.content g.D.Disk.may_leave unit units L c.args.journal.now c.prepare.new.self
    c.args.disk.now (place_of c.args.journal.now) c.args.max event (outcome c.args.now c.args.from.now event L)
    c.in-Err-Refused.refused r.0 (r.1 L h.stands) c.refused_by.result told
    (record { on_disk = h.on_disk; is_ledger = h.is_ledger; stands = p.same.forth L h.stands })

pub returns-in-Err-Memory-clause-comes : goal.returns-in-Err-Memory-clause-comes
returns-in-Err-Memory-clause-comes g c units L h event one =
    let p = c.in-Err-Memory.ensures event one in
    record { on_disk = h.on_disk; is_ledger = h.is_ledger; stands = p.same.forth L h.stands }

pub finish-requires-clause-prepared : goal.finish-requires-clause-prepared
finish-requires-clause-prepared g c =
    let e = one_of c.args.unit.now c.requires.one in
    (c.args.from.now, e.0, (c.in-Ok.ensures e.0 e.1).ready)

pub finish-requires-clause-stands : goal.finish-requires-clause-stands
finish-requires-clause-stands g c =
    let e = one_of c.args.unit.now c.requires.one in
    let h = c.requires.holds in
    (h.1, (c.in-Ok.ensures e.0 e.1).same.forth h.1 h.2.stands)

pub finish-requires-in-Ok-write-clause-prepared : goal.finish-requires-in-Ok-write-clause-prepared
finish-requires-in-Ok-write-clause-prepared g c =
    let e = one_of c.args.unit.now c.requires.one in
    (c.args.from.now, e.0, (c.in-Ok.ensures e.0 e.1).ready)

pub finish-requires-in-Ok-write-clause-stands : goal.finish-requires-in-Ok-write-clause-stands
finish-requires-in-Ok-write-clause-stands g c =
    let e = one_of c.args.unit.now c.requires.one in
    let h = c.requires.holds in
    (h.1, (c.in-Ok.ensures e.0 e.1).same.forth h.1 h.2.stands)

pub returns-then-idle-clause-comes : goal.returns-then-idle-clause-comes
returns-then-idle-clause-comes g c units L h event one =
    let unit : UnitView = record { moment = c.args.now; caller = c.args.from.now; events = c.args.unit.now } in
    let p = c.in-Ok.ensures event one in
    let stands = p.same.forth L h.stands in
    let o : ℕ → Outcome = λ m. outcome m c.args.from.now event L in
    let core = c.finish.new.core in
    let given = subst (λ (m : ℕ). Receives (λ maybe us M. Stands core M) unit units L (o m) c.finish.result) p.at
    (c.finish.ensures c.args.from.now event p.ready L stands unit units) in
    let is : is_idle (o c.args.now) ≡ true =
    ap (λ (m : ℕ). is_idle (o m)) (sym p.at)
    ∙ sym (c.idle.ensures c.prepare.new.self c.args.from.now event p.ready L stands) ∙ c.if-idle.true in
    put_idle g.D.Disk.tells g.D.Disk.content g.D.Disk.may_leave unit units L c.args.journal.now core c.args.disk.now
    (place_of c.args.journal.now) c.args.max event (o c.args.now) c.finish.result given is h.on_disk h.is_ledger

pub returns-in-Ok-write-clause-comes : goal.returns-in-Ok-write-clause-comes
returns-in-Ok-write-clause-comes g c units L h event one =
    let unit : UnitView = record { moment = c.args.now; caller = c.args.from.now; events = c.args.unit.now } in
    let p = c.in-Ok.ensures event one in
    let stands = p.same.forth L h.stands in
    let o : ℕ → Outcome = λ m. outcome m c.args.from.now event L in
    let core = c.finish-in-Ok-write.new.core in
    let receipt = c.finish-in-Ok-write.result in
    let given = subst (λ (m : ℕ). Receives (λ maybe us M. Stands core M) unit units L (o m) receipt) p.at
    (c.finish-in-Ok-write.ensures c.args.from.now event p.ready L stands unit units) in
    let isnt : is_idle (o c.args.now) ≡ false =
    ap (λ (m : ℕ). is_idle (o m)) (sym p.at)
    ∙ sym (c.idle.ensures c.prepare.new.self c.args.from.now event p.ready L stands) ∙ c.if-idle.false in
    let wrote = c.in-Ok-write.ensures.writes units h.on_disk event one in
    put_done g.D.Disk.tells g.D.Disk.content g.D.Disk.may_leave unit units L c.write.new.journal core c.write.new.disk
    (place_of c.args.journal.now) c.args.max event (o c.args.now) receipt refl one given isnt wrote.1 h.is_ledger wrote.0

pub returns-in-Err-clause-comes : goal.returns-in-Err-clause-comes
returns-in-Err-clause-comes g c units L h event one =
    let unit : UnitView = record { moment = c.args.now; caller = c.args.from.now; events = c.args.unit.now } in
    let p = c.in-Ok.ensures event one in
    let stands = p.same.forth L h.stands in
    let o : ℕ → Outcome = λ m. outcome m c.args.from.now event L in
    let isnt : is_idle (o c.in-Ok.ready.moment) ≡ false =
    sym (c.idle.ensures c.prepare.new.self c.args.from.now event p.ready L stands) ∙ c.if-idle.false in
    let is = subst (λ (m : ℕ). Rattle.sp_store.specs.Commit.IsAccepted (o m)) p.at
    (decided_accepted (o c.in-Ok.ready.moment) _ _ _ (p.ready.decided.outcome L stands) isnt) in
    put_not g.D.Disk.tells g.D.Disk.content g.D.Disk.may_leave unit units L c.write.new.journal c.prepare.new.self
    c.write.new.disk (place_of c.args.journal.now) c.args.max event (o c.args.now) c.in-Err.fault is
    (c.in-Err.ensures.writes units h.on_disk event one) h.is_ledger stands

pub returns-in-Err-Refused-clause-any_moment : goal.returns-in-Err-Refused-clause-any_moment
returns-in-Err-Refused-clause-any_moment g c units L h event one vouches =
    let unit : UnitView = record { moment = c.args.now; caller = c.args.from.now; events = c.args.unit.now } in
    stays_put g.D.Disk.moment g.D.Disk.left_since g.D.Disk.may_leave g.met.D.Disk.only_now c.args.disk.now
    (MayGrow units unit (outcome c.args.now c.args.from.now event L))
    (λ image left. inl (inr (place_of c.args.journal.now, h.on_disk.ends.images vouches image left)))

pub returns-in-Err-Memory-clause-any_moment : goal.returns-in-Err-Memory-clause-any_moment
returns-in-Err-Memory-clause-any_moment g c units L h event one vouches =
    let unit : UnitView = record { moment = c.args.now; caller = c.args.from.now; events = c.args.unit.now } in
    stays_put g.D.Disk.moment g.D.Disk.left_since g.D.Disk.may_leave g.met.D.Disk.only_now c.args.disk.now
    (MayGrow units unit (outcome c.args.now c.args.from.now event L))
    (λ image left. inl (inr (place_of c.args.journal.now, h.on_disk.ends.images vouches image left)))

pub returns-then-idle-clause-any_moment : goal.returns-then-idle-clause-any_moment
returns-then-idle-clause-any_moment g c units L h event one vouches =
    let unit : UnitView = record { moment = c.args.now; caller = c.args.from.now; events = c.args.unit.now } in
    stays_put g.D.Disk.moment g.D.Disk.left_since g.D.Disk.may_leave g.met.D.Disk.only_now c.args.disk.now
    (MayGrow units unit (outcome c.args.now c.args.from.now event L))
    (λ image left. inl (inr (place_of c.args.journal.now, h.on_disk.ends.images vouches image left)))

pub returns-in-Ok-write-clause-any_moment : goal.returns-in-Ok-write-clause-any_moment
returns-in-Ok-write-clause-any_moment g c units L h event one vouches =
    let unit : UnitView = record { moment = c.args.now; caller = c.args.from.now; events = c.args.unit.now } in
    let p = c.in-Ok.ensures event one in
    let stands = p.same.forth L h.stands in
    let o : ℕ → Outcome = λ m. outcome m c.args.from.now event L in
    let isnt : is_idle (o c.in-Ok.ready.moment) ≡ false =
    sym (c.idle.ensures c.prepare.new.self c.args.from.now event p.ready L stands) ∙ c.if-idle.false in
    let is = subst (λ (m : ℕ). Rattle.sp_store.specs.Commit.IsAccepted (o m)) p.at
    (decided_accepted (o c.in-Ok.ready.moment) _ _ _ (p.ready.decided.outcome L stands) isnt) in
    stepped g.D.Disk.moment g.D.Disk.left_since JournalFile c.args.disk.now c.write.new.disk
    (g.D.Disk.may_leave c.args.disk.now) (λ before. HasUnitsOr units unit) (λ before. MayGrow units unit (o c.args.now))
    (λ a b or. or_grows units unit (o c.args.now) is b or) (c.write.ensures.any_moment units h.on_disk vouches)

pub returns-in-Err-clause-any_moment : goal.returns-in-Err-clause-any_moment
returns-in-Err-clause-any_moment g c units L h event one vouches =
    let unit : UnitView = record { moment = c.args.now; caller = c.args.from.now; events = c.args.unit.now } in
    let p = c.in-Ok.ensures event one in
    let stands = p.same.forth L h.stands in
    let o : ℕ → Outcome = λ m. outcome m c.args.from.now event L in
    let isnt : is_idle (o c.in-Ok.ready.moment) ≡ false =
    sym (c.idle.ensures c.prepare.new.self c.args.from.now event p.ready L stands) ∙ c.if-idle.false in
    let is = subst (λ (m : ℕ). Rattle.sp_store.specs.Commit.IsAccepted (o m)) p.at
    (decided_accepted (o c.in-Ok.ready.moment) _ _ _ (p.ready.decided.outcome L stands) isnt) in
    stepped g.D.Disk.moment g.D.Disk.left_since JournalFile c.args.disk.now c.write.new.disk
    (g.D.Disk.may_leave c.args.disk.now) (λ before. HasUnitsOr units unit) (λ before. MayGrow units unit (o c.args.now))
    (λ a b or. or_grows units unit (o c.args.now) is b or) (c.write.ensures.any_moment units h.on_disk vouches)
