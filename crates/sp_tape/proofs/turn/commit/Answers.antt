use Rattle.std.proofs.Common.{subst, List}
use Rattle.sp_disk.specs.Everywhere.{Became}
use Rattle.sp_disk.specs.Moments.{LeavesOnly}
use Rattle.sp_disk.specs.declared.disk.File.TheVariants.{Journal as JournalFile}
use Rattle.sp_event.specs.declared.request.Event.{Event}
use Rattle.sp_journal.specs.State.{place_of}
use Rattle.sp_ledger.specs.Events.{outcome}
use Rattle.sp_store.specs.Commit.{Commits, MayHave}
use Rattle.sp_store.specs.State.{StandsFor}
use Rattle.sp_tape.proofs.Commits.{receipts_one, told_fault}
use Rattle.sp_tape.proofs.Served.{commits}
use Rattle.sp_tape.proofs.turn.commit.Goals as goal

pub told-requires : goal.told-requires
told-requires g c =
    let S = c.requires.stands.0 in
    receipts_one c.args.moment c.args.caller.now c.args.event
    (λ unsure us M. StandsFor g.D.Disk.tells g.D.Disk.content g.D.Disk.may_leave unsure us M c.commit.new.self) _ S.units
    S.ledger S.unsure (place_of c.args.store.now.journal) c.args.store.now.max c.commit.result
    (c.commit.ensures.commits S.unsure S.units S.ledger c.requires.stands.1.stands c.args.event c.from_ref.ensures.value)

pub returns : goal.returns
returns g c =
    let one = c.from_ref.ensures.value in
    let now = c.args.moment in
    let caller = c.args.caller.now in
    let old = c.args.store.now in
    let new = c.commit.new.self in
    commits g.D.Disk.tells g.D.Disk.content g.D.Disk.may_leave g.D.Disk.moment g.D.Disk.left_since g.D.Disk.faults now caller c.args.event old new c.commit.result
    (λ S is. subst (λ (es : List Event). Commits (λ unsure us M. StandsFor g.D.Disk.tells g.D.Disk.content g.D.Disk.may_leave unsure us M new)
    (record { moment = now; caller = caller; events = es }) S.units S.ledger S.unsure (place_of old.journal) old.max c.args.event
    (outcome now caller c.args.event S.ledger) c.commit.result) one
    (c.commit.ensures.commits S.unsure S.units S.ledger is.stands c.args.event one))
    (λ S is vouches. subst (λ (es : List Event). LeavesOnly g.D.Disk.moment g.D.Disk.left_since old.disk new.disk
    (Became JournalFile (MayHave S.unsure S.units (record { moment = now; caller = caller; events = es })
    (outcome now caller c.args.event S.ledger)) (g.D.Disk.may_leave old.disk))) one
    (c.commit.ensures.any_moment S.unsure S.units S.ledger is.stands c.args.event one vouches))
    c.commit.ensures.max c.commit.ensures.telling c.told.result c.told.ensures c.commit.ensures.later
    (told_fault c.commit.result c.told.result (g.D.Disk.faults old.disk) (g.D.Disk.faults new.disk) c.told.ensures
    c.commit.ensures.later c.commit.ensures.cause)
