use Rattle.std.proofs.Common.{◌∙◌, List, IsTrue, Err, inr, refl, ap, subst, sym}
use Rattle.sp_disk.specs.Disk.{Folder, Telling}
use Rattle.sp_disk.specs.Everywhere.{Vouches}
use Rattle.sp_disk.specs.declared.disk.File.TheVariants.{Journal as JournalFile}
use Rattle.sp_journal.specs.Format.{HasUnits}
use Rattle.sp_journal.specs.State.{place_of}
use Rattle.sp_journal.specs.declared.journal.OpenError.{OpenError}
use Rattle.sp_journal.proofs.OneReading.{one_history}
use Rattle.sp_store.proofs.Moments.{opened_and_read, opened_and_restarted}
use Rattle.sp_store.proofs.Opens.{damaged_before, error_is, no_version, restart_leads, rests_looked, rests_read}
use Rattle.sp_store.specs.Opening.{restarted}
use Rattle.sp_store.specs.State.{Holds}
use Rattle.sp_unit.specs.UnitBytes.{UnitView}
use Rattle.sp_store.proofs.opening.opened.Goals as goal

pub returns-in-Err-fold-clause-damaged : goal.returns-in-Err-fold-clause-damaged
returns-in-Err-fold-clause-damaged g c told file at same =
    let old = g.D.Disk.content c.args.disk.now JournalFile in
    let mid = g.D.Disk.content c.open.new.disk JournalFile in
    let u = c.in-Ok.ensures.units in
    let still : IsTrue (g.D.Disk.tells c.open.new.disk).content =
    subst (λ (t : Telling). IsTrue t.content) (sym c.open.ensures.telling) told in
    damaged_before u.0 (place_of c.in-Ok.journal) old mid (u.2 told) (u.1.ends.reads still)
    (λ born. ap (λ (f : Folder). f JournalFile) (c.in-Ok.ensures.born told born)) file at
    (c.in-Err-fold.ensures.damaged still file at (ap (λ (e : OpenError). Err e) (error_is c.in-Err-fold.error file at same)))

pub returns-in-Err-fold-clause-any_moment : goal.returns-in-Err-fold-clause-any_moment
returns-in-Err-fold-clause-any_moment g c vouches =
    opened_and_read g.D.Disk.moment g.D.Disk.left_since g.D.Disk.may_leave g.met.D.Disk.counts_now
    (g.D.Disk.content c.args.disk.now JournalFile) c.args.disk.now c.open.new.disk c.fold.new.disk
    (c.open.ensures.any_moment vouches) c.fold.ensures.looked.none_since

pub restart-requires : goal.restart-requires
restart-requires g c =
    let u = c.in-Ok.ensures.units in
    let f = c.in-Ok-fold.ensures.ledger in
    record {
      holds = (
        f.0,
        f.1,
        record {
          on_disk = rests_looked g.D.Disk.tells g.D.Disk.content g.D.Disk.may_leave g.D.Disk.moment g.D.Disk.left_since f.0
              c.in-Ok.journal c.open.new.disk c.fold.new.disk c.fold.ensures.looked
              (rests_read g.D.Disk.tells g.D.Disk.content g.D.Disk.may_leave u.0 f.0 c.in-Ok.journal c.open.new.disk u.1 f.4);
          is_ledger = f.2;
          stands = f.3;
        },
      );
    }

pub returns-in-Ok-restart-clause-opened : goal.returns-in-Ok-restart-clause-opened
returns-in-Ok-restart-clause-opened g c =
    let old = g.D.Disk.content c.args.disk.now JournalFile in
    let mid = g.D.Disk.content c.open.new.disk JournalFile in
    let u = c.in-Ok.ensures.units in
    let f = c.in-Ok-fold.ensures.ledger in
    let holds : Holds g.D.Disk.tells g.D.Disk.content g.D.Disk.may_leave _ f.0 f.1 c.in-Ok.journal c.in-Ok-fold.core c.fold.new.disk =
    record {
      on_disk = rests_looked g.D.Disk.tells g.D.Disk.content g.D.Disk.may_leave g.D.Disk.moment g.D.Disk.left_since f.0
          c.in-Ok.journal c.open.new.disk c.fold.new.disk c.fold.ensures.looked
          (rests_read g.D.Disk.tells g.D.Disk.content g.D.Disk.may_leave u.0 f.0 c.in-Ok.journal c.open.new.disk u.1 f.4);
      is_ledger = f.2;
      stands = f.3;
    } in (
      f.0,
      f.1,
      f.2,
      λ told.
          let still : IsTrue (g.D.Disk.tells c.open.new.disk).content =
          subst (λ (t : Telling). IsTrue t.content) (sym c.open.ensures.telling) told in
          subst (λ (us : List UnitView). HasUnits us old)
          (one_history u.0 f.0 mid (inr (place_of c.in-Ok.journal, u.1.ends.reads still)) (f.4 still)) (u.2 told),
      c.in-Ok-restart.ensures.restarts f.0 f.1 holds,
    )

pub returns-in-Ok-restart-clause-any_moment : goal.returns-in-Ok-restart-clause-any_moment
returns-in-Ok-restart-clause-any_moment g c vouches =
    let old = g.D.Disk.content c.args.disk.now JournalFile in
    let mid = g.D.Disk.content c.open.new.disk JournalFile in
    let u = c.in-Ok.ensures.units in
    let f = c.in-Ok-fold.ensures.ledger in
    let still : IsTrue (g.D.Disk.tells c.open.new.disk).content =
    subst (λ (t : Telling). IsTrue t.content) (sym c.open.ensures.telling) vouches.content in
    let then = subst Vouches (sym (c.fold.ensures.looked.same_telling ∙ c.open.ensures.telling)) vouches in
    let has = subst (λ (us : List UnitView). HasUnits us old)
    (one_history u.0 f.0 mid (inr (place_of c.in-Ok.journal, u.1.ends.reads still)) (f.4 still)) (u.2 vouches.content) in
    let on_disk = rests_looked g.D.Disk.tells g.D.Disk.content g.D.Disk.may_leave g.D.Disk.moment g.D.Disk.left_since f.0
    c.in-Ok.journal c.open.new.disk c.fold.new.disk c.fold.ensures.looked
    (rests_read g.D.Disk.tells g.D.Disk.content g.D.Disk.may_leave u.0 f.0 c.in-Ok.journal c.open.new.disk u.1 f.4) in
    opened_and_restarted g.D.Disk.moment g.D.Disk.left_since g.D.Disk.may_leave g.met.D.Disk.counts_now old c.args.disk.now
    c.open.new.disk c.fold.new.disk (c.open.ensures.any_moment vouches) c.fold.ensures.looked.none_since c.restart.new.disk
    f.0 (restarted f.1) has (restart_leads f.0 f.1 f.2 (restarted f.1) refl)
    (λ image left. inr (place_of c.in-Ok.journal, on_disk.ends.images then image left))
    (c.restart.ensures.any_moment f.0 f.1 (record { on_disk = on_disk; is_ledger = f.2; stands = f.3 }) then)

pub returns-in-Err-restart-clause-other : goal.returns-in-Err-restart-clause-other
returns-in-Err-restart-clause-other g c told found same =
    absurd (no_version c.in-Err-restart.error found (c.in-Err-restart.ensures.error c.in-Err-restart.error refl) same)

pub returns-in-Err-restart-clause-any_moment : goal.returns-in-Err-restart-clause-any_moment
returns-in-Err-restart-clause-any_moment g c vouches =
    let old = g.D.Disk.content c.args.disk.now JournalFile in
    let mid = g.D.Disk.content c.open.new.disk JournalFile in
    let u = c.in-Ok.ensures.units in
    let f = c.in-Ok-fold.ensures.ledger in
    let still : IsTrue (g.D.Disk.tells c.open.new.disk).content =
    subst (λ (t : Telling). IsTrue t.content) (sym c.open.ensures.telling) vouches.content in
    let then = subst Vouches (sym (c.fold.ensures.looked.same_telling ∙ c.open.ensures.telling)) vouches in
    let has = subst (λ (us : List UnitView). HasUnits us old)
    (one_history u.0 f.0 mid (inr (place_of c.in-Ok.journal, u.1.ends.reads still)) (f.4 still)) (u.2 vouches.content) in
    let on_disk = rests_looked g.D.Disk.tells g.D.Disk.content g.D.Disk.may_leave g.D.Disk.moment g.D.Disk.left_since f.0
    c.in-Ok.journal c.open.new.disk c.fold.new.disk c.fold.ensures.looked
    (rests_read g.D.Disk.tells g.D.Disk.content g.D.Disk.may_leave u.0 f.0 c.in-Ok.journal c.open.new.disk u.1 f.4) in
    opened_and_restarted g.D.Disk.moment g.D.Disk.left_since g.D.Disk.may_leave g.met.D.Disk.counts_now old c.args.disk.now
    c.open.new.disk c.fold.new.disk (c.open.ensures.any_moment vouches) c.fold.ensures.looked.none_since c.restart.new.disk
    f.0 (restarted f.1) has (restart_leads f.0 f.1 f.2 (restarted f.1) refl)
    (λ image left. inr (place_of c.in-Ok.journal, on_disk.ends.images then image left))
    (c.restart.ensures.any_moment f.0 f.1 (record { on_disk = on_disk; is_ledger = f.2; stands = f.3 }) then)
