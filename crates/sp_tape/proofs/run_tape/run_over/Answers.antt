use Rattle.std.proofs.Common.{◌∙◌, inl, inr, refl, subst, sym}
use Rattle.sp_disk.specs.Disk.{Telling}
use Rattle.std.specs.Prelude.{IsTrue}
use Rattle.sp_store.specs.Opening.{restarted}
use Rattle.sp_tape.proofs.Exits.{from_no_damage, from_no_version, is_open_error, open_fault, opened_run, told_damage}
use Rattle.sp_tape.proofs.Reopened.{found_by}
use Rattle.sp_tape.proofs.run_tape.run_over.Goals as goal

pub run_tape-requires-clause-stands : goal.run_tape-requires-clause-stands
run_tape-requires-clause-stands g c =
    let o = c.in-Ok.ensures.opened in
    let f = found_by g.D.Disk.tells g.D.Disk.content g.D.Disk.may_leave c.in-Ok.store o.0 o.1 o.2 (restarted o.1) refl o.4 in
    (f.state, f.stands, f.opens.sound)

pub returns-in-Ok-clause-tape : goal.returns-in-Ok-clause-tape
returns-in-Ok-clause-tape g c =
    let o = c.in-Ok.ensures.opened in
    let f = found_by g.D.Disk.tells g.D.Disk.content g.D.Disk.may_leave c.in-Ok.store o.0 o.1 o.2 (restarted o.1) refl o.4 in
    inl (opened_run g.D.Disk.tells g.D.Disk.content g.D.Disk.may_leave g.D.Disk.moment g.D.Disk.left_since g.D.Disk.faults g.met.D.Disk.only_now g.met.D.Disk.counts_now c.in-Ok.store.disk c.args.most f.state c.args.disk c.run_tape.result.disk
    c.run_tape.result.status (g.S.Source.left c.args.source.now) (g.S.Source.left c.run_tape.new.source) (g.K.Sink.written c.args.sink.now) (g.K.Sink.written c.run_tape.new.sink) c.in-Ok.ensures.telling
    c.in-Ok.ensures.later c.in-Ok.ensures.any_moment (o.0, o.3, f.opens)
    (c.run_tape.ensures.tape f.state f.stands f.opens.sound))

pub returns-in-Ok-clause-damaged : goal.returns-in-Ok-clause-damaged
returns-in-Ok-clause-damaged g c told file at is =
    let o = c.in-Ok.ensures.opened in
    let f = found_by g.D.Disk.tells g.D.Disk.content g.D.Disk.may_leave c.in-Ok.store o.0 o.1 o.2 (restarted o.1) refl o.4 in
    absurd (from_no_damage g.D.Disk.tells g.D.Disk.content g.D.Disk.may_leave g.D.Disk.moment g.D.Disk.left_since g.D.Disk.faults g.met.D.Disk.only_now g.met.D.Disk.counts_now c.in-Ok.store.disk c.args.most f.state c.run_tape.result.disk c.run_tape.result.status
    (g.S.Source.left c.args.source.now) (g.S.Source.left c.run_tape.new.source) (g.K.Sink.written c.args.sink.now) (g.K.Sink.written c.run_tape.new.sink) file at is
    (subst (λ (t : Telling). IsTrue t.content) (sym c.in-Ok.ensures.telling) told)
    (c.run_tape.ensures.tape f.state f.stands f.opens.sound))

pub returns-in-Ok-clause-other : goal.returns-in-Ok-clause-other
returns-in-Ok-clause-other g c told found is =
    let o = c.in-Ok.ensures.opened in
    let f = found_by g.D.Disk.tells g.D.Disk.content g.D.Disk.may_leave c.in-Ok.store o.0 o.1 o.2 (restarted o.1) refl o.4 in
    absurd (from_no_version g.D.Disk.tells g.D.Disk.content g.D.Disk.may_leave g.D.Disk.moment g.D.Disk.left_since g.D.Disk.faults g.met.D.Disk.only_now g.met.D.Disk.counts_now c.in-Ok.store.disk c.args.most f.state c.run_tape.result.disk c.run_tape.result.status
    (g.S.Source.left c.args.source.now) (g.S.Source.left c.run_tape.new.source) (g.K.Sink.written c.args.sink.now) (g.K.Sink.written c.run_tape.new.sink) found is
    (subst (λ (t : Telling). IsTrue t.content) (sym c.in-Ok.ensures.telling) told)
    (c.run_tape.ensures.tape f.state f.stands f.opens.sound))

pub returns-in-Err-clause-tape : goal.returns-in-Err-clause-tape
returns-in-Err-clause-tape g c =
    rw c.of_open.ensures (inr (record {
      cause = is_open_error c.in-Err.error;
      read = refl;
      wrote = refl;
      fault = open_fault c.in-Err.error (g.D.Disk.faults c.args.disk) (g.D.Disk.faults c.in-Err.disk) c.in-Err.ensures.later
          c.in-Err.ensures.cause;
      any_moment = c.in-Err.ensures.any_moment;
    }))

pub returns-in-Err-clause-damaged : goal.returns-in-Err-clause-damaged
returns-in-Err-clause-damaged g c told file at is =
    c.in-Err.ensures.damaged told file at (told_damage c.in-Err.error file at (sym c.of_open.ensures ∙ is))
