use Rattle.std.proofs.Common.{[], arith, refl, ◌∙◌}
use Rattle.sp_tape.specs.Run.{state_after}
use Rattle.sp_tape.proofs.Exits.{at_bad, at_end, at_fault, at_memory, at_stop, at_unwritten, at_write_fault, begins_between, goes_between}
use Rattle.sp_tape.proofs.run_tape.run_tape.Goals as goal

pub overflow_sub-offset : goal.overflow_sub-offset
overflow_sub-offset g c =
    let s = c.requires.stands in
    let f = (c.loop-number.invariant.between s.0 s.1 s.2).so_far.fits in omega (arith, f)

pub ready-requires : goal.ready-requires
ready-requires g c =
    let s = c.requires.stands in (c.loop-number.invariant.between s.0 s.1 s.2).going.max

pub loop-number-init : goal.loop-number-init
loop-number-init g c = record {
  between = λ start is ledger. rw c.new-waiting.ensures.items (begins_between g.D.Disk.tells g.D.Disk.content g.D.Disk.may_leave g.D.Disk.moment g.D.Disk.left_since g.D.Disk.faults g.met.D.Disk.only_now g.met.D.Disk.counts_now c.args.store.disk c.args.most start (g.S.Source.left c.args.source.now)
      (g.K.Sink.written c.args.sink.now) c.args.store refl c.requires.max is ledger);
  later = omega arith;
  source_same = refl;
  sink_same = refl;
}

pub returns-in-End-clause-tape : goal.returns-in-End-clause-tape
returns-in-End-clause-tape g c start is ledger =
    rw c.ended.ensures (at_end g.D.Disk.tells g.D.Disk.content g.D.Disk.may_leave g.D.Disk.moment g.D.Disk.left_since g.D.Disk.faults g.met.D.Disk.only_now g.met.D.Disk.counts_now c.args.store.disk c.args.most start _ _ _ _ (g.K.Sink.written c.loop-number.sink) (g.K.Sink.written c.loop-number.sink) _
    c.next_entry.new.waiting.items _ _ c.loop-number.store (c.loop-number.invariant.between start is ledger) 0 c.in-End.ensures.comes)

pub returns-in-Bad-clause-tape : goal.returns-in-Bad-clause-tape
returns-in-Bad-clause-tape g c start is ledger =
    rw c.ended-in-Bad.ensures (at_bad g.D.Disk.tells g.D.Disk.content g.D.Disk.may_leave g.D.Disk.moment g.D.Disk.left_since g.D.Disk.faults g.met.D.Disk.only_now g.met.D.Disk.counts_now c.args.store.disk c.args.most start _ _ _ _ (g.K.Sink.written c.loop-number.sink) (g.K.Sink.written c.loop-number.sink) _
    c.next_entry.new.waiting.items _ _ c.loop-number.store (c.loop-number.invariant.between start is ledger) c.in-Bad.ensures.comes)

pub returns-in-Fault-clause-tape : goal.returns-in-Fault-clause-tape
returns-in-Fault-clause-tape g c start is ledger =
    rw c.ended-in-Fault.ensures (at_fault g.D.Disk.tells g.D.Disk.content g.D.Disk.may_leave g.D.Disk.moment g.D.Disk.left_since g.D.Disk.faults g.met.D.Disk.only_now g.met.D.Disk.counts_now c.args.store.disk c.args.most start _ _ _ _ (g.K.Sink.written c.loop-number.sink) (g.K.Sink.written c.loop-number.sink) _
    [] _ _ c.loop-number.store (c.loop-number.invariant.between start is ledger))

pub returns-in-Memory-clause-tape : goal.returns-in-Memory-clause-tape
returns-in-Memory-clause-tape g c start is ledger =
    rw c.ended-in-Memory.ensures (at_memory g.D.Disk.tells g.D.Disk.content g.D.Disk.may_leave g.D.Disk.moment g.D.Disk.left_since g.D.Disk.faults g.met.D.Disk.only_now g.met.D.Disk.counts_now c.args.store.disk c.args.most start _ _ _ _ (g.K.Sink.written c.loop-number.sink) (g.K.Sink.written c.loop-number.sink) _
    [] _ _ c.loop-number.store (c.loop-number.invariant.between start is ledger))

pub returns-in-Err-clause-tape : goal.returns-in-Err-clause-tape
returns-in-Err-clause-tape g c start is ledger =
    rw c.of_open-status.ensures (at_stop g.D.Disk.tells g.D.Disk.content g.D.Disk.may_leave g.D.Disk.moment g.D.Disk.left_since g.D.Disk.faults g.met.D.Disk.only_now g.met.D.Disk.counts_now c.args.store.disk c.args.most start _ _ _ _ (g.K.Sink.written c.loop-number.sink) (g.K.Sink.written c.loop-number.sink) _
    c.next_entry.new.waiting.items _ _ c.loop-number.store (c.loop-number.invariant.between start is ledger) c.in-Found.found
    c.in-Found.ensures.comes c.in-Err.disk c.in-Err.error c.in-Err.ensures)

pub serve-requires-clause-stands : goal.serve-requires-clause-stands
serve-requires-clause-stands g c =
    let s = c.requires.stands in
    let b = c.loop-number.invariant.between s.0 s.1 s.2 in
    let st = c.in-Ok.ensures.state (state_after s.0 b.so_far.turns) b.going.stands in (st.0, st.1)

pub returns-in-Fault-serve-clause-tape : goal.returns-in-Fault-serve-clause-tape
returns-in-Fault-serve-clause-tape g c start is ledger =
    rw c.ended-in-Fault-serve.ensures (at_write_fault g.D.Disk.tells g.D.Disk.content g.D.Disk.may_leave g.D.Disk.moment g.D.Disk.left_since g.D.Disk.faults g.met.D.Disk.only_now g.met.D.Disk.counts_now c.args.store.disk c.args.most start _ _ _ _ _ _ _ _ _ _ c.loop-number.store
    (c.loop-number.invariant.between start is ledger) c.in-Found.found c.in-Found.ensures.comes c.in-Ok.store c.serve.new.store
    c.in-Ok.ensures c.in-Fault-serve.ensures.serves)

pub returns-in-Memory-serve-clause-tape : goal.returns-in-Memory-serve-clause-tape
returns-in-Memory-serve-clause-tape g c start is ledger =
    rw c.ended-in-Memory-serve.ensures (at_unwritten g.D.Disk.tells g.D.Disk.content g.D.Disk.may_leave g.D.Disk.moment g.D.Disk.left_since g.D.Disk.faults g.met.D.Disk.only_now g.met.D.Disk.counts_now c.args.store.disk c.args.most start _ _ _ _ _ _ _ _ _ _ c.loop-number.store
    (c.loop-number.invariant.between start is ledger) c.in-Found.found c.in-Found.ensures.comes c.in-Ok.store c.serve.new.store
    c.in-Ok.ensures c.in-Memory-serve.ensures.serves)

pub loop-number-preserved : goal.loop-number-preserved
loop-number-preserved g c = record {
  between = λ start is ledger. goes_between g.D.Disk.tells g.D.Disk.content g.D.Disk.may_leave g.D.Disk.moment g.D.Disk.left_since g.D.Disk.faults g.met.D.Disk.only_now g.met.D.Disk.counts_now c.args.store.disk c.args.most start _ _ _ _ _ _ _ _ _ _ c.loop-number.store
      (c.loop-number.invariant.between start is ledger) c.in-Found.found c.in-Found.ensures.comes c.in-Ok.store c.serve.new.store
      c.in-Ok.ensures c.in-Done.ensures.serves;
  later = omega (arith, c.loop-number.invariant.later, c.in-Ok.ensures.later, c.in-Done.ensures.serves.leaves.later);
  source_same = c.next_entry.ensures.no_fault (λ e. absurd (cc (e, c.in-Found.is))) ∙ c.loop-number.invariant.source_same;
  sink_same = c.serve.ensures.no_fault (λ e. absurd (cc (e, c.in-Done.is))) ∙ c.loop-number.invariant.sink_same;
}

pub returns-clause-tape : goal.returns-clause-tape
returns-clause-tape g c start is ledger =
    rw c.ended-2.ensures (at_memory g.D.Disk.tells g.D.Disk.content g.D.Disk.may_leave g.D.Disk.moment g.D.Disk.left_since g.D.Disk.faults g.met.D.Disk.only_now g.met.D.Disk.counts_now c.args.store.disk c.args.most start _ _ _ _ (g.K.Sink.written c.loop-number.sink) (g.K.Sink.written c.loop-number.sink) _
    [] _ _ c.loop-number.store (c.loop-number.invariant.between start is ledger))
