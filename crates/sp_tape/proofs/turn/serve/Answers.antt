use Rattle.std.proofs.Common.{◌≡◌, List, ℕ, ◌++◌, ◌∙◌, ap, refl, subst}
use Rattle.std.specs.Io.KnownBytes.{Appends}
use Rattle.sp_flowline.specs.Answers.{line_of}
use Rattle.sp_tape.specs.Serves.{WritesFront}
use Rattle.sp_tape.specs.declared.turn.Served.TheVariants as served
use Rattle.sp_tape.proofs.Served.{line_written}
use Rattle.sp_tape.proofs.turn.serve.Goals as goal

pub returns-in_default-clause-serves : goal.returns-in_default-clause-serves
returns-in_default-clause-serves g c = record {
  answered = c.act-answered.result;
  leaves = c.act-answered.ensures;
  wrote = λ T is. refl;
}

pub returns-in-Ok-put-clause-serves : goal.returns-in-Ok-put-clause-serves
returns-in-Ok-put-clause-serves g c =
    let answered = c.act-answered.result in
    let text : c.as_slice.result.now ≡ line_of answered c.units.result =
    c.as_slice.ensures.value ∙ (c.in-Ok.ensures.ok ∙ ap (λ (bs : List ℕ). bs ++ line_of answered c.units.result) c.new-text.ensures.items) in
    record {
      answered = answered;
      leaves = c.act-answered.ensures;
      wrote = λ T is. line_written (g.K.Sink.written c.args.sink.now) (g.K.Sink.written c.put.new.sink) answered c.units.result T
          (c.units.ensures T.unsure T.units T.ledger is.stands) served.Done
          (subst (λ (bytes : List ℕ). Appends (g.K.Sink.written c.args.sink.now) (g.K.Sink.written c.put.new.sink) bytes) text c.in-Ok-put.ensures.ok);
    }

pub returns-clause-serves : goal.returns-clause-serves
returns-clause-serves g c =
    let answered = c.act-answered.result in
    let text : c.as_slice.result.now ≡ line_of answered c.units.result =
    c.as_slice.ensures.value ∙ (c.in-Ok.ensures.ok ∙ ap (λ (bs : List ℕ). bs ++ line_of answered c.units.result) c.new-text.ensures.items) in
    record {
      answered = answered;
      leaves = c.act-answered.ensures;
      wrote = λ T is. line_written (g.K.Sink.written c.args.sink.now) (g.K.Sink.written c.put.new.sink) answered c.units.result T
          (c.units.ensures T.unsure T.units T.ledger is.stands) served.Fault
          (subst (λ (bytes : List ℕ). WritesFront (g.K.Sink.written c.args.sink.now) (g.K.Sink.written c.put.new.sink) bytes) text c.in-Err.ensures.front);
    }
