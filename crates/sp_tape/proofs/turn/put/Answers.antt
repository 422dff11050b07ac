use Rattle.std.proofs.Common.{take, drop, sym, arith, ◌∙◌}
use Rattle.std.proofs.Math.Seq.{take-add}
use Rattle.std.proofs.lemmas.List.{take-append-drop, take_rest}
use Rattle.std.proofs.lemmas.Grind.{common_steps}
use Rattle.sp_tape.proofs.Pieces.{writes_both, still_written}
use Rattle.sp_tape.proofs.turn.put.Goals as goal

pub returns-in_err-at-clause-front : goal.returns-in_err-at-clause-front
returns-in_err-at-clause-front g c =
    (take c.loop-at.at c.args.text.now, drop c.loop-at.at c.args.text.now, sym (take-append-drop c.loop-at.at c.args.text.now), still_written _ _ _ _ c.loop-at.invariant.wrote c.in_err-at.ensures.bytes)

pub loop-at-preserved : goal.loop-at-preserved
loop-at-preserved g c = record {
  wrote = rw take-add (rw take_rest at (writes_both _ _ _ _ _ c.loop-at.invariant.wrote c.in_ok-at.ensures.bytes));
  within = grind (arith, common_steps, c.in_ok-at.ensures.within);
  same = c.in_ok-at.ensures.cause.passed ∙ c.loop-at.invariant.same;
}
