use Rattle.sp_plan.proofs.Needed.{need_more}
use Rattle.sp_plan.specs.Plan.{change_of, need_of}
use Rattle.sp_plan.specs.declared.change.Change.{Change}
use Rattle.std.proofs.Common.{ap, ◌∙◌}
use Rattle.std.specs.Prelude.{◌+◌}
use Rattle.sp_plan.proofs.need.Need.of.Goals as goal

pub loop-change-preserved : goal.loop-change-preserved
loop-change-preserved c =
    let one = c.of_one.ensures ∙ ap (λ (x : Change). need_of (change_of x)) c.change-item.is in
    c.in_ok-need.ensures
    ∙ ((λ j. record {
      endpoints = (c.loop-change.invariant j).endpoints + (one j).endpoints;
      messages = (c.loop-change.invariant j).messages + (one j).messages;
      copies = (c.loop-change.invariant j).copies + (one j).copies;
      flows = (c.loop-change.invariant j).flows + (one j).flows;
    })
    ∙ need_more c.args.changes.now c.loop-change.change-index c.change-item.result c.loop-change-test.true)
