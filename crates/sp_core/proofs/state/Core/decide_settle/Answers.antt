use Rattle.sp_core.proofs.Ending.{begun_tabled, one_may, settle_obeys, settle_unheld}
use Rattle.sp_core.proofs.Standing.{standing}
use Rattle.sp_ledger.specs.Step.{begun}
use Rattle.std.proofs.Common.{ap, sym, ◌∙◌}
use Rattle.std.specs.Option.{option_copied}
use Rattle.sp_core.proofs.state.Core.decide_settle.Goals as goal

pub settle_plan-requires : goal.settle_plan-requires
settle_plan-requires c =
    let k = c.tables.ensures.stands in
    let L = k.ledger in
    let t = standing _ _ L c.self.view_is k.stands in (
      begun c.args.moment L,
      begun_tabled _ _ _ c.args.moment L (c.tables.ensures.tabled L k.stands),
      one_may c.args.moment L k.stands.ledger.sound c.args.flow c.args.copy _
          (sym (c.held_copy.ensures L.copies t.copies) ∙ c.in-Some-held_copy.is),
    )

pub returns : goal.returns
returns c L s =
    let B = begun c.args.moment L in
    let t = standing _ _ L c.self.view_is s in
    let held = sym (c.held_copy.ensures L.copies t.copies) ∙ c.in-Some-held_copy.is in
    settle_obeys L _ c.in_ok-plan.plan (c.judge.ensures L s) c.args.moment c.args.caller.now c.args.flow c.args.copy
    c.args.outcome s.ledger.sound _ (sym (ap option_copied c.in-Some.is) ∙ c.find_flow.ensures L s) _ (sym held)
    (c.in_ok-plan.ensures B (begun_tabled _ _ _ c.args.moment L (c.tables.ensures.tabled L s))
    (one_may c.args.moment L s.ledger.sound c.args.flow c.args.copy _ held))
