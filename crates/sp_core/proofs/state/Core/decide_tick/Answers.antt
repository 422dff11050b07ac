use Rattle.sp_copies.specs.declared.made.MadeCopy.{MadeCopy}
use Rattle.sp_core.proofs.Ending.{begun_tabled, due_may_all, tick_obeys}
use Rattle.sp_ending.specs.Ends.{MayAll, MayEnd}
use Rattle.sp_ledger.specs.Step.{begun}
use Rattle.std.proofs.Common.{subst, sym, ◌∙◌}
use Rattle.std.specs.Prelude.{List}
use Rattle.sp_core.proofs.state.Core.decide_tick.Goals as goal

pub expiry_plan-requires : goal.expiry_plan-requires
expiry_plan-requires c =
    let k = c.tables.ensures.stands in
    let L = k.ledger in (
      begun c.args.moment L,
      begun_tabled _ _ _ c.args.moment L (c.tables.ensures.tabled L k.stands),
      subst (λ (cs : List MadeCopy). MayAll MayEnd cs (begun c.args.moment L))
          (sym (c.as_slice.ensures ∙ c.in_ok-due.ensures L k.stands))
          (due_may_all c.args.moment L k.stands.ledger.sound),
    )

pub returns : goal.returns
returns c L s =
    let B = begun c.args.moment L in
    let those = c.as_slice.ensures ∙ c.in_ok-due.ensures L s in
    tick_obeys L _ c.in_ok-plan.plan (c.judge.ensures L s) c.args.moment _ those
    (c.in_ok-plan.ensures B (begun_tabled _ _ _ c.args.moment L (c.tables.ensures.tabled L s))
    (subst (λ (cs : List MadeCopy). MayAll MayEnd cs B) (sym those) (due_may_all c.args.moment L s.ledger.sound)))
