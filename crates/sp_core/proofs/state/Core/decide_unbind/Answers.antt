use Rattle.sp_copies.specs.declared.made.MadeCopy.{MadeCopy}
use Rattle.sp_core.proofs.Ending.{begun_tabled, held_may_all, unbind_obeys}
use Rattle.sp_core.proofs.Standing.{standing}
use Rattle.sp_ending.specs.Ends.{MayAll, MayReturn}
use Rattle.sp_ledger.specs.Step.{begun}
use Rattle.std.proofs.Common.{ap, subst, sym, ◌∙◌}
use Rattle.std.specs.Option.{option_copied}
use Rattle.std.specs.Prelude.{List}
use Rattle.sp_core.proofs.state.Core.decide_unbind.Goals as goal

pub unbind_plan-requires : goal.unbind_plan-requires
unbind_plan-requires c =
    let k = c.tables.ensures.stands in
    let L = k.ledger in
    let t = standing _ _ L c.self.view_is k.stands in (
      begun c.args.moment L,
      begun_tabled _ _ _ c.args.moment L (c.tables.ensures.tabled L k.stands),
      subst (λ (cs : List MadeCopy). MayAll MayReturn cs (begun c.args.moment L))
          (sym (c.as_slice.ensures ∙ c.in_ok-held.ensures L.copies t.copies))
          (held_may_all c.args.moment L k.stands.ledger.sound c.args.flow),
    )

pub returns : goal.returns
returns c L s =
    let B = begun c.args.moment L in
    let t = standing _ _ L c.self.view_is s in
    let those = c.as_slice.ensures ∙ c.in_ok-held.ensures L.copies t.copies in
    unbind_obeys L _ c.in_ok-plan.plan (c.judge.ensures L s) c.args.moment c.args.caller.now c.args.flow
    _ (sym (ap option_copied c.in-Some.is) ∙ c.find_flow.ensures L s) _ those
    (c.in_ok-plan.ensures B (begun_tabled _ _ _ c.args.moment L (c.tables.ensures.tabled L s))
    (subst (λ (cs : List MadeCopy). MayAll MayReturn cs B) (sym those)
    (held_may_all c.args.moment L s.ledger.sound c.args.flow)))
