use Rattle.sp_copies.specs.declared.made.MadeCopy.{MadeCopy}
use Rattle.sp_core.proofs.Ending.{all_held_may_all, begun_tabled, restart_planned}
use Rattle.sp_core.proofs.Standing.{standing}
use Rattle.sp_core.specs.Inside.{core_state}
use Rattle.sp_ending.specs.Ends.{MayAll, MayReturn}
use Rattle.sp_ledger.specs.Step.{begun}
use Rattle.sp_plan.specs.Plan.{PlanState}
use Rattle.std.proofs.Common.{ap, arith, refl, suc, subst, sym, zero, ◌∙◌}
use Rattle.std.proofs.lemmas.Bool.Decides.{nat_tests}
use Rattle.std.specs.Prelude.{List, Ok, false, ℕ, ◌==◌, ◌≡◌}
use Rattle.sp_core.proofs.state.Core.decide_restart.Goals as goal

some : (n : ℕ) → (n ≡ 0 → ⊥) → (n == 0) ≡ false
some zero never = absurd (never refl)
some (suc n) never = grind (arith, nat_tests)

pub restart_plan-requires : goal.restart_plan-requires
restart_plan-requires c =
    let k = c.tables.ensures.stands in
    let L = k.ledger in
    let t = standing _ _ L c.self.view_is k.stands in (
      begun c.args.moment L,
      begun_tabled _ _ _ c.args.moment L (c.tables.ensures.tabled L k.stands),
      subst (λ (cs : List MadeCopy). MayAll MayReturn cs (begun c.args.moment L))
          (sym (c.as_slice.ensures ∙ c.in_ok-held.ensures L.copies t.copies))
          (all_held_may_all c.args.moment L k.stands.ledger.sound),
    )

pub returns : goal.returns
returns c L s =
    let B = begun c.args.moment L in
    let t = standing _ _ L c.self.view_is s in
    let those = c.as_slice.ensures ∙ c.in_ok-held.ensures L.copies t.copies in
    restart_planned L (core_state c.self.inside).flows.flows t.flows c.args.moment _ those
    (some _ (λ none. c.if-len-eq0.false (c.len.ensures ∙ none)))
    ∙ sym (ap (λ (p : PlanState). Ok p)
    (c.in_ok-plan.ensures B (begun_tabled _ _ _ c.args.moment L (c.tables.ensures.tabled L s))
    (subst (λ (cs : List MadeCopy). MayAll MayReturn cs B) (sym those) (all_held_may_all c.args.moment L s.ledger.sound))))
