use Rattle.sp_core.proofs.Plans.{map_twice}
use Rattle.sp_core.proofs.Standing.{standing}
use Rattle.sp_core.specs.Decided.{publish_plan}
use Rattle.sp_plan.specs.Plan.{PlanState}
use Rattle.sp_core.specs.Stands.{Stands}
use Rattle.sp_event.specs.declared.answer.Reply.TheVariants as replies
use Rattle.sp_ledger.specs.Changes.{publishes}
use Rattle.sp_ledger.specs.Ledger.{Ledger}
use Rattle.sp_ledger.specs.Publish.{share_for, told_copies}
use Rattle.sp_ledger.specs.Step.{begun}
use Rattle.std.proofs.Common.{ap, subst, sym, ◌∙◌}
use Rattle.std.proofs.lemmas.Result.{IfOk-weaker}
use Rattle.std.specs.Prelude.{[], length, map, max, ℕ, ◌+◌, ◌^◌, ◌∷◌, ◌≡◌, ◌≤◌}
use Rattle.sp_core.proofs.state.Core.publish_plan.Goals as goal

pub told_copies-requires : goal.told_copies-requires
told_copies-requires c =
    let L = c.self.invariant.ledger in
    let s = c.self.invariant.stands in
    let first : c.next.result ≡ L.copies.next = c.next.ensures L.copies s.copies in
    let left = c.requires L (subst (λ k. Stands k L) c.self.view_is s) in
    subst (λ (n : ℕ). n + length c.args.into.now ≤ 2 ^ 62) (sym first) left

pub returns : goal.returns
returns c =
    IfOk-weaker c.of_one.result _ (λ (plan : PlanState). (L : Ledger) → Stands c.args.self.now L → plan ≡ publish_plan c.args.message.now (map (λ e. e.now) c.args.into.now) (begun c.args.moment L))
    (λ plan is L s.
    let t = standing _ _ L c.self.view_is s in
    let number : c.self.inside.next_message ≡ L.next.message = t.next_message in
    let first : c.next.result ≡ L.copies.next = c.next.ensures L.copies t.copies in
    let later : c.later.result ≡ max L.now c.args.moment = c.later.ensures L s in
    let told = c.in_ok-told.ensures ∙ ap (λ (n : ℕ). told_copies n (map (λ e. e.now) c.args.into.now)) first in
    let shares = c.in_ok-shares.ensures
    ∙ ((λ j. map (λ e. share_for c.args.message.now (number j) (later j) e.now) c.args.into.now)
    ∙ map_twice (share_for c.args.message.now L.next.message (max L.now c.args.moment)) (λ e. e.now) c.args.into.now) in
    is ∙ (λ i. record { changes = publishes (c.in_ok-message.ensures i) (shares i) ∷ []; reply = replies.Publish (number i) (told i) }))
    c.of_one.ensures
