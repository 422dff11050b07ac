use Rattle.sp_base.specs.declared.refusal.Refusal.TheVariants.{UnknownEndpoint}
use Rattle.sp_core.proofs.Plans.{numbers_left}
use Rattle.sp_endpoint.specs.Endpoint.{EndpointView}
use Rattle.sp_ledger.specs.Publish.{lacks_queue, quota_check}
use Rattle.sp_ledger.specs.Step.{rule}
use Rattle.sp_message.specs.Size.{dest_bytes, size_of}
use Rattle.std.proofs.Common.{ap, subst, sym, ◌∙◌}
use Rattle.std.specs.Borrow.{Bor}
use Rattle.std.specs.Prelude.{List, length, map, ℕ, ◌+◌, ◌^◌, ◌≤◌}
use Rattle.sp_core.proofs.state.Core.decide_publish.Goals as goal

pub publish_plan-requires : goal.publish_plan-requires
publish_plan-requires c L s =
    let m = c.args.message.now in
    let left = numbers_left L (rule (lacks_queue m.dest L.endpoints) (UnknownEndpoint (dest_bytes m.dest)))
    (map (quota_check L (size_of m)) (map (λ e. e.now) c.as_slice.result.now)) (length c.as_slice.result.now)
    (sym c.in-None.is ∙ c.in_ok-refusal.ensures L s) in
    subst (λ (n : ℕ). L.copies.next + n ≤ 2 ^ 62)
    (ap (λ (es : List (Bor EndpointView)). length es) (c.as_slice.ensures.value ∙ sym c.as_slice-in-None.ensures.value)) left
