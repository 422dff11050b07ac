use Rattle.sp_copies.specs.declared.made.MadeCopy.{MadeCopy}
use Rattle.sp_copies.specs.declared.closed.Cause.TheVariants.{TopicChanged}
use Rattle.sp_copies.specs.declared.closed.Closing.TheVariants.{Discarded}
use Rattle.sp_endpoint.specs.Endpoint.{EndpointView}
use Rattle.sp_event.specs.declared.answer.Reply.TheVariants as replies
use Rattle.sp_ledger.specs.Changes.{binds, closes}
use Rattle.sp_ledger.specs.OnFlows.{new_flow, rebinding, outdated}
use Rattle.std.proofs.Common.{ap, ◌∙◌}
use Rattle.std.specs.Prelude.{List, [], length, map, ◌++◌, ◌∷◌, ◌≡◌}
use Rattle.sp_core.proofs.state.Core.bind_plan.Goals as goal

pub returns : goal.returns
returns c L s =
    let e = c.args.endpoint.now in
    let bound = c.args.bound in
    let number : c.next_flow-number.result ≡ L.next.flow = c.next_flow-number.ensures L s in
    let old : c.as_slice.result.now ≡ outdated L e bound = c.as_slice.ensures ∙ c.in_ok-copies.ensures L s in
    let many : c.len.result ≡ length (outdated L e bound) = c.len.ensures ∙ ap (λ (cs : List MadeCopy). length cs) (c.in_ok-copies.ensures L s) in
    let flow : c.in_ok-flow.flow ≡ new_flow L.next.flow c.args.caller.now e c.args.selector.now =
    c.in_ok-flow.ensures ∙ (λ j. new_flow (number j) c.args.caller.now e c.args.selector.now) in
    let name : c.in_ok-copy.field-0 ≡ e.name = c.in_ok-copy.ensures ∙ ap (λ (x : EndpointView). x.name) c.endpoint.view_is in
    λ i. record {
      changes = (c.in_ok-changes.ensures
          ∙ (λ j. map (λ (k : MadeCopy). closes k.number (Discarded TopicChanged)) (old j) ++ rebinding e bound ++ binds (flow j) ∷ [])) i;
      reply = replies.Bind (name i) (number i) (many i);
    }
