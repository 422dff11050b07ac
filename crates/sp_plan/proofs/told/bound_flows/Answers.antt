use Rattle.sp_access.specs.Activity.{flows_of}
use Rattle.sp_access.specs.Flow.{FlowView}
use Rattle.sp_event.specs.declared.answer.BoundFlow.{BoundFlow}
use Rattle.sp_ledger.specs.Answer.{bound_flow}
use Rattle.sp_plan.proofs.FlowsTold.{told_all, told_among, told_more, told_of}
use Rattle.std.proofs.Common.{ap, arith, get_or, subst, sym, take, ◌∙◌}
use Rattle.std.proofs.lemmas.List.{take_all}
use Rattle.std.specs.List.{cons_option}
use Rattle.std.specs.Prelude.{List, Option, [], length, map, ◌++◌, ◌<◌, ◌≤◌}
use Rattle.sp_plan.proofs.told.bound_flows.Goals as goal

pub loop-flow-preserved : goal.loop-flow-preserved
loop-flow-preserved c L flows kept =
    let e = c.args.endpoint.now in
    let fs = c.args.flows.now.flows in
    let i = c.loop-flow.flow-index in
    let flow : FlowView = c.flow-item.result in
    let same = c.as_slice-flow-items.ensures in
    let below : i < length fs = subst (λ (xs : List FlowView). i < length xs) same c.loop-flow-test.true in
    c.in_ok-push_some.ensures
    ∙ (ap (λ (ds : List BoundFlow). ds ++ cons_option c.in_ok-flow_of.field-0 []) (c.loop-flow.invariant L flows kept)
    ∙ (ap (λ (o : Option BoundFlow). told_among L e (take i fs) ++ cons_option o [])
    (c.in_ok-flow_of.ensures L flows kept
    ∙ ap (told_of L e) (c.flow-item.is ∙ ap (λ (xs : List FlowView). get_or xs i flow) same))
    ∙ sym (told_more L e fs i flow below)))

pub returns : goal.returns
returns c L flows kept =
    let e = c.args.endpoint.now in
    let fs = c.args.flows.now.flows in
    let same = ap length c.as_slice-flow-items.ensures in
    let all : length fs ≤ c.loop-flow.flow-index = omega (arith, c.loop-flow-test.false, same) in
    c.from_vec.ensures
    ∙ (c.loop-flow.invariant L flows kept
    ∙ (ap (told_among L e) (take_all c.loop-flow.flow-index fs all)
    ∙ (told_all L e fs ∙ ap (λ (xs : List FlowView). map (bound_flow L e) (flows_of xs e.number)) flows)))
