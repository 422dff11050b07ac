use Rattle.sp_access.specs.Flow.{FlowView}
use Rattle.sp_copies.specs.declared.made.MadeCopy.{MadeCopy}
use Rattle.sp_core.proofs.Ending.{pull_obeys, pull_plan}
use Rattle.sp_endpoint.specs.Endpoints.{numbered}
use Rattle.sp_ledger.specs.OnFlows.{pulled}
use Rattle.sp_ledger.specs.Step.{begun}
use Rattle.std.proofs.Common.{ap, sym, ◌∙◌}
use Rattle.std.specs.Option.{option_copied}
use Rattle.std.specs.Prelude.{List}
use Rattle.sp_core.proofs.state.Core.decide_pull.Goals as goal

pub returns : goal.returns
returns c L s =
    pull_obeys L _ c.in_ok-plan.plan (c.judge.ensures L s) c.args.moment c.args.caller.now c.args.flow c.args.count
    c.in-Some.found.now (sym (ap option_copied c.in-Some.is) ∙ c.find_flow.ensures L s)
    c.in-Some-find_number.endpoint.now
    (sym (ap option_copied c.in-Some-find_number.is) ∙ (c.find_number.ensures L s
    ∙ ap (λ (f : FlowView). numbered f.endpoint L.endpoints) c.found.view_is))
    c.in_ok-copies.copies
    (c.in_ok-copies.ensures L s
    ∙ ap (pulled (begun c.args.moment L) c.in-Some-find_number.endpoint.now c.args.flow) c.value.ensures.value)
    (c.in_ok-plan.ensures L s ∙ ap (λ (cs : List MadeCopy). pull_plan c.args.flow cs L) c.as_slice.ensures)
