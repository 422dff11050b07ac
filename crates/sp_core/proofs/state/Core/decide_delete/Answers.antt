use Rattle.sp_core.proofs.Ending.{delete_obeys}
use Rattle.sp_endpoint.specs.Endpoint.{EndpointView}
use Rattle.sp_ending.specs.Plans.{delete_plan}
use Rattle.std.proofs.Common.{ap, sym, ◌∙◌}
use Rattle.std.specs.Option.{option_copied}
use Rattle.sp_core.proofs.state.Core.decide_delete.Goals as goal

pub returns : goal.returns
returns c L moment s =
    delete_obeys L _ c.in_ok-plan.plan (c.judge.ensures L s) moment c.args.name.now c.args.copy c.in-Some.endpoint.now
    (sym (ap option_copied c.in-Some.is) ∙ c.find.ensures L s) _ (c.as_slice.ensures ∙ c.in_ok-deleted.ensures L s)
    (c.in_ok-plan.ensures ∙ ap (λ (e : EndpointView). delete_plan e.name c.as_slice.result.now) c.endpoint.view_is)
