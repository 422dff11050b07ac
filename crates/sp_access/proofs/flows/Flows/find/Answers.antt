use Rattle.std.proofs.Common.{◌∙◌, Bool, List, Some, None, ap, cond, get_or, subst}
use Rattle.std.specs.Prelude.{AllPairs, bytes_eq}
use Rattle.sp_access.specs.Flow.{FlowView}
use Rattle.sp_access.proofs.Places.{Below, none_found, one_found}
use Rattle.sp_access.proofs.flows.Flows.find.Goals as goal

pub returns-in-Some : goal.returns-in-Some
returns-in-Some c =
    let found = c.index-as_slice-place.result in
    let here = c.in-Some.ensures in
    let own : FlowView → Bool = λ f. bytes_eq f.caller c.args.caller.now in
    c.own.ensures
    ∙ ap (λ (f : FlowView). cond (own f) (Some f) None) (c.index-as_slice-place.is ∙ ap (λ (fs : List FlowView). get_or fs c.in-Some.place found) (c.as_slice.ensures ∙ ap (λ r. r.flows) c.self.view_is))
    ∙ one_found c.args.number own c.args.self.now.flows c.in-Some.place found (subst (λ r. AllPairs Below r.flows) c.self.view_is c.self.invariant.rise) here.0 (here.1 found)

pub returns-in-None : goal.returns-in-None
returns-in-None c =
    none_found c.args.number (λ f. bytes_eq f.caller c.args.caller.now) c.args.self.now.flows (c.in-None.ensures (subst (λ r. AllPairs Below r.flows) c.self.view_is c.self.invariant.rise))
