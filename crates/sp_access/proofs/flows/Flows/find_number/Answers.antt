use Rattle.std.proofs.Common.{◌∙◌, List, Some, true, ap, get_or, subst}
use Rattle.std.specs.Prelude.{AllPairs}
use Rattle.sp_access.specs.Flow.{FlowView}
use Rattle.sp_access.proofs.Places.{Below, by_number, none_found, one_found}
use Rattle.sp_access.proofs.flows.Flows.find_number.Goals as goal

pub returns-in-Some : goal.returns-in-Some
returns-in-Some c =
    let found = c.index-as_slice-place.result in
    let here = c.in-Some.ensures in
    ap Some (c.index-as_slice-place.is ∙ ap (λ (fs : List FlowView). get_or fs c.in-Some.place found) (c.as_slice.ensures ∙ ap (λ r. r.flows) c.self.view_is))
    ∙ one_found c.args.number (λ f. true) c.args.self.now.flows c.in-Some.place found (subst (λ r. AllPairs Below r.flows) c.self.view_is c.self.invariant.rise) here.0 (here.1 found)
    ∙ by_number c.args.number c.args.self.now.flows

pub returns-in-None : goal.returns-in-None
returns-in-None c =
    none_found c.args.number (λ f. true) c.args.self.now.flows (c.in-None.ensures (subst (λ r. AllPairs Below r.flows) c.self.view_is c.self.invariant.rise))
    ∙ by_number c.args.number c.args.self.now.flows
