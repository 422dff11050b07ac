use Rattle.std.proofs.Common.{◌∙◌, List, Some, ap, get_or, subst}
use Rattle.sp_endpoint.specs.Endpoint.{EndpointView}
use Rattle.sp_endpoint.proofs.Places.{Rise, none_found, one_found}
use Rattle.sp_endpoint.proofs.endpoints.Endpoints.find_number.Goals as goal

pub returns-in-Some : goal.returns-in-Some
returns-in-Some c =
    let found = c.index-as_slice-place.result in
    let here = c.in-Some.ensures in
    ap Some (c.index-as_slice-place.is ∙ ap (λ (es : List EndpointView). get_or es c.in-Some.place found)
    (c.as_slice.ensures ∙ ap (λ r. r.items) c.self.view_is))
    ∙ one_found c.args.number c.args.self.now.items c.in-Some.place found
    (subst (λ r. Rise r.items) c.self.view_is c.self.invariant.0) here.0 (here.1 found)

pub returns-in-None : goal.returns-in-None
returns-in-None c =
    none_found c.args.number c.args.self.now.items
    (c.in-None.ensures (subst (λ r. Rise r.items) c.self.view_is c.self.invariant.0))
