use Rattle.std.proofs.Common.{◌≡◌, ◌∙◌, List, Some, ap, get_or, subst, sym}
use Rattle.std.specs.Prelude.{All}
use Rattle.sp_base.specs.Rows.{IsPlace}
use Rattle.sp_endpoint.specs.Endpoint.{EndpointView}
use Rattle.sp_endpoint.specs.Endpoints.{replaced}
use Rattle.sp_endpoint.specs.Index.{Indexes}
use Rattle.sp_endpoint.proofs.Indexes.{at, becomes, texts_there, there}
use Rattle.sp_endpoint.proofs.Places.{IsOther, Rise, none_replaced, one_replaced, replaced_rise}
use Rattle.sp_endpoint.proofs.endpoints.Endpoints.replace.Goals as goal
use Rattle.sp_endpoint.proofs.endpoints.Endpoints.replace.Goals.{After-replace}

here : (c : After-replace) →
    IsPlace (λ (e : EndpointView). e.number) c.self.inside.rows.items c.args.endpoint.number (Some c.in-Some.place)
here c =
    subst (λ (e : EndpointView). IsPlace (λ (x : EndpointView). x.number) c.self.inside.rows.items e.number
    (Some c.in-Some.place)) c.endpoint.view_is
    (subst (λ r. IsPlace (λ (x : EndpointView). x.number) r.items c.endpoint.inside.number (Some c.in-Some.place))
    (sym c.self.view_is) c.in-Some.ensures)

put : (c : After-replace) → c.replace.new.self.items ≡ replaced c.args.endpoint c.self.inside.rows.items
put c =
    c.replace.ensures.items
    ∙ one_replaced c.args.endpoint c.self.inside.rows.items c.in-Some.place c.self.invariant.0 (here c).0
    ((here c).1 c.args.endpoint)

found_is : (c : After-replace) →
    c.index-as_slice-place.result ≡ get_or c.self.inside.rows.items c.in-Some.place c.index-as_slice-place.result
found_is c = c.index-as_slice-place.is
    ∙ ap (λ (es : List EndpointView). get_or es c.in-Some.place c.index-as_slice-place.result) c.as_slice.ensures

pub invariant_of-self : goal.invariant_of-self
invariant_of-self c =
    let e : EndpointView = c.args.endpoint in
    let rows : List EndpointView = c.self.inside.rows.items in
    let found : EndpointView = c.index-as_slice-place.result in
    subst (λ (es : List EndpointView). Rise es × Indexes c.put.new.self es) (sym (put c)) (
      replaced_rise e rows c.self.invariant.0,
      c.put.ensures (at rows) (at (replaced e rows))
          (texts_there e.number rows c.in-Some.place found c.texts.result.now c.self.invariant.0 (here c)
          (found_is c) c.texts.ensures)
          (becomes e found rows (there e.number rows c.in-Some.place found c.self.invariant.0 (here c) (found_is c)))
          c.self.invariant.1,
    )

pub returns-in-Some-clause-items : goal.returns-in-Some-clause-items
returns-in-Some-clause-items c = put c ∙ ap (λ r. replaced c.args.endpoint r.items) c.self.view_is

pub returns-in_default-clause-items : goal.returns-in_default-clause-items
returns-in_default-clause-items c =
    none_replaced c.args.endpoint c.args.self.now.items
    (subst (λ (e : EndpointView). All (IsOther e.number) c.args.self.now.items) c.endpoint.view_is
    (c.in_default.ensures (subst (λ r. Rise r.items) c.self.view_is c.self.invariant.0)))
