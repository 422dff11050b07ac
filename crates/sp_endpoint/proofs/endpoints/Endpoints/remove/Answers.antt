use Rattle.std.proofs.Common.{rules, ◌≡◌, ◌==◌, List, Some, ap, get_or, ◌∙◌, not, subst, sym}
use Rattle.std.proofs.lemmas.Fn.{filter_same}
use Rattle.std.proofs.lemmas.List.Kept.{AllPairs-filter}
use Rattle.sp_base.specs.Rows.{IsPlace}
use Rattle.sp_endpoint.specs.Endpoint.{EndpointView}
use Rattle.sp_endpoint.specs.Endpoints.{without_endpoint}
use Rattle.sp_endpoint.specs.Index.{Indexes}
use Rattle.sp_endpoint.proofs.Indexes.{at, goes, none_goes, texts_there}
use Rattle.sp_endpoint.proofs.Places.{Below, Rise}
use Rattle.sp_endpoint.proofs.endpoints.Endpoints.remove.Goals as goal
use Rattle.sp_endpoint.proofs.endpoints.Endpoints.remove.Goals.{After-retain}

-- the others are kept
kept : (c : After-retain) → c.retain.new.self.items ≡ without_endpoint c.args.number c.self.inside.rows.items
kept c = filter_same _ (λ (e : EndpointView). not (e.number == c.args.number)) _ (λ x b f k. search rules)
    c.self.inside.rows.items c.retain.new.self.items c.retain.ensures.items

pub invariant_of-self : goal.invariant_of-self
invariant_of-self c =
    let number = c.args.number in
    let rows : List EndpointView = c.self.inside.rows.items in
    let found : EndpointView = c.index-as_slice-place.result in
    let here = subst (λ r. IsPlace (λ (e : EndpointView). e.number) r.items number (Some c.in-Some.place))
    (sym c.self.view_is) c.in-Some.ensures in
    subst (λ (es : List EndpointView). Rise es × Indexes c.remove.new.self es) (sym (kept c)) (
      AllPairs-filter Below (λ (e : EndpointView). not (e.number == number)) rows c.self.invariant.0,
      c.remove.ensures (at rows) (at (without_endpoint number rows))
          (texts_there number rows c.in-Some.place found c.texts.result.now c.self.invariant.0 here
          (c.index-as_slice-place.is ∙ ap (λ (es : List EndpointView). get_or es c.in-Some.place found)
          c.as_slice.ensures) c.texts.ensures)
          (goes number rows) c.self.invariant.1,
    )

pub returns-clause-items : goal.returns-clause-items
returns-clause-items c = kept c ∙ ap (λ r. without_endpoint c.args.number r.items) c.self.view_is

pub returns-in_default-clause-items : goal.returns-in_default-clause-items
returns-in_default-clause-items c =
    none_goes c.args.number c.args.self.now.items
    (c.in_default.ensures (subst (λ r. Rise r.items) c.self.view_is c.self.invariant.0))
