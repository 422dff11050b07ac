use Rattle.std.proofs.Common.{◌<◌, ◌++◌, ◌∷◌, [], List, sym, ap, subst}
use Rattle.std.specs.Prelude.{All}
use Rattle.sp_endpoint.specs.Endpoint.{EndpointView}
use Rattle.sp_endpoint.specs.Index.{Indexes, texts_of}
use Rattle.sp_endpoint.proofs.Indexes.{at, comes, none_there, rise_more}
use Rattle.sp_endpoint.proofs.Places.{Rise}
use Rattle.sp_endpoint.proofs.endpoints.Endpoints.add.Goals as goal

pub invariant_of-self : goal.invariant_of-self
invariant_of-self c =
    let e : EndpointView = c.args.endpoint in
    let rows : List EndpointView = c.self.inside.rows.items in
    let below : All (λ (x : EndpointView). x.number < e.number) rows =
    subst (λ r. All (λ (x : EndpointView). x.number < e.number) r.items) (sym c.self.view_is) c.requires.above in
    subst (λ (es : List EndpointView). Rise es × Indexes c.put.new.self es) (sym c.add.ensures.items) (
      rise_more e rows below c.self.invariant.0,
      c.put.ensures (at rows) (at (rows ++ e ∷ [])) (ap texts_of (none_there e rows below)) (comes e rows below)
          c.self.invariant.1,
    )
