use Rattle.std.proofs.Common.{◌≡◌, ◌∙◌, Bool, List, Some, map, sym, ap, subst}
use Rattle.std.specs.Prelude.{IfOk, filter}
use Rattle.std.specs.List.{filter_map}
use Rattle.sp_endpoint.specs.Endpoint.{EndpointView}
use Rattle.sp_endpoint.specs.Endpoints.{numbered}
use Rattle.sp_endpoint.specs.Index.{Indexes}
use Rattle.sp_endpoint.specs.Takers.{takes_message}
use Rattle.sp_selector.specs.Takes.{passes}
use Rattle.sp_endpoint.proofs.Lookup.{looked_up}
use Rattle.sp_endpoint.proofs.endpoints.Endpoints.looked_up.Goals as goal

pub returns : goal.returns
returns c =
    let m = c.args.message.now in
    let p : EndpointView → Bool = λ e. passes e.selector m.properties in
    let rows = c.self.inside.rows.items in
    let numbers = c.matching.new.into.items in
    let index : Indexes (Some c.in-Some.tree.now) rows =
    subst (λ o. Indexes o rows) (sym c.in-Some.ensures) c.self.invariant.1 in
    let taken : filter p (filter_map (λ n. numbered n rows) numbers) ≡ filter (takes_message m) rows =
    looked_up c.in-Some.tree.now rows c.args.topic.now numbers c.self.invariant.0 index
    c.in_ok-matching.ensures.by_texts m c.requires c.in_ok-matching.ensures.rising in
    subst (λ (es : List EndpointView). IfOk c.passing.result (λ found. map (λ e. e.now) found.items ≡ es))
    ((λ i. filter p (filter_map (λ n. numbered n (sym c.self.view_is i).items) (c.as_slice-2.ensures.value i)))
    ∙ taken ∙ ap (λ r. filter (takes_message m) r.items) c.self.view_is)
    c.passing.ensures
