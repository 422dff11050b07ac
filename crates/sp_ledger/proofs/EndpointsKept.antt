-- An endpoint that comes, goes or has other fields leaves sound endpoints.
use Rattle.sp_access.specs.Flows.{flow_count}
use Rattle.sp_access.specs.Flow.{FlowView}
use Rattle.sp_copies.specs.History.{is_closed}
use Rattle.sp_copies.specs.declared.closed.ClosedCopy.{ClosedCopy}
use Rattle.sp_copies.specs.declared.made.MadeCopy.{MadeCopy}
use Rattle.sp_endpoint.specs.Endpoint.{EndpointView}
use Rattle.sp_endpoint.specs.Endpoints.{is_there, replaced, without_endpoint}
use Rattle.sp_ledger.proofs.Listed.{list_any-map, All-both, and_left, any_kept, any_mapped, any_where, none_counted, pairs_map}
use Rattle.sp_ledger.proofs.OneKept.{OpenThere, there-weaker}
use Rattle.sp_ledger.specs.Allowed.{MayBecome, MayCome}
use Rattle.sp_ledger.specs.Ledger.{Ledger}
use Rattle.sp_ledger.specs.Sound.{AreFlows, AreEndpoints, IsEndpoint, has_endpoint, suits_flow}
use Rattle.std.proofs.Common.{ap, arith, length-append, refl, subst, sym, ◌∙◌}
use Rattle.std.proofs.lemmas.Bool.{eqb-true}
use Rattle.std.proofs.lemmas.List.{length-map}
use Rattle.std.proofs.lemmas.List.Elements.{All-filter, All-map, All-push, All-weaker}
use Rattle.std.proofs.lemmas.List.Kept.{AllPairs-filter}
use Rattle.std.proofs.lemmas.List.Quantifiers.{all_pairs_push}
use Rattle.std.proofs.lemmas.List.Sums.{count_by-le-length, length-filter}
use Rattle.std.specs.Prelude.{Bool, IsTrue, List, [], bytes_eq, cond, count_by, false, not, true, ℕ, ◌&&◌, ◌++◌, ◌+◌}
use Rattle.std.specs.Prelude.{◌<◌, ◌==◌, ◌||◌, ◌∷◌, ◌≡◌}

-- one stands last
pub after_coming : (L : Ledger) (e : EndpointView) → AreEndpoints L.next.endpoint L.endpoints → MayCome L e →
    AreEndpoints (e.number + 1) (L.endpoints ++ e ∷ [])
after_coming L e are may =
    let number = may.number in
    let place = may.place in
    record {
      rise = all_pairs_push (λ (d x : EndpointView). d.number < x.number) L.endpoints e are.rise
          (All-weaker (λ (d : EndpointView). d.number < L.next.endpoint) (λ (d : EndpointView). d.number < e.number)
          (λ d lt. omega (arith, lt, number)) L.endpoints are.below);
      below = All-push (λ (d : EndpointView). d.number < e.number + 1) L.endpoints e
          (All-weaker (λ (d : EndpointView). d.number < L.next.endpoint)
          (λ (d : EndpointView). d.number < e.number + 1) (λ d lt. omega (arith, lt, number)) L.endpoints are.below)
          (omega arith);
      differ = all_pairs_push (λ (d x : EndpointView). bytes_eq d.name x.name ≡ false) L.endpoints e are.differ
          may.named;
      each = All-push IsEndpoint L.endpoints e are.each may.fits;
      most = let more = length-append L.endpoints (e ∷ []) in omega (arith, more, place);
    }

-- one is gone
pub after_going : (next endpoint : ℕ) (endpoints : List EndpointView) → AreEndpoints next endpoints →
    AreEndpoints next (without_endpoint endpoint endpoints)
after_going next endpoint endpoints are =
    let keep : EndpointView → Bool = λ e. not (e.number == endpoint) in
    record {
      rise = AllPairs-filter (λ (d e : EndpointView). d.number < e.number) keep endpoints are.rise;
      below = All-filter keep (λ (e : EndpointView). e.number < next) endpoints are.below;
      differ = AllPairs-filter (λ (d e : EndpointView). bytes_eq d.name e.name ≡ false) keep endpoints are.differ;
      each = All-filter keep IsEndpoint endpoints are.each;
      most = let same = length-filter keep endpoints in let less = count_by-le-length keep endpoints in let most =
          are.most in omega (arith, same, less, most);
    }

-- a spooled copy's endpoint is there where an endpoint goes that has none
pub there-without : (number : ℕ) (endpoints : List EndpointView) (closed : List ClosedCopy) (made : List MadeCopy) →
    count_by (λ c. (c.endpoint == number) && not (is_closed closed c.number)) made ≡ 0 →
    OpenThere endpoints closed made → OpenThere (without_endpoint number endpoints) closed made
there-without number endpoints closed made none all =
    All-weaker (λ (c : MadeCopy). (((c.endpoint == number) && not (is_closed closed c.number)) ≡ false) × IsTrue
    (is_closed closed c.number || is_there endpoints c.endpoint))
    (λ (c : MadeCopy). IsTrue
    (is_closed closed c.number || is_there (without_endpoint number endpoints) c.endpoint))
    (λ c both. one c.endpoint (is_closed closed c.number) both.0 both.1) made
    (All-both (λ (c : MadeCopy). ((c.endpoint == number) && not (is_closed closed c.number)) ≡ false)
    (λ (c : MadeCopy). IsTrue (is_closed closed c.number || is_there endpoints c.endpoint)) made
    (none_counted {X = MadeCopy} (λ c. (c.endpoint == number) && not (is_closed closed c.number)) made none) all)
  where
    other : (n : ℕ) → ((n == number) && true) ≡ false → (e : EndpointView) → (e.number == n) ≡ true →
        not (e.number == number) ≡ true
    other n isnt e is = let same :
        e.number ≡ n = eqb-true _ _ is in
        subst (λ k. not (k == number) ≡ true) (sym same) (ap not (only (n == number) isnt))
      where
        only : (b : Bool) → (b && true) ≡ false → b ≡ false
        only true k = k
        only false k = k

    one : (n : ℕ) (shut : Bool) → ((n == number) && not shut) ≡ false → (shut || is_there endpoints n) ≡ true →
        (shut || is_there (without_endpoint number endpoints) n) ≡ true
    one n true isnt is = refl
    one n false isnt is =
        any_kept {X = EndpointView} (λ e. e.number == n) (λ e. not (e.number == number)) (other n isnt) endpoints is

-- one stands in the place of the one of its number
module _ (L : Ledger) (new : EndpointView) (may : MayBecome L new) where
  abbrev in_place : EndpointView → EndpointView
  in_place x = cond (x.number == new.number) new x

  in_place_number : (x : EndpointView) → (in_place x).number ≡ x.number
  in_place_number x = one (x.number == new.number) refl
    where
      one : (b : Bool) → (x.number == new.number) ≡ b → (cond b new x).number ≡ x.number
      one true is = sym (eqb-true _ _ is)
      one false is = refl

  in_place_name : (x : EndpointView) → ((x.number == new.number) ≡ true → x.name ≡ new.name) →
      (in_place x).name ≡ x.name
  in_place_name x same = one (x.number == new.number) refl
    where
      one : (b : Bool) → (x.number == new.number) ≡ b → (cond b new x).name ≡ x.name
      one true is = sym (same is)
      one false is = refl

  pub after_becoming : (next : ℕ) → AreEndpoints next L.endpoints → AreEndpoints next (replaced new L.endpoints)
  after_becoming next are =
      let most = are.most in
      record {
        rise = pairs_map (λ (d x : EndpointView). d.number < x.number) in_place
            (λ x. (in_place x).number ≡ x.number) (λ d x m n lt. omega (arith, m, n, lt)) L.endpoints
            (λ k d lt. in_place_number _) are.rise;
        below = All-map (λ (x : EndpointView). x.number < next) in_place L.endpoints
            (All-weaker (λ (x : EndpointView). x.number < next) (λ (x : EndpointView). (in_place x).number < next)
            (λ x lt. omega (arith, lt, in_place_number x)) L.endpoints are.below);
        differ = pairs_map (λ (d x : EndpointView). bytes_eq d.name x.name ≡ false) in_place
            (λ x. (in_place x).name ≡ x.name) (λ d x m n apart. rw (m, n) apart) L.endpoints
            (All-weaker (λ (x : EndpointView). (x.number == new.number) ≡ true → x.name ≡ new.name)
            (λ (x : EndpointView). (in_place x).name ≡ x.name) in_place_name L.endpoints may.named) are.differ;
        each = All-map IsEndpoint in_place L.endpoints
            (All-weaker IsEndpoint (λ (x : EndpointView). IsEndpoint (in_place x))
            (λ x is. one x is (x.number == new.number)) L.endpoints are.each);
        most = let same = length-map L.endpoints in_place in omega (arith, same, most);
      }
    where
      one : (x : EndpointView) → IsEndpoint x → (b : Bool) → IsEndpoint (cond b new x)
      one x is true = may.fits
      one x is false = is

  pub is_there_in_place : (n : ℕ) → is_there L.endpoints n ≡ true → is_there (replaced new L.endpoints) n ≡ true
  is_there_in_place n is =
      any_mapped {X = EndpointView} (λ x. x.number == n) in_place
      (λ x here. subst (λ k. (k == n) ≡ true) (sym (in_place_number x)) here) L.endpoints is

  in_place_kind : (x : EndpointView) → ((x.number == new.number) ≡ true → x.kind ≡ new.kind) →
      (in_place x).kind ≡ x.kind
  in_place_kind x same = one (x.number == new.number) refl
    where
      one : (b : Bool) → (x.number == new.number) ≡ b → (cond b new x).kind ≡ x.kind
      one true is = sym (same is)
      one false is = refl

  pub has_endpoint_in_place : (f : FlowView) → has_endpoint L.endpoints f ≡ true →
      has_endpoint (replaced new L.endpoints) f ≡ true
  has_endpoint_in_place f is =
      list_any-map suits in_place L.endpoints
      ∙ any_where suits (λ x. suits (in_place x)) L.endpoints
      (All-weaker (λ (x : EndpointView). (x.number == new.number) ≡ true → x.kind ≡ new.kind)
      (λ (x : EndpointView). suits x ≡ true → suits (in_place x) ≡ true)
      (λ x same here. rw (in_place_number x, in_place_kind x same) here) L.endpoints may.kind) is
    where
      suits : EndpointView → Bool
      suits x = (x.number == f.endpoint) && suits_flow x.kind f.selector

  pub there_in_place : (closed : List ClosedCopy) (made : List MadeCopy) → OpenThere L.endpoints closed made →
      OpenThere (replaced new L.endpoints) closed made
  there_in_place closed made all = there-weaker L.endpoints (replaced new L.endpoints) is_there_in_place closed made all

-- flows among other endpoints
pub flows_among : (next : ℕ) (endpoints after : List EndpointView) (flows : List FlowView) →
    ((f : FlowView) → has_endpoint endpoints f ≡ true → has_endpoint after f ≡ true) →
    AreFlows next endpoints flows → AreFlows next after flows
flows_among next endpoints after flows still are = record {
  rise = are.rise;
  below = are.below;
  there = All-weaker (λ (f : FlowView). IsTrue (has_endpoint endpoints f))
      (λ (f : FlowView). IsTrue (has_endpoint after f)) still flows are.there;
  callers = are.callers;
}

-- flows of other endpoints stay where one goes
pub flows_without : (next endpoint : ℕ) (endpoints : List EndpointView) (flows : List FlowView) →
    flow_count flows endpoint ≡ 0 → AreFlows next endpoints flows →
    AreFlows next (without_endpoint endpoint endpoints) flows
flows_without next endpoint endpoints flows none are = record {
  rise = are.rise;
  below = are.below;
  there =
      All-weaker (λ (f : FlowView). ((f.endpoint == endpoint) ≡ false) × IsTrue (has_endpoint endpoints f))
      (λ (f : FlowView). IsTrue (has_endpoint (without_endpoint endpoint endpoints) f))
      (λ f both. any_kept {X = EndpointView} (λ e. (e.number == f.endpoint) && suits_flow e.kind f.selector)
      (λ e. not (e.number == endpoint))
      (λ e is. let same : e.number ≡ f.endpoint = eqb-true _ _ (and_left (e.number == f.endpoint) _ is) in
      subst (λ k. not (k == endpoint) ≡ true) (sym same) (ap not both.0)) endpoints both.1)
      flows
      (All-both (λ (f : FlowView). (f.endpoint == endpoint) ≡ false)
      (λ (f : FlowView). IsTrue (has_endpoint endpoints f)) flows
      (none_counted {X = FlowView} (λ f. f.endpoint == endpoint) flows none) are.there);
  callers = are.callers;
}
