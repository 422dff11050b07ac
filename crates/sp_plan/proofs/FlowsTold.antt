-- What is told of the flows of an endpoint.
use Rattle.sp_access.specs.Flow.{FlowView}
use Rattle.sp_endpoint.specs.Endpoint.{EndpointView}
use Rattle.sp_event.specs.declared.answer.BoundFlow.{BoundFlow}
use Rattle.sp_ledger.specs.Answer.{bound_flow}
use Rattle.sp_ledger.specs.Ledger.{Ledger}
use Rattle.std.proofs.Common.{ap, get_or, refl, take, ◌∙◌}
use Rattle.std.proofs.lemmas.List.{take_more}
use Rattle.std.proofs.lemmas.List.Elements.{filter_map-append}
use Rattle.std.specs.List.{cons_option, filter_map}
use Rattle.std.specs.Prelude.{Bool, List, None, Option, Some, [], cond, false, filter, if◌then◌else◌, length, map, true, ℕ}
use Rattle.std.specs.Prelude.{◌++◌, ◌+◌, ◌<◌, ◌==◌, ◌∷◌, ◌≡◌}

-- of a flow, where it is one of the endpoint's
abbrev pub told_of : Ledger → EndpointView → FlowView → Option BoundFlow
told_of L e f = if f.endpoint == e.number then Some (bound_flow L e f) else None

-- of some flows
abbrev pub told_among : Ledger → EndpointView → List FlowView → List BoundFlow
told_among L e flows = filter_map (told_of L e) flows

-- of one flow more
pub told_more : (L : Ledger) (e : EndpointView) (fs : List FlowView) (i : ℕ) (d : FlowView) → i < length fs →
    told_among L e (take (i + 1) fs) ≡ told_among L e (take i fs) ++ cons_option (told_of L e (get_or fs i d)) []
told_more L e fs i d lt =
    ap (told_among L e) (take_more fs i d lt)
    ∙ filter_map-append {X = FlowView} {Y = BoundFlow} (told_of L e) (take i fs) (get_or fs i d ∷ [])

-- of all
chosen : {X Y : Type 0} (p : X → Bool) (g : X → Y) (xs : List X) →
    filter_map (λ x. if p x then Some (g x) else None) xs ≡ map g (filter p xs)
chosen p g [] = refl
chosen {X} {Y} p g (x ∷ xs) = one (p x) (chosen p g xs)
  where
    one : (b : Bool) → filter_map (λ y. if p y then Some (g y) else None) xs ≡ map g (filter p xs) →
        cons_option (cond b (Some (g x)) None) (filter_map (λ y. if p y then Some (g y) else None) xs)
        ≡ map g (cond b (x ∷ filter p xs) (filter p xs))
    one true rest = ap (λ (ys : List Y). g x ∷ ys) rest
    one false rest = rest

pub told_all : (L : Ledger) (e : EndpointView) (fs : List FlowView) →
    told_among L e fs ≡ map (bound_flow L e) (filter (λ f. f.endpoint == e.number) fs)
told_all L e fs = chosen {X = FlowView} {Y = BoundFlow} (λ f. f.endpoint == e.number) (bound_flow L e) fs
