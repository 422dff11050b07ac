-- The flows that are bound, in the order in which they were.
use Rattle.std.specs.Prelude.{◌==◌, ◌&&◌, ℕ, Bool, not, List, Option, bytes_eq, count_by, filter, find}
use Rattle.std.specs.List.{list_any}
use Rattle.sp_access.specs.Flow.{FlowView}

-- the bound flows, the room that is reserved for more, and the number of the next
pub record FlowsView : Type 0 where
  pub flows : List FlowView
  pub room : ℕ
  pub next : ℕ

-- the flow of a number, where it is bound and the caller's
abbrev pub flow_of : List FlowView → List ℕ → ℕ → Option FlowView
flow_of flows caller flow = find (λ f. (f.number == flow) && bytes_eq f.caller caller) flows

-- the flow of a number, where it is bound
abbrev pub flow_numbered : List FlowView → ℕ → Option FlowView
flow_numbered flows flow = find (λ f. f.number == flow) flows

-- whether the flow of a number is bound
abbrev pub is_bound : List FlowView → ℕ → Bool
is_bound flows flow = list_any (λ f. f.number == flow) flows

-- the flows without the one of a number
abbrev pub without_flow : ℕ → List FlowView → List FlowView
without_flow flow flows = filter (λ f. not (f.number == flow)) flows

-- how many flows are bound to an endpoint
abbrev pub flow_count : List FlowView → ℕ → ℕ
flow_count flows endpoint = count_by (λ f. f.endpoint == endpoint) flows
