-- Which flow of an endpoint is handed out a copy.
use Rattle.std.specs.List.{slice_get}
use Rattle.std.specs.Prelude.{◌==◌, ◌&&◌, ◌%◌, ℕ, Bool, true, false, if◌then◌else◌, length}
use Rattle.std.specs.Prelude.{List, [], ◌∷◌, Option, Some, None, filter, option_map}
use Rattle.sp_access.specs.Flow.{FlowView}
use Rattle.sp_access.specs.Flows.{flow_numbered}
use Rattle.sp_config.specs.Attributes.{AttributesView, is_exclusive, is_partitioned}
use Rattle.sp_message.specs.declared.message.Message.{Message}
use Rattle.sp_selector.specs.Takes.{passes}

-- the flows that are bound to an endpoint, in the order in which they were
abbrev pub flows_of : List FlowView → ℕ → List FlowView
flows_of flows endpoint = filter (λ f. f.endpoint == endpoint) flows

-- whether a flow is the first of these
abbrev pub is_first : List FlowView → ℕ → Bool
is_first [] flow = false
is_first (f ∷ fs) flow = f.number == flow

-- whether a flow, one of these of an endpoint, is handed out copies: on an exclusive endpoint the first alone is
abbrev pub is_active : AttributesView → List FlowView → ℕ → Bool
is_active a flows flow = if is_exclusive a.access_type then is_first flows flow else true

-- the owner of a partition, of these flows of an endpoint: its holder, where there is one; otherwise of k flows the one at
-- the place that the partition's number is modulo k
abbrev pub owner : List FlowView → ℕ → Option ℕ → Option ℕ
owner flows partition (Some holder) = Some holder
owner flows partition None = option_map (λ f. f.number) (slice_get flows (partition % length flows))

-- whether it is this flow
abbrev pub is_owner : Option ℕ → ℕ → Bool
is_owner None flow = false
is_owner (Some number) flow = number == flow

-- whether it is a flow's turn to take a copy of a partition with this holder, if any: it is active, and on a partitioned
-- queue it owns the partition
abbrev pub has_turn : AttributesView → List FlowView → ℕ → ℕ → Option ℕ → Bool
has_turn a flows flow partition holder =
    is_active a flows flow
    && (if is_partitioned a then is_owner (owner flows partition holder) flow else true)

-- whether a flow may take a copy of a message: the message passes its selector, and it is its turn
abbrev pub suits : List FlowView → AttributesView → ℕ → Option ℕ → Message → Option FlowView → Bool
suits flows a partition holder m None = false
suits flows a partition holder m (Some f) =
    passes f.selector m.properties && has_turn a (flows_of flows f.endpoint) f.number partition holder

-- the same by the flow's number; one that isn't bound may take nothing
abbrev pub may_take : List FlowView → ℕ → AttributesView → ℕ → Option ℕ → Message → Bool
may_take flows flow a partition holder m = suits flows a partition holder m (flow_numbered flows flow)
