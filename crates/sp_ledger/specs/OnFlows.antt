-- The steps of the events on flows.
use Rattle.sp_access.specs.Activity.{may_take}
use Rattle.sp_access.specs.Flows.{flow_count, flow_of}
use Rattle.sp_access.specs.Flow.{FlowView}
use Rattle.sp_base.specs.declared.refusal.Kind.TheVariants as kinds
use Rattle.sp_base.specs.declared.refusal.Refusal.TheVariants.{BadSubscription, BindLimit, InUse, NotHeld}
use Rattle.sp_base.specs.declared.refusal.Refusal.TheVariants.{UnknownEndpoint, UnknownFlow}
use Rattle.sp_config.specs.Attributes.{AttributesView}
use Rattle.sp_config.specs.declared.kind.EndpointKind.{EndpointKind}
use Rattle.sp_config.specs.declared.kind.EndpointKind.TheVariants.{Queue, TopicEndpoint}
use Rattle.sp_copies.specs.Counts.{spooled_count}
use Rattle.sp_copies.specs.History.{all_held, attempts_of, held_by, held_copies, held_copy, holder_in, open_copies}
use Rattle.sp_copies.specs.History.{waiting_copies}
use Rattle.sp_copies.specs.declared.closed.Cause.TheVariants.{TopicChanged}
use Rattle.sp_copies.specs.declared.closed.Closing.TheVariants as closings
use Rattle.sp_copies.specs.declared.closed.Closing.TheVariants.{Discarded}
use Rattle.sp_copies.specs.declared.made.MadeCopy.{MadeCopy}
use Rattle.sp_endpoint.specs.Endpoint.{EndpointView}
use Rattle.sp_endpoint.specs.Endpoints.{named, numbered}
use Rattle.sp_event.specs.declared.answer.Delivery.{Delivery}
use Rattle.sp_event.specs.declared.answer.Reply.TheVariants as replies
use Rattle.sp_event.specs.declared.request.Outcome.{Outcome}
use Rattle.sp_event.specs.declared.request.Outcome.TheVariants.{Accepted, Failed, Rejected}
use Rattle.sp_ledger.specs.Changes.{Change, becomes, binds, closes, holds, unbinds, unbinds_all}
use Rattle.sp_ledger.specs.Endings.{all_told, ending, fate_by, one_by_one, returning}
use Rattle.sp_ledger.specs.Ledger.{Ledger, Published, message_of}
use Rattle.sp_ledger.specs.Step.{Check, Step, always, does, is_spent, on_found, rule, unless}
use Rattle.sp_settle.specs.declared.questions.Reason.TheVariants as reasons
use Rattle.sp_topic.specs.Subscription.{is_exception}
use Rattle.std.specs.Prelude.{Bool, List, None, Option, Some, [], bytes_eq, false, filter, filter_map, if◌then◌else◌, is_none}
use Rattle.std.specs.Prelude.{is_some, length, map, min, nat_le, not, option_map, take, true, unwrap_or, ℕ, ◌&&◌, ◌++◌, ◌+◌}
use Rattle.std.specs.Prelude.{◌-◌, ◌==◌, ◌||◌, ◌∷◌}

-- a topic that an endpoint is bound with is no exception
abbrev pub topic_check : Option (List ℕ) → Check
topic_check topic = rule (unwrap_or (option_map is_exception topic) false) (BadSubscription 0)

-- a queue is bound without a topic, a topic endpoint with one
abbrev pub fits_kind : EndpointKind → Option (List ℕ) → Bool
fits_kind Queue topic = is_none topic
fits_kind TopicEndpoint topic = is_some topic

-- whether a text is another than there is
abbrev pub is_another : Option (List ℕ) → Option (List ℕ) → Bool
is_another None text = is_some text
is_another (Some own) None = true
is_another (Some own) (Some text) = not (bytes_eq own text)

-- the selector of a bind that is the endpoint's own: a topic endpoint asks it of what arrives
abbrev pub own_selector : EndpointKind → Option (List ℕ) → Option (List ℕ)
own_selector Queue selector = None
own_selector TopicEndpoint selector = selector

-- and the one that is the flow's: at a queue it is asked of what the flow may take
abbrev pub flow_selector : EndpointKind → Option (List ℕ) → Option (List ℕ)
flow_selector Queue selector = selector
flow_selector TopicEndpoint selector = None

-- the endpoint with the selector and the topic that it is bound with
abbrev pub rebound : EndpointView → Option (List ℕ) → Option (List ℕ) → EndpointView
rebound e selector topic = record e { topic = topic; selector = own_selector e.kind selector }

-- whether it has another topic or another selector then
abbrev pub is_rebound : EndpointView → EndpointView → Bool
is_rebound e bound = is_another e.topic bound.topic || is_another e.selector bound.selector

-- the copies that another topic or selector discards, in order of number: all that are spooled there
abbrev pub outdated : Ledger → EndpointView → EndpointView → List MadeCopy
outdated L e bound = if is_rebound e bound then open_copies L.copies e.number else []

-- another topic or selector becomes the endpoint's
abbrev pub rebinding : EndpointView → EndpointView → List Change
rebinding e bound = if is_rebound e bound then becomes bound ∷ [] else []

-- what they change: what came by the old ones is discarded, and the new ones are the endpoint's
abbrev pub rebind_changes : Ledger → EndpointView → EndpointView → List Change
rebind_changes L e bound =
    map (λ c. closes c.number (Discarded TopicChanged)) (outdated L e bound) ++ rebinding e bound

-- a flow of a caller that is bound to an endpoint with a selector
abbrev pub new_flow : ℕ → List ℕ → EndpointView → Option (List ℕ) → FlowView
new_flow number caller e selector = record {
  number = number;
  endpoint = e.number;
  caller = caller;
  selector = flow_selector e.kind selector;
}

-- another topic or selector is taken over, and a flow is bound under the next number
abbrev pub bind : List ℕ → List ℕ → Option (List ℕ) → Option (List ℕ) → Ledger → Step
bind caller name selector topic L =
    unless (topic_check topic)
    (on_found (named name L.endpoints) (UnknownEndpoint name) (λ e.
    let bound = rebound e selector topic in
    let flows = flow_count L.flows e.number in
    does (rule (not (fits_kind e.kind topic)) (BadSubscription 0)
    ∷ rule (is_rebound e bound && not (flows == 0)) (InUse flows (spooled_count L.copies (Some e.number)))
    ∷ rule (nat_le e.attributes.max_bind_count flows) (BindLimit flows e.attributes.max_bind_count)
    ∷ is_spent L.next.flow kinds.Flow
    ∷ [])
    (rebind_changes L e bound ++ binds (new_flow L.next.flow caller e selector) ∷ [])
    (replies.Bind e.name L.next.flow (length (outdated L e bound)))))

-- what a flow holds is given back, in order of number
abbrev pub given_back : Ledger → ℕ → List Change
given_back L flow = one_by_one returning (held_copies L.copies flow) L

-- a flow of the caller gives back what it holds, and goes
abbrev pub unbind : List ℕ → ℕ → Ledger → Step
unbind caller flow L =
    on_found (flow_of L.flows caller flow) (UnknownFlow flow) (λ f.
    let closed = all_told (given_back L flow) L in
    does []
    (given_back L flow ++ unbinds flow ∷ [])
    (replies.Unbind flow closed (length (held_copies L.copies flow) - length closed)))

-- what all flows hold is given back, in order of number, and they go
abbrev pub all_given_back : Ledger → List Change
all_given_back L = one_by_one returning (all_held L.copies) L ++ unbinds_all ∷ []

-- every flow gives back what it holds, and goes; where none is bound, nothing changes. Nothing refuses it
abbrev pub restart : Ledger → Step
restart L = always (if length L.flows == 0 then [] else all_given_back L) replies.Restart

-- whether a flow may take a copy of an endpoint with these attributes, by the copy's message and its partition's holder
abbrev pub is_taken : List FlowView → ℕ → AttributesView → ℕ → Option ℕ → Option Published → Bool
is_taken flows flow a partition holder None = false
is_taken flows flow a partition holder (Some m) = may_take flows flow a partition holder m.message

-- the same of a copy as it is in the ledger
abbrev pub can_take : Ledger → EndpointView → ℕ → MadeCopy → Bool
can_take L e flow c =
    is_taken L.flows flow e.attributes c.partition (holder_in L.copies e.number c.partition)
    (message_of L.messages c.message)

-- what a flow of an endpoint can reach: the spooled copies that no flow holds, whose deadline hasn't come, and which it
-- may take, in order of number
abbrev pub reach : Ledger → EndpointView → ℕ → List MadeCopy
reach L e flow = filter (can_take L e flow) (waiting_copies L.copies e.number L.now)

-- the first of them: as many as are asked for, and as the window leaves
abbrev pub pulled : Ledger → EndpointView → ℕ → ℕ → List MadeCopy
pulled L e flow count =
    take (min count (e.attributes.max_delivered_unacked_msgs_per_flow - length (held_by L.copies flow)))
    (reach L e flow)

-- a copy with its message, handed out once more
abbrev pub delivered : Ledger → MadeCopy → Published → Delivery
delivered L c m = record {
  attempt = attempts_of L.copies.attempts c.number + 1;
  copy = c.number;
  message = c.message;
  dest = m.message.dest;
  payload = m.message.payload;
  properties = m.message.properties;
}

-- the same of each of some copies, in their order
abbrev pub deliveries : Ledger → List MadeCopy → List Delivery
deliveries L copies = filter_map (λ c. option_map (delivered L c) (message_of L.messages c.message)) copies

-- a flow of the caller is handed out copies of its endpoint, and holds them
abbrev pub pull : List ℕ → ℕ → ℕ → Ledger → Step
pull caller flow count L =
    on_found (flow_of L.flows caller flow) (UnknownFlow flow) (λ f.
    on_found (numbered f.endpoint L.endpoints) (UnknownFlow flow) (λ e.
    does []
    (map (λ c. holds c.number flow) (pulled L e flow count))
    (replies.Pull flow (deliveries L (pulled L e flow count)))))

-- what an outcome does to a held copy: it is closed for good, given back, or ends
abbrev pub settling : Outcome → MadeCopy → Ledger → Change
settling Accepted c L = closes c.number closings.Accepted
settling Failed c L = returning c L
settling Rejected c L = ending reasons.Rejected c L

-- a flow of the caller settles a copy that it holds
abbrev pub settle : List ℕ → ℕ → ℕ → Outcome → Ledger → Step
settle caller flow copy outcome L =
    on_found (flow_of L.flows caller flow) (UnknownFlow flow) (λ f.
    on_found (held_copy L.copies flow copy) (NotHeld copy) (λ c.
    does [] (settling outcome c L ∷ []) (replies.Settle copy (fate_by (settling outcome c L) L))))
