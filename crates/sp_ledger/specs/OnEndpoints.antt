-- The steps of the events on endpoints.
use Rattle.sp_access.specs.Flows.{flow_count}
use Rattle.sp_base.specs.declared.refusal.Kind.TheVariants as kinds
use Rattle.sp_base.specs.declared.refusal.Refusal.TheVariants.{BadAttribute, EndpointExists, EndpointLimit, InUse}
use Rattle.sp_base.specs.declared.refusal.Refusal.TheVariants.{SubscriptionExists, SubscriptionLimit, UnknownEndpoint}
use Rattle.sp_base.specs.declared.refusal.Refusal.TheVariants.{UnknownSubscription}
use Rattle.sp_config.specs.Attributes.{AttributesView, is_exclusive}
use Rattle.sp_config.specs.Settings.{bad_attribute, with_settings}
use Rattle.sp_config.specs.declared.kind.EndpointKind.{EndpointKind}
use Rattle.sp_config.specs.declared.setting.Setting.{Setting}
use Rattle.sp_copies.specs.Counts.{spooled_count}
use Rattle.sp_endpoint.specs.Endpoint.{EndpointView, new_endpoint}
use Rattle.sp_endpoint.specs.Endpoints.{named, queue_named}
use Rattle.sp_event.specs.declared.answer.Reply.TheVariants as replies
use Rattle.sp_ledger.specs.Changes.{becomes, comes, goes}
use Rattle.sp_ledger.specs.Ledger.{Ledger}
use Rattle.sp_ledger.specs.Limits.{most_endpoints, most_subscriptions}
use Rattle.sp_ledger.specs.Step.{Check, Step, does, is_spent, on_found, rule}
use Rattle.sp_topic.specs.Subscriptions.{has_text}
use Rattle.std.specs.Prelude.{Bool, List, Some, [], bytes_eq, filter, if◌then◌else◌, is_some, length}
use Rattle.std.specs.Prelude.{nat_le, not, true, unwrap_or, ℕ, ◌&&◌, ◌++◌, ◌==◌, ◌||◌, ◌∷◌}

-- an endpoint of the kind may have each value; the first that it may not have is told
abbrev pub attribute_check : EndpointKind → List Setting → Check
attribute_check kind settings =
    let bad = bad_attribute kind settings in
    rule (is_some bad) (BadAttribute (unwrap_or bad []))

-- where it is asked for, no flow is bound to the endpoint, and no copy spooled there
abbrev pub use_check : Ledger → EndpointView → Bool → Check
use_check L e asked =
    let flows = flow_count L.flows e.number in
    let copies = spooled_count L.copies (Some e.number) in
    rule (asked && not ((flows == 0) && (copies == 0))) (InUse flows copies)

-- an endpoint comes, under the next number
abbrev pub provision : List ℕ → List ℕ → EndpointKind → List Setting → Ledger → Step
provision caller name kind settings L =
    does (attribute_check kind settings
    ∷ rule (is_some (named name L.endpoints)) (EndpointExists name)
    ∷ rule (nat_le most_endpoints (length L.endpoints)) (EndpointLimit most_endpoints)
    ∷ is_spent L.next.endpoint kinds.Endpoint
    ∷ [])
    (comes (new_endpoint L.next.endpoint caller name kind settings) ∷ [])
    (replies.Provision name L.next.endpoint)

-- an endpoint goes that nothing uses
abbrev pub deprovision : List ℕ → Ledger → Step
deprovision name L =
    on_found (named name L.endpoints) (UnknownEndpoint name) (λ e.
    does (use_check L e true ∷ [])
    (goes e.number ∷ [])
    (replies.Deprovision e.name))

-- whether one is true and the other isn't
abbrev pub differ : Bool → Bool → Bool
differ a b = if a then not b else b

-- copies would be handed out to other flows: the access type or the partitions are others
abbrev pub shares_otherwise : AttributesView → AttributesView → Bool
shares_otherwise a b =
    differ (is_exclusive a.access_type) (is_exclusive b.access_type) || not (a.partition_count == b.partition_count)

-- an endpoint's attributes get these values; nothing may use it where they share it otherwise
abbrev pub change_step : List ℕ → List Setting → Ledger → Step
change_step name settings L =
    on_found (named name L.endpoints) (UnknownEndpoint name) (λ e.
    let attributes = with_settings settings e.attributes in
    does (attribute_check e.kind settings ∷ use_check L e (shares_otherwise e.attributes attributes) ∷ [])
    (becomes (record e { attributes = attributes }) ∷ [])
    (replies.Change e.name))

-- a queue gets a text last among its subscriptions
abbrev pub subscribe : List ℕ → List ℕ → Ledger → Step
subscribe name text L =
    on_found (queue_named name L.endpoints) (UnknownEndpoint name) (λ queue.
    does (rule (has_text queue.subscriptions text) SubscriptionExists
    ∷ rule (nat_le most_subscriptions (length queue.subscriptions)) (SubscriptionLimit most_subscriptions)
    ∷ [])
    (becomes (record queue { subscriptions = queue.subscriptions ++ text ∷ [] }) ∷ [])
    (replies.Subscribe queue.name))

-- a queue loses a text, and keeps the others in their order
abbrev pub unsubscribe : List ℕ → List ℕ → Ledger → Step
unsubscribe name text L =
    on_found (queue_named name L.endpoints) (UnknownEndpoint name) (λ queue.
    does (rule (not (has_text queue.subscriptions text)) UnknownSubscription ∷ [])
    (becomes (record queue { subscriptions = filter (λ s. not (bytes_eq s text)) queue.subscriptions }) ∷ [])
    (replies.Unsubscribe queue.name))
