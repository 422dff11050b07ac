-- How a request is written: its canonical JSON value, with the keys in the order of their bytes.
use Rattle.std.specs.Prelude.{◌≡◌, ◌≤◌, ◌^◌, ◌&&◌, ℕ, List, [], ◌∷◌, Bool, true, false, Option, Some, None, Ok, ⊤}
use Rattle.std.specs.Prelude.{IfSome, length, codes, slice_get}
use Rattle.std.specs.List.{list_all}
use Rattle.std.specs.Option.{option_map, unwrap_or}
use Rattle.serde_json.specs.Data.{Data, boolean, string, object, Members, member, no_members, put}
use Rattle.sp_base.specs.Name.{is_name}
use Rattle.sp_base.specs.Topic.{IsTopic}
use Rattle.sp_base.specs.Words.{permission_word, permissions}
use Rattle.sp_config.specs.declared.attr.Attr.{Attr}
use Rattle.sp_config.specs.declared.attr.Attr.TheVariants as attr
use Rattle.sp_config.specs.declared.kind.EndpointKind.{EndpointKind}
use Rattle.sp_config.specs.declared.kind.EndpointKind.TheVariants as kinds
use Rattle.sp_config.specs.declared.setting.Setting.{Setting}
use Rattle.sp_config.specs.declared.value.AttrValue.{AttrValue}
use Rattle.sp_config.specs.declared.value.AttrValue.TheVariants.{Whole, Flag, Word, Text}
use Rattle.sp_config.specs.Choices.{access_type_word, access_types, behavior_word, behaviors, endpoint_kind_word}
use Rattle.sp_config.specs.Names.{name_of}
use Rattle.sp_config.specs.Settings.{is_allowed, rise_above}
use Rattle.sp_message.specs.declared.message.Dest.{Dest}
use Rattle.sp_message.specs.declared.message.Dest.TheVariants.{Topic, Queue}
use Rattle.sp_event.specs.declared.request.Ask.{Ask}
use Rattle.sp_event.specs.declared.request.Ask.TheVariants.{Do, Look}
use Rattle.sp_event.specs.declared.request.Event.{Event}
use Rattle.sp_event.specs.declared.request.Event.TheVariants as events
use Rattle.sp_event.specs.declared.request.Query.{Query}
use Rattle.sp_event.specs.declared.request.Query.TheVariants as queries
use Rattle.sp_topic.specs.Subscription.{IsSubscription, is_exception}
use Rattle.sp_json.specs.Deliveries.{with_destination}
use Rattle.sp_json.specs.Members.{whole}
use Rattle.sp_json.specs.Payloads.{AreBytes, with_payload}
use Rattle.sp_json.specs.Properties.{properties_members}
use Rattle.sp_message.specs.Property.{are_properties}
use Rattle.sp_message.specs.declared.property.Property.{Property}
use Rattle.sp_selector.specs.Takes.{selector_fault}
use Rattle.sp_flowline.specs.FlowEvents.{outcome_word}
use Rattle.sp_flowline.specs.Request.{reading_of}

-- the word at a place among those that an attribute may be
abbrev pub word_at : Attr → ℕ → List ℕ
word_at attr.AccessType place = unwrap_or (option_map access_type_word (slice_get access_types place)) []
word_at attr.Permission place = unwrap_or (option_map permission_word (slice_get permissions place)) []
word_at attr.RejectMsgToSenderOnDiscardBehavior place =
    unwrap_or (option_map behavior_word (slice_get behaviors place)) []
word_at attribute place = []

-- a value of an attribute
abbrev pub value_data : Attr → AttrValue → Data
value_data attribute (Whole n) = whole n
value_data attribute (Flag b) = boolean b
value_data attribute (Word place) = string (word_at attribute place)
value_data attribute (Text None) = string []
value_data attribute (Text (Some name)) = string name

-- settings under the names of their attributes
abbrev pub settings_members : List Setting → Members
settings_members [] = no_members
settings_members (s ∷ rest) = member (name_of s.attr) (value_data s.attr s.value) (settings_members rest)

-- fields with the settings
abbrev pub with_attributes : List Setting → Members → Members
with_attributes settings ms = put (codes "attributes") (object (settings_members settings)) ms

-- the fields of an operation of this word
abbrev pub of_op : List ℕ → Members
of_op word = member (codes "op") (string word) no_members

-- fields with an endpoint
abbrev pub with_endpoint : List ℕ → Members → Members
with_endpoint endpoint ms = put (codes "endpoint") (string endpoint) ms

-- fields with the topic of a bind, where it has one
abbrev pub with_topic : Option (List ℕ) → Members → Members
with_topic None ms = ms
with_topic (Some topic) ms = put (codes "topic") (string topic) ms

-- fields with the selector of a bind, where it has one
abbrev pub with_selector : Option (List ℕ) → Members → Members
with_selector None ms = ms
with_selector (Some text) ms = put (codes "selector") (string text) ms

-- fields with properties
abbrev pub with_properties : List Property → Members → Members
with_properties properties ms = put (codes "properties") (object (properties_members properties)) ms

-- fields with a copy, where one is named
abbrev pub with_copy : Option ℕ → Members → Members
with_copy None ms = ms
with_copy (Some copy) ms = put (codes "copy") (whole copy) ms

-- an event as it is written
abbrev pub event_data : Event → Data
event_data (events.Provision endpoint kind settings) =
    object (put (codes "kind") (string (endpoint_kind_word kind))
    (with_attributes settings (with_endpoint endpoint (of_op (codes "provision")))))
event_data (events.Deprovision endpoint) = object (with_endpoint endpoint (of_op (codes "deprovision")))
event_data (events.Change endpoint settings) =
    object (with_attributes settings (with_endpoint endpoint (of_op (codes "change"))))
event_data (events.Subscribe endpoint subscription) =
    object (put (codes "subscription") (string subscription) (with_endpoint endpoint (of_op (codes "subscribe"))))
event_data (events.Unsubscribe endpoint subscription) =
    object (put (codes "subscription") (string subscription) (with_endpoint endpoint (of_op (codes "unsubscribe"))))
event_data (events.Publish m) =
    object (with_payload m.payload (with_destination m.dest
    (put (codes "ttl") (whole m.ttl) (put (codes "dmq") (boolean m.eligible)
    (with_properties m.properties (of_op (codes "publish")))))))
event_data (events.Bind endpoint selector topic) =
    object (with_topic topic (with_selector selector (with_endpoint endpoint (of_op (codes "bind")))))
event_data (events.Unbind flow) = object (put (codes "flow") (whole flow) (of_op (codes "unbind")))
event_data (events.Pull flow count) =
    object (put (codes "count") (whole count) (put (codes "flow") (whole flow) (of_op (codes "pull"))))
event_data (events.Settle flow copy outcome) =
    object (put (codes "outcome") (string (outcome_word outcome))
    (put (codes "copy") (whole copy) (put (codes "flow") (whole flow) (of_op (codes "settle")))))
event_data events.Tick = object (of_op (codes "tick"))
event_data (events.DeleteCopies endpoint copy) =
    object (with_copy copy (with_endpoint endpoint (of_op (codes "delete"))))
-- a restart is no operation: it has no op, and can't be written
event_data events.Restart = object no_members

-- a query as it is written
abbrev pub query_data : Query → Data
query_data (queries.Tally None) = object (of_op (codes "tally"))
query_data (queries.Tally (Some endpoint)) = object (with_endpoint endpoint (of_op (codes "tally")))
query_data (queries.Copy copy) = object (put (codes "copy") (whole copy) (of_op (codes "copy")))
query_data (queries.Flows endpoint) = object (with_endpoint endpoint (of_op (codes "flows")))

-- a request as it is written
abbrev pub request_data : Ask → Data
request_data (Do event) = event_data event
request_data (Look query) = query_data query

-- the name in a value is one, if there is any
abbrev pub is_named : AttrValue → Bool
is_named (Text (Some name)) = is_name name
is_named value = true

-- an endpoint of the kind may have each setting, and each attribute stands once, in the order of names
abbrev pub MayHave : EndpointKind → List Setting → Type 0
MayHave kind settings =
    (rise_above 0 settings ≡ true)
    × (list_all (λ s. is_allowed kind s.attr s.value && is_named s.value) settings ≡ true)

-- a destination that is one
abbrev pub IsSendable : Dest → Type 0
IsSendable (Topic topic) = IsTopic topic
IsSendable (Queue name) = is_name name ≡ true

-- what events and queries always keep, and what lines can say: an endpoint is given what its kind may have, and the
-- topic of a bind is no exception
abbrev pub EventCanBeWritten : Event → Type 0
EventCanBeWritten (events.Provision endpoint kind settings) =
    (is_name endpoint ≡ true) × MayHave kind settings
EventCanBeWritten (events.Deprovision endpoint) = is_name endpoint ≡ true
EventCanBeWritten (events.Change endpoint settings) =
    (is_name endpoint ≡ true) × MayHave kinds.Queue settings
EventCanBeWritten (events.Subscribe endpoint subscription) = (is_name endpoint ≡ true) × IsSubscription subscription
EventCanBeWritten (events.Unsubscribe endpoint subscription) = (is_name endpoint ≡ true) × IsSubscription subscription
EventCanBeWritten (events.Publish m) =
    IsSendable m.dest × (length m.payload ≤ 8388608) × AreBytes m.payload × (m.ttl ≤ 4294967295000)
    × (are_properties m.properties ≡ true)
EventCanBeWritten (events.Bind endpoint selector topic) =
    (is_name endpoint ≡ true) × IfSome selector (λ text. selector_fault text ≡ None)
    × IfSome topic (λ text. IsSubscription text × (is_exception text ≡ false))
EventCanBeWritten (events.Unbind flow) = flow ≤ 2 ^ 62
EventCanBeWritten (events.Pull flow count) = (flow ≤ 2 ^ 62) × (1 ≤ count) × (count ≤ 64)
EventCanBeWritten (events.Settle flow copy outcome) = (flow ≤ 2 ^ 62) × (copy ≤ 2 ^ 62)
EventCanBeWritten events.Tick = ⊤
EventCanBeWritten (events.DeleteCopies endpoint copy) =
    (is_name endpoint ≡ true) × IfSome copy (λ copy. copy ≤ 2 ^ 62)
EventCanBeWritten events.Restart = ⊥

abbrev pub CanBeWritten : Ask → Type 0
CanBeWritten (Do event) = EventCanBeWritten event
CanBeWritten (Look (queries.Tally endpoint)) = IfSome endpoint (λ name. is_name name ≡ true)
CanBeWritten (Look (queries.Copy copy)) = copy ≤ 2 ^ 62
CanBeWritten (Look (queries.Flows endpoint)) = is_name endpoint ≡ true

-- each request that can be written is read back as itself
abbrev pub RequestsReadBack : Type 0
RequestsReadBack = (ask : Ask) → CanBeWritten ask → reading_of (request_data ask) ≡ Ok ask

-- no value is read as a restart
abbrev pub NoneIsARestart : Type 0
NoneIsARestart = (d : Data) → reading_of d ≡ Ok (Do events.Restart) → ⊥
