-- Each request that can be written is read back as itself.
use Rattle.std.proofs.Common.{◌≡◌, ◌∙◌, ◌≤◌, ◌^◌, ℕ, Bool, true, false, List, Option, Some, None, Result, Ok, refl, sym}
use Rattle.std.proofs.Common.{ap, ap₂, arith, codes}
use Rattle.std.specs.Prelude.{◌&&◌, if◌then◌else◌, length, nat_le}
use Rattle.std.specs.Option.{option_map, option_and_then}
use Rattle.std.specs.Str.{is_utf8}
use Rattle.std.proofs.lemmas.Bool.{cond-true}
use Rattle.std.proofs.lemmas.Bool.Decides.{nat_tests}
use Rattle.serde_json.specs.Data.{boolean, string, object, Members, put}
use Rattle.sp_base.specs.declared.refusal.Refusal.{Refusal}
use Rattle.sp_base.specs.declared.refusal.Refusal.TheVariants.{BadTopic, BadSelector, BadSubscription}
use Rattle.sp_base.specs.Name.{is_name}
use Rattle.sp_base.specs.Topic.{IsTopic}
use Rattle.sp_config.specs.declared.kind.EndpointKind.{EndpointKind}
use Rattle.sp_config.specs.declared.kind.EndpointKind.TheVariants as kinds
use Rattle.sp_config.specs.declared.setting.Setting.{Setting}
use Rattle.sp_message.specs.declared.message.Dest.{Dest}
use Rattle.sp_message.specs.declared.message.Dest.TheVariants.{Topic, Queue}
use Rattle.sp_event.specs.declared.request.Ask.{Ask}
use Rattle.sp_event.specs.declared.request.Ask.TheVariants.{Do, Look}
use Rattle.sp_event.specs.declared.request.Event.{Event}
use Rattle.sp_event.specs.declared.request.Event.TheVariants as events
use Rattle.sp_event.specs.declared.request.Outcome.{Outcome}
use Rattle.sp_event.specs.declared.request.Outcome.TheVariants.{Accepted, Failed, Rejected}
use Rattle.sp_event.specs.declared.request.Query.TheVariants as queries
use Rattle.sp_topic.specs.Subscription.{IsSubscription, is_exception}
use Rattle.sp_json.specs.Deliveries.{with_destination}
use Rattle.sp_json.specs.Fields.{within, name_from}
use Rattle.sp_json.specs.Members.{whole}
use Rattle.sp_base.specs.Parts.{formed, unless, and_then}
use Rattle.sp_json.specs.Payloads.{AreBytes, base64_of, from_base64, payload_from}
use Rattle.sp_json.specs.Properties.{properties_from, properties_members}
use Rattle.sp_message.specs.Destination.{topic_from}
use Rattle.sp_message.specs.Property.{are_properties}
use Rattle.sp_json.specs.Selectors.{selector_of}
use Rattle.sp_json.specs.Subscriptions.{subscription_from}
use Rattle.sp_message.specs.declared.property.Property.{Property}
use Rattle.sp_selector.specs.Takes.{selector_fault}
use Rattle.sp_flowline.specs.declared.mode.Mode.TheVariants.{Persistent}
use Rattle.sp_flowline.specs.Asks.{done, looked}
use Rattle.sp_flowline.specs.FlowEvents.{plain_of, outcome_named, outcome_word}
use Rattle.sp_flowline.specs.Publishes.{message_to, sent}
use Rattle.sp_flowline.specs.Request.{reading_of}
use Rattle.sp_flowline.specs.Written.{event_data, of_op, with_properties, MayHave, IsSendable, EventCanBeWritten}
use Rattle.sp_flowline.specs.Written.{RequestsReadBack}
use Rattle.sp_json.proofs.PayloadLemmas.{base64_back}
use Rattle.sp_json.proofs.PropertiesBack.{properties_back}
use Rattle.sp_flowline.proofs.SettingsBack.{name_back, settings_back}

bounded : (least greatest n : ℕ) → least ≤ n → n ≤ greatest → (nat_le least n && nat_le n greatest) ≡ true
bounded least greatest n h k = grind (arith, nat_tests)

within_back : (least greatest n : ℕ) → least ≤ n → n ≤ greatest → within least greatest n ≡ Some n
within_back least greatest n h k = cond-true _ _ _ (bounded least greatest n h k)

number_back : (n : ℕ) → n ≤ 2 ^ 62 → within 0 (2 ^ 62) n ≡ Some n
number_back n h = within_back 0 (2 ^ 62) n (omega arith) h

text_back : (text : List ℕ) → IsSubscription text → subscription_from text ≡ Ok text
text_back text h = ap (λ (fault : Option ℕ). unless (option_map BadSubscription fault) text) h

plain_back : (text : List ℕ) → IsSubscription text → is_exception text ≡ false
    → and_then (subscription_from text) plain_of ≡ Ok text
plain_back text h k = ap (λ (r : Result (List ℕ) Refusal). and_then r plain_of) (text_back text h) ∙ rw k refl

topic_back : (topic : List ℕ) → IsTopic topic → topic_from topic ≡ Ok (Topic topic)
topic_back topic h = ap (λ (fault : Option ℕ). unless (option_map BadTopic fault) (Topic topic)) h

payload_back : (bytes : List ℕ) → length bytes ≤ 8388608 → payload_from bytes ≡ Some bytes
payload_back bytes h = cond-true _ _ _ (short (length bytes) h)
  where
    short : (n : ℕ) → n ≤ 8388608 → nat_le n 8388608 ≡ true
    short n k = grind (arith, nat_tests)

provision : (endpoint : List ℕ) (kind : EndpointKind) (settings : List Setting) → is_name endpoint ≡ true
    → MayHave kind settings
    → reading_of (event_data (events.Provision endpoint kind settings))
    ≡ Ok (Do (events.Provision endpoint kind settings))
provision endpoint kinds.Queue settings n h =
    ap₂ (λ (name : Option (List ℕ)) (given : Result (List Setting) Refusal).
    done (and_then (formed name) (λ name. and_then given (λ given. Ok (events.Provision name kinds.Queue given)))))
    (name_back endpoint n) (settings_back kinds.Queue settings h)
provision endpoint kinds.TopicEndpoint settings n h =
    ap₂ (λ (name : Option (List ℕ)) (given : Result (List Setting) Refusal).
    done (and_then (formed name) (λ name.
    and_then given (λ given. Ok (events.Provision name kinds.TopicEndpoint given)))))
    (name_back endpoint n) (settings_back kinds.TopicEndpoint settings h)

selector_back : (text : List ℕ) → selector_fault text ≡ None → selector_of text ≡ Ok text
selector_back text h = ap (λ (fault : Option ℕ). unless (option_map BadSelector fault) text) h

-- what the texts of a bind are read as
abbrev topic_read : List ℕ → Result (Option (List ℕ)) Refusal
topic_read text = and_then (and_then (subscription_from text) plain_of) (λ topic. Ok (Some topic))

topic_read_back : (text : List ℕ) → IsSubscription text × (is_exception text ≡ false) → topic_read text ≡ Ok (Some text)
topic_read_back text h =
    ap (λ (r : Result (List ℕ) Refusal). and_then r (λ topic. Ok (Some topic))) (plain_back text h.0 h.1)

abbrev selector_read : List ℕ → Result (Option (List ℕ)) Refusal
selector_read text = and_then (selector_of text) (λ selector. Ok (Some selector))

selector_read_back : (text : List ℕ) → selector_fault text ≡ None → selector_read text ≡ Ok (Some text)
selector_read_back text h =
    ap (λ (r : Result (List ℕ) Refusal). and_then r (λ selector. Ok (Some selector))) (selector_back text h)

-- a bind, by what its texts are read as
bound : (name : Option (List ℕ)) (endpoint : List ℕ) (selector topic : Result (Option (List ℕ)) Refusal)
    (s t : Option (List ℕ)) →
    name ≡ Some endpoint → selector ≡ Ok s → topic ≡ Ok t →
    done (and_then (formed name) (λ name. and_then topic (λ topic.
    and_then selector (λ selector. Ok (events.Bind name selector topic))))) ≡ Ok (Do (events.Bind endpoint s t))
bound name endpoint selector topic s t n h k = rw (n, h, k) refl

bind : (endpoint : List ℕ) (selector topic : Option (List ℕ)) → EventCanBeWritten (events.Bind endpoint selector topic)
    → reading_of (event_data (events.Bind endpoint selector topic)) ≡ Ok (Do (events.Bind endpoint selector topic))
bind endpoint None None h =
    bound (name_from endpoint) endpoint (Ok None) (Ok None) None None (name_back endpoint h.0) refl refl
bind endpoint None (Some topic) h =
    bound (name_from endpoint) endpoint (Ok None) (topic_read topic) None (Some topic) (name_back endpoint h.0) refl
    (topic_read_back topic h.2)
bind endpoint (Some text) None h =
    bound (name_from endpoint) endpoint (selector_read text) (Ok None) (Some text) None (name_back endpoint h.0)
    (selector_read_back text h.1) refl
bind endpoint (Some text) (Some topic) h =
    bound (name_from endpoint) endpoint (selector_read text) (topic_read topic) (Some text) (Some topic)
    (name_back endpoint h.0) (selector_read_back text h.1) (topic_read_back topic h.2)

payload64_back : (bytes : List ℕ) → AreBytes bytes → length bytes ≤ 8388608
    → option_and_then payload_from (from_base64 (base64_of bytes)) ≡ Some bytes
payload64_back bytes b l = ap (option_and_then payload_from) (base64_back bytes b) ∙ payload_back bytes l

-- what a destination is read as
abbrev dest_read : Dest → Option (Result Dest Refusal)
dest_read (Topic topic) = Some (topic_from topic)
dest_read (Queue name) = option_map (λ queue. Ok (Queue queue)) (name_from name)

dest_back : (dest : Dest) → IsSendable dest → dest_read dest ≡ Some (Ok dest)
dest_back (Topic topic) h = ap Some (topic_back topic h)
dest_back (Queue name) h = ap (option_map (λ queue. Ok (Queue queue))) (name_back name h)

-- what a payload is shown as, and what that is read as
abbrev shown : Bool → List ℕ → Members → Members
shown is_text payload ms =
    if is_text then put (codes "payload") (string payload) ms
    else put (codes "payload64") (string (base64_of payload)) ms

abbrev shown_read : Bool → List ℕ → Option (List ℕ)
shown_read is_text payload =
    if is_text then payload_from payload else option_and_then payload_from (from_base64 (base64_of payload))

shown_back : (is_text : Bool) (payload : List ℕ) → AreBytes payload → length payload ≤ 8388608
    → shown_read is_text payload ≡ Some payload
shown_back true payload b l = payload_back payload l
shown_back false payload b l = payload64_back payload b l

-- the fields of a publish but for its payload
abbrev unpaid : Dest → ℕ → Bool → List Property → Members
unpaid dest ttl eligible ps =
    with_destination dest (put (codes "ttl") (whole ttl) (put (codes "dmq") (boolean eligible)
    (with_properties ps (of_op (codes "publish")))))

-- a publish, by what its fields are read as
abbrev publish_read : Option (Result Dest Refusal) → Option (List ℕ) → Option ℕ → Bool → Option (List Property)
    → Result Ask Refusal
publish_read to payload ttl eligible ps =
    done (and_then (formed to) (λ to.
    and_then (formed payload) (λ payload.
    and_then (formed ttl) (λ ttl.
    and_then (formed ps) (λ ps. sent Persistent to payload ttl eligible ps)))))

-- what is sent: it goes, it is a payload, it has a time to live, and it has properties
record IsSent (dest : Dest) (payload : List ℕ) (ttl : ℕ) (ps : List Property) : Type 0 where
  goes : IsSendable dest
  short : length payload ≤ 8388608
  bytes : AreBytes payload
  lives : ttl ≤ 4294967295000
  properties : are_properties ps ≡ true

by_fields : (dest : Dest) (payload : List ℕ) (ttl : ℕ) (eligible : Bool) (ps : List Property) (is_text : Bool)
    → IsSent dest payload ttl ps
    → publish_read (dest_read dest) (shown_read is_text payload) (within 0 4294967295000 ttl) eligible
    (properties_from (object (properties_members ps)))
    ≡ Ok (Do (events.Publish (message_to dest payload ttl eligible ps)))
by_fields dest payload ttl eligible ps is_text h =
    let lives = within_back 0 4294967295000 ttl (omega arith) h.lives in
    rw (dest_back dest h.goes, shown_back is_text payload h.bytes h.short, lives, properties_back ps h.properties) refl

published : (dest : Dest) (payload : List ℕ) (ttl : ℕ) (eligible : Bool) (ps : List Property) (is_text : Bool)
    → IsSent dest payload ttl ps
    → reading_of (object (shown is_text payload (unpaid dest ttl eligible ps)))
    ≡ Ok (Do (events.Publish (message_to dest payload ttl eligible ps)))
published (Topic topic) payload ttl eligible ps true h = by_fields (Topic topic) payload ttl eligible ps true h
published (Topic topic) payload ttl eligible ps false h = by_fields (Topic topic) payload ttl eligible ps false h
published (Queue name) payload ttl eligible ps true h = by_fields (Queue name) payload ttl eligible ps true h
published (Queue name) payload ttl eligible ps false h = by_fields (Queue name) payload ttl eligible ps false h

-- a settle, by what its fields are read as
abbrev settle_read : Option ℕ → Option ℕ → Option Outcome → Result Ask Refusal
settle_read flow copy outcome =
    done (formed (option_and_then (λ flow.
    option_and_then (λ copy. option_map (events.Settle flow copy) outcome) copy) flow))

outcome_back : (o : Outcome) → outcome_named (outcome_word o) ≡ Some o
outcome_back Accepted = refl
outcome_back Failed = refl
outcome_back Rejected = refl

settled : (flow copy : ℕ) (o : Outcome) → flow ≤ 2 ^ 62 → copy ≤ 2 ^ 62
    → settle_read (within 0 (2 ^ 62) flow) (within 0 (2 ^ 62) copy) (outcome_named (outcome_word o))
    ≡ Ok (Do (events.Settle flow copy o))
settled flow copy o h k =
    ap (settle_read (within 0 (2 ^ 62) flow) (within 0 (2 ^ 62) copy)) (outcome_back o)
    ∙ ap₂ (λ (flow copy : Option ℕ). settle_read flow copy (Some o)) (number_back flow h) (number_back copy k)

event_back : (event : Event) → EventCanBeWritten event → reading_of (event_data event) ≡ Ok (Do event)
event_back (events.Provision endpoint kind settings) h = provision endpoint kind settings h.0 h.1
event_back (events.Deprovision endpoint) h =
    ap (λ (name : Option (List ℕ)). done (formed (option_map events.Deprovision name))) (name_back endpoint h)
event_back (events.Change endpoint settings) h =
    ap₂ (λ (name : Option (List ℕ)) (given : Result (List Setting) Refusal).
    done (and_then (formed name) (λ name. and_then given (λ given. Ok (events.Change name given)))))
    (name_back endpoint h.0) (settings_back kinds.Queue settings h.1)
event_back (events.Subscribe endpoint text) h =
    ap₂ (λ (name : Option (List ℕ)) (text : Result (List ℕ) Refusal).
    done (and_then (formed name) (λ name. and_then text (λ text. Ok (events.Subscribe name text)))))
    (name_back endpoint h.0) (text_back text h.1)
event_back (events.Unsubscribe endpoint text) h =
    ap₂ (λ (name : Option (List ℕ)) (text : Result (List ℕ) Refusal).
    done (and_then (formed name) (λ name. and_then text (λ text. Ok (events.Unsubscribe name text)))))
    (name_back endpoint h.0) (text_back text h.1)
event_back (events.Publish m) h =
    published m.dest m.payload m.ttl m.eligible m.properties (is_utf8 m.payload)
    (record { goes = h.0; short = h.1; bytes = h.2; lives = h.3; properties = h.4 })
event_back (events.Bind endpoint selector topic) h = bind endpoint selector topic h
event_back (events.Unbind flow) h =
    ap (λ (flow : Option ℕ). done (formed (option_map events.Unbind flow))) (number_back flow h)
event_back (events.Pull flow count) h =
    ap₂ (λ (flow count : Option ℕ). done (formed (option_and_then (λ flow. option_map (events.Pull flow) count) flow)))
    (number_back flow h.0) (within_back 1 64 count h.1 h.2)
event_back (events.Settle flow copy outcome) h = settled flow copy outcome h.0 h.1
event_back events.Tick h = refl
event_back (events.DeleteCopies endpoint None) h =
    ap (λ (name : Option (List ℕ)). done (formed (option_map (λ endpoint. events.DeleteCopies endpoint None) name)))
    (name_back endpoint h.0)
event_back (events.DeleteCopies endpoint (Some copy)) h =
    ap₂ (λ (name : Option (List ℕ)) (copy : Option ℕ). done (formed (option_and_then (λ endpoint.
    option_map (events.DeleteCopies endpoint) (option_map Some copy)) name)))
    (name_back endpoint h.0) (number_back copy h.1)
event_back events.Restart h = absurd h

pub read_back : RequestsReadBack
read_back (Do event) h = event_back event h
read_back (Look (queries.Tally None)) h = refl
read_back (Look (queries.Tally (Some endpoint))) h =
    ap (λ (name : Option (List ℕ)). looked (formed (option_map queries.Tally (option_map Some name))))
    (name_back endpoint h)
read_back (Look (queries.Copy copy)) h =
    ap (λ (copy : Option ℕ). looked (formed (option_map queries.Copy copy))) (number_back copy h)
read_back (Look (queries.Flows endpoint)) h =
    ap (λ (name : Option (List ℕ)). looked (formed (option_map queries.Flows name))) (name_back endpoint h)
