-- No request is read as a restart.
use Rattle.std.proofs.Common.{◌≡◌, ◌^◌, Bool, true, false, List, Option, Some, None, Result, Ok, Err, refl, subst, sym}
use Rattle.std.specs.Prelude.{cond, codes, not, ◌||◌, ℕ, ⊤}
use Rattle.std.specs.Option.{option_map, option_and_then}
use Rattle.serde_json.specs.Data.{Data}
use Rattle.sp_base.specs.declared.refusal.Refusal.{Refusal}
use Rattle.sp_base.specs.Parts.{formed, and_then}
use Rattle.sp_config.specs.Choices.{endpoint_kind_word, endpoint_kinds}
use Rattle.sp_config.specs.declared.kind.EndpointKind.{EndpointKind}
use Rattle.sp_config.specs.declared.kind.EndpointKind.TheVariants.{Queue}
use Rattle.sp_config.specs.declared.setting.Setting.{Setting}
use Rattle.sp_event.specs.declared.request.Ask.{Ask}
use Rattle.sp_event.specs.declared.request.Ask.TheVariants.{Do, Look}
use Rattle.sp_event.specs.declared.request.Event.{Event}
use Rattle.sp_event.specs.declared.request.Event.TheVariants as events
use Rattle.sp_event.specs.declared.request.Outcome.{Outcome}
use Rattle.sp_event.specs.declared.request.Query.{Query}
use Rattle.sp_message.specs.declared.message.Dest.{Dest}
use Rattle.sp_message.specs.declared.property.Property.{Property}
use Rattle.sp_flowline.specs.declared.mode.Mode.{Mode}
use Rattle.sp_flowline.specs.declared.mode.Mode.TheVariants.{Persistent, NonPersistent, Direct}
use Rattle.sp_flowline.specs.declared.op.Op.{Op}
use Rattle.sp_flowline.specs.declared.op.Op.TheVariants as ops
use Rattle.sp_flowline.specs.Asks.{ask_in, done, looked, tally_in, copy_in, flows_in}
use Rattle.sp_flowline.specs.Op.{op_word, all_ops, fields_of}
use Rattle.sp_flowline.specs.EndpointEvents.{change_in, delete_in, deprovision_in, provision_in, subscribe_in, unsubscribe_in}
use Rattle.sp_flowline.specs.FlowEvents.{bind_in, optional_plain_at, outcome_named, pull_in, settle_in, unbind_in}
use Rattle.sp_flowline.specs.Publishes.{all_modes, dest_in, message_to, mode_word, publish_in, sent}
use Rattle.sp_flowline.specs.Request.{foreign, has_exclusive, missing, request_of, read_fields}
use Rattle.sp_flowline.specs.Written.{NoneIsARestart}
use Rattle.sp_json.specs.Attributes.{optional_settings_at, settings_at}
use Rattle.sp_json.specs.Fields.{choice_at, choice_or, flag_or, name_at, optional_ranged_at, optional_text_at, ranged_at, ranged_or, text_at}
use Rattle.sp_json.specs.Names.{has_required, another_field}
use Rattle.sp_json.specs.Payloads.{payload_in}
use Rattle.sp_json.specs.Properties.{properties_at}
use Rattle.sp_json.specs.Selectors.{selector_from}
use Rattle.sp_json.specs.Subscriptions.{subscription_at}

abbrev is_restart : Event → Bool
is_restart events.Restart = true
is_restart event = false

-- an event that is asked for is no restart
abbrev Never : Result Event Refusal → Type 0
Never (Ok event) = is_restart event ≡ false
Never (Err refusal) = ⊤

never_then : {X : Type 0} (make : X → Event) → ((x : X) → is_restart (make x) ≡ false) → (r : Result X Refusal) →
    Never (and_then r (λ x. Ok (make x)))
never_then make h (Ok x) = h x
never_then make h (Err refusal) = tt

never_map : {X : Type 0} (make : X → Event) → ((x : X) → is_restart (make x) ≡ false) → (found : Option X) →
    Never (formed (option_map make found))
never_map make h None = tt
never_map make h (Some x) = h x

never_map_two : {X Y : Type 0} (make : X → Y → Event) → ((x : X) (y : Y) → is_restart (make x y) ≡ false) →
    (a : Option X) (b : Option Y) → Never (formed (option_and_then (λ x. option_map (make x) b) a))
never_map_two make h None b = tt
never_map_two make h (Some x) b = never_map (make x) (h x) b

-- an event on an endpoint with one more part
never_named : {X : Type 0} (make : List ℕ → X → Event) → ((name : List ℕ) (x : X) → is_restart (make name x) ≡ false) →
    (name : Option (List ℕ)) (r : Result X Refusal) →
    Never (and_then (formed name) (λ name. and_then r (λ x. Ok (make name x))))
never_named make h None r = tt
never_named make h (Some name) r = never_then (make name) (h name) r

never_provision : (name : Option (List ℕ)) (kind : Option EndpointKind)
    (settings : EndpointKind → Result (List Setting) Refusal) →
    Never (and_then (formed name) (λ name. and_then (formed kind) (λ kind.
    and_then (settings kind) (λ settings. Ok (events.Provision name kind settings)))))
never_provision None kind settings = tt
never_provision (Some name) None settings = tt
never_provision (Some name) (Some kind) settings =
    never_then (events.Provision name kind) (λ given. refl) (settings kind)

never_bind : (name : Option (List ℕ)) (text : Option (Option (List ℕ))) (topic : Result (Option (List ℕ)) Refusal)
    (selector : Option (List ℕ) → Result (Option (List ℕ)) Refusal) →
    Never (and_then (formed name) (λ name. and_then (formed text) (λ text. and_then topic (λ topic.
    and_then (selector text) (λ selector. Ok (events.Bind name selector topic))))))
never_bind None text topic selector = tt
never_bind (Some name) None topic selector = tt
never_bind (Some name) (Some text) (Err refusal) selector = tt
never_bind (Some name) (Some text) (Ok topic) selector =
    never_then (λ given. events.Bind name given topic) (λ given. refl) (selector text)

never_settle : (flow copy : Option ℕ) (outcome : Option Outcome) →
    Never (formed (option_and_then (λ flow. option_and_then (λ copy. option_map (events.Settle flow copy) outcome) copy) flow))
never_settle None copy outcome = tt
never_settle (Some flow) copy outcome = never_map_two (events.Settle flow) (λ c o. refl) copy outcome

never_sent : (mode : Mode) (dest : Result Dest Refusal) (payload : List ℕ) (ttl : ℕ) (eligible : Bool)
    (properties : List Property) → Never (sent mode dest payload ttl eligible properties)
never_sent Direct dest payload ttl eligible properties = tt
never_sent Persistent dest payload ttl eligible properties =
    never_then (λ d. events.Publish (message_to d payload ttl eligible properties)) (λ d. refl) dest
never_sent NonPersistent dest payload ttl eligible properties =
    never_then (λ d. events.Publish (message_to d payload ttl eligible properties)) (λ d. refl) dest

never_publish : (mode : Option Mode) (dest : Option (Result Dest Refusal)) (payload : Option (List ℕ)) (ttl : Option ℕ)
    (eligible : Option Bool) (properties : Option (List Property)) →
    Never (and_then (formed mode) (λ mode. and_then (formed dest) (λ dest. and_then (formed payload) (λ payload.
    and_then (formed ttl) (λ ttl. and_then (formed eligible) (λ eligible. and_then (formed properties) (λ properties.
    sent mode dest payload ttl eligible properties)))))))
never_publish None dest payload ttl eligible properties = tt
never_publish (Some mode) None payload ttl eligible properties = tt
never_publish (Some mode) (Some dest) None ttl eligible properties = tt
never_publish (Some mode) (Some dest) (Some payload) None eligible properties = tt
never_publish (Some mode) (Some dest) (Some payload) (Some ttl) None properties = tt
never_publish (Some mode) (Some dest) (Some payload) (Some ttl) (Some eligible) None = tt
never_publish (Some mode) (Some dest) (Some payload) (Some ttl) (Some eligible) (Some properties) =
    never_sent mode dest payload ttl eligible properties

-- so what is done is no restart, and what is looked at isn't done
never_done : (r : Result Event Refusal) → Never r → done r ≡ Ok (Do events.Restart) → ⊥
never_done (Err refusal) h is = cc
never_done (Ok event) h is =
    let same : event ≡ events.Restart = cc in
    let restart : is_restart event ≡ true = subst (λ e. is_restart e ≡ true) (sym same) refl in
    cc

never_looked : (r : Result Query Refusal) → looked r ≡ Ok (Do events.Restart) → ⊥
never_looked (Err refusal) is = cc
never_looked (Ok query) is = cc

never_asked : (op : Op) (d : Data) → ask_in op d ≡ Ok (Do events.Restart) → ⊥
never_asked ops.Provision d =
    never_done (provision_in d)
    (never_provision (name_at (codes "endpoint") d) (choice_or endpoint_kind_word endpoint_kinds Queue (codes "kind") d)
    (λ kind. optional_settings_at kind (codes "attributes") d))
never_asked ops.Deprovision d =
    never_done (formed (deprovision_in d)) (never_map events.Deprovision (λ name. refl) (name_at (codes "endpoint") d))
never_asked ops.Change d =
    never_done (change_in d)
    (never_named events.Change (λ name x. refl) (name_at (codes "endpoint") d) (settings_at Queue (codes "attributes") d))
never_asked ops.Subscribe d =
    never_done (subscribe_in d)
    (never_named events.Subscribe (λ name x. refl) (name_at (codes "endpoint") d)
    (subscription_at (codes "subscription") d))
never_asked ops.Unsubscribe d =
    never_done (unsubscribe_in d)
    (never_named events.Unsubscribe (λ name x. refl) (name_at (codes "endpoint") d)
    (subscription_at (codes "subscription") d))
never_asked ops.Publish d =
    never_done (publish_in d)
    (never_publish (choice_or mode_word all_modes Persistent (codes "mode") d) (dest_in d) (payload_in d)
    (ranged_or 0 4294967295000 0 (codes "ttl") d) (flag_or false (codes "dmq") d) (properties_at (codes "properties") d))
never_asked ops.Bind d =
    never_done (bind_in d)
    (never_bind (name_at (codes "endpoint") d) (optional_text_at (codes "selector") d) (optional_plain_at (codes "topic") d)
    selector_from)
never_asked ops.Unbind d =
    never_done (formed (unbind_in d)) (never_map events.Unbind (λ flow. refl) (ranged_at 0 (2 ^ 62) (codes "flow") d))
never_asked ops.Pull d =
    never_done (formed (pull_in d))
    (never_map_two events.Pull (λ flow count. refl) (ranged_at 0 (2 ^ 62) (codes "flow") d)
    (ranged_or 1 64 1 (codes "count") d))
never_asked ops.Settle d =
    never_done (formed (settle_in d))
    (never_settle (ranged_at 0 (2 ^ 62) (codes "flow") d) (ranged_at 0 (2 ^ 62) (codes "copy") d)
    (option_and_then outcome_named (text_at (codes "outcome") d)))
never_asked ops.Tick d = never_done (Ok events.Tick) refl
never_asked ops.Delete d =
    never_done (formed (delete_in d))
    (never_map_two events.DeleteCopies (λ name copy. refl) (name_at (codes "endpoint") d)
    (optional_ranged_at 0 (2 ^ 62) (codes "copy") d))
never_asked ops.Tally d = never_looked (formed (tally_in d))
never_asked ops.Copy d = never_looked (formed (copy_in d))
never_asked ops.Flows d = never_looked (formed (flows_in d))

never_read : (op : Op) (d : Data) → read_fields op d ≡ Ok (Do events.Restart) → ⊥
never_read op d = one (not (has_required (fields_of op) d))
    (another_field (fields_of op) d || has_exclusive d)
  where
    one : (a b : Bool) → cond a missing (cond b foreign (ask_in op d)) ≡ Ok (Do events.Restart) → ⊥
    one true b is = cc
    one false true is = cc
    one false false is = never_asked op d is

pub none_is_a_restart : NoneIsARestart
none_is_a_restart d = one (choice_at op_word all_ops (codes "op") d)
  where
    one : (op : Option Op) → request_of op d ≡ Ok (Do events.Restart) → ⊥
    one None is = cc
    one (Some op) is = never_read op d is
