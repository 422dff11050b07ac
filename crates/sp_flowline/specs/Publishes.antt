-- What a publish asks for.
use Rattle.std.specs.Prelude.{ℕ, List, [], ◌∷◌, Bool, false, Option, Result, Ok, Err, option_map, codes, if◌then◌else◌}
use Rattle.serde_json.specs.Data.{Data}
use Rattle.sp_base.specs.declared.refusal.Refusal.{Refusal}
use Rattle.sp_base.specs.declared.refusal.Refusal.TheVariants.{DirectMode}
use Rattle.sp_message.specs.Destination.{topic_from}
use Rattle.sp_message.specs.declared.message.Dest.{Dest}
use Rattle.sp_message.specs.declared.message.Dest.TheVariants.{Queue}
use Rattle.sp_message.specs.declared.message.Message.{Message}
use Rattle.sp_message.specs.declared.property.Property.{Property}
use Rattle.sp_event.specs.declared.request.Event.{Event}
use Rattle.sp_event.specs.declared.request.Event.TheVariants as events
use Rattle.sp_flowline.specs.declared.mode.Mode.{Mode}
use Rattle.sp_flowline.specs.declared.mode.Mode.TheVariants.{Persistent, NonPersistent, Direct}
use Rattle.sp_json.specs.Fields.{has_key, text_at, choice_or, flag_or, name_at, ranged_or}
use Rattle.sp_base.specs.Parts.{formed, and_then}
use Rattle.sp_json.specs.Payloads.{payload_in}
use Rattle.sp_json.specs.Properties.{properties_at}

-- all modes
abbrev pub all_modes : List Mode
all_modes = Persistent ∷ NonPersistent ∷ Direct ∷ []

-- the word for a mode
abbrev pub mode_word : Mode → List ℕ
mode_word Persistent = codes "persistent"
mode_word NonPersistent = codes "non-persistent"
mode_word Direct = codes "direct"

-- where the fields send a message; none, where one has a value outside its form
abbrev pub dest_in : Data → Option (Result Dest Refusal)
dest_in d =
    if has_key (codes "topic") d then option_map topic_from (text_at (codes "topic") d)
    else option_map (λ queue. Ok (Queue queue)) (name_at (codes "queue") d)

-- a message of this payload, time to live in milliseconds, leave to go to a dead-message queue, and properties
abbrev pub message_to : Dest → List ℕ → ℕ → Bool → List Property → Message
message_to dest payload ttl eligible properties =
    record { dest = dest; payload = payload; ttl = ttl; eligible = eligible; properties = properties }

-- a message that is sent in a mode: a direct one is refused, and then one to no topic
abbrev pub sent : Mode → Result Dest Refusal → List ℕ → ℕ → Bool → List Property → Result Event Refusal
sent Direct dest payload ttl eligible properties = Err DirectMode
sent mode dest payload ttl eligible properties =
    and_then dest (λ dest. Ok (events.Publish (message_to dest payload ttl eligible properties)))

-- a message for a topic or a queue; in the persistent mode, without a time to live, and without leave to go to a
-- dead-message queue, where the fields are absent
abbrev pub publish_in : Data → Result Event Refusal
publish_in d =
    and_then (formed (choice_or mode_word all_modes Persistent (codes "mode") d)) (λ mode.
    and_then (formed (dest_in d)) (λ dest.
    and_then (formed (payload_in d)) (λ payload.
    and_then (formed (ranged_or 0 4294967295000 0 (codes "ttl") d)) (λ ttl.
    and_then (formed (flag_or false (codes "dmq") d)) (λ eligible.
    and_then (formed (properties_at (codes "properties") d)) (λ properties.
    sent mode dest payload ttl eligible properties))))))
