-- The bytes of a unit. Numbers, texts, truth values, options, lists and messages are as everywhere.
use Rattle.std.specs.Prelude.{◌≡◌, ◌≤◌, ◌++◌, ◌&&◌, ℕ, Bool, true, List, [], ◌∷◌, length, Some, None, IfSome, All}
use Rattle.std.specs.List.{list_all}
use Rattle.std.specs.Option.{is_none}
use Rattle.sp_base.specs.Name.{is_caller, is_name}
use Rattle.sp_topic.specs.Subscription.{subscription_fault}
use Rattle.sp_selector.specs.Takes.{selector_fault}
use Rattle.sp_config.specs.declared.kind.EndpointKind.{EndpointKind}
use Rattle.sp_config.specs.declared.kind.EndpointKind.TheVariants as kind
use Rattle.sp_config.specs.declared.setting.Setting.{Setting}
use Rattle.sp_config.specs.declared.value.AttrValue.{AttrValue}
use Rattle.sp_config.specs.declared.value.AttrValue.TheVariants.{Whole, Flag, Word, Text}
use Rattle.sp_config.specs.Settings.{are_settings, number_of}
use Rattle.sp_event.specs.declared.request.Event.{Event}
use Rattle.sp_event.specs.declared.request.Event.TheVariants as event
use Rattle.sp_event.specs.declared.request.Outcome.{Outcome}
use Rattle.sp_event.specs.declared.request.Outcome.TheVariants as outcome
use Rattle.sp_message.specs.Encoding.{list_bytes, number_bytes, option_bytes, text_bytes, truth_bytes}
use Rattle.sp_message.specs.MessageBytes.{KeepsRules, message_bytes}

-- 0 for a queue, 1 for a topic endpoint
abbrev pub kind_byte : EndpointKind → ℕ
kind_byte kind.Queue = 0
kind_byte kind.TopicEndpoint = 1

-- 0 for accepted, 1 for failed, 2 for rejected
abbrev pub outcome_byte : Outcome → ℕ
outcome_byte outcome.Accepted = 0
outcome_byte outcome.Failed = 1
outcome_byte outcome.Rejected = 2

-- a number, a truth value, one byte with the place of a word, or the text of a name, which may be empty
abbrev pub attr_value_bytes : AttrValue → List ℕ
attr_value_bytes (Whole n) = number_bytes n
attr_value_bytes (Flag truth) = truth_bytes truth
attr_value_bytes (Word place) = place ∷ []
attr_value_bytes (Text None) = text_bytes []
attr_value_bytes (Text (Some name)) = text_bytes name

-- one byte with the number of the attribute, and the value
abbrev pub setting_bytes : Setting → List ℕ
setting_bytes s = number_of s.attr ∷ attr_value_bytes s.value

abbrev pub settings_bytes : List Setting → List ℕ
settings_bytes settings = list_bytes setting_bytes settings

-- a tag, and the fields in their order
abbrev pub event_bytes : Event → List ℕ
event_bytes (event.Provision endpoint kind attributes) =
    1 ∷ (text_bytes endpoint ++ (kind_byte kind ∷ settings_bytes attributes))
event_bytes (event.Deprovision endpoint) = 2 ∷ text_bytes endpoint
event_bytes (event.Change endpoint attributes) = 3 ∷ (text_bytes endpoint ++ settings_bytes attributes)
event_bytes (event.Subscribe endpoint subscription) = 4 ∷ (text_bytes endpoint ++ text_bytes subscription)
event_bytes (event.Unsubscribe endpoint subscription) = 5 ∷ (text_bytes endpoint ++ text_bytes subscription)
event_bytes (event.Publish message) = 6 ∷ message_bytes message
event_bytes (event.Bind endpoint selector topic) =
    7 ∷ (text_bytes endpoint ++ (option_bytes text_bytes selector ++ option_bytes text_bytes topic))
event_bytes (event.Unbind flow) = 8 ∷ number_bytes flow
event_bytes (event.Pull flow count) = 9 ∷ (number_bytes flow ++ number_bytes count)
event_bytes (event.Settle flow copy outcome) =
    10 ∷ (number_bytes flow ++ (number_bytes copy ++ (outcome_byte outcome ∷ [])))
event_bytes event.Tick = 11 ∷ []
event_bytes (event.DeleteCopies endpoint copy) = 12 ∷ (text_bytes endpoint ++ option_bytes number_bytes copy)
event_bytes event.Restart = 17 ∷ []

-- where a value is a name, it keeps the rule for names
abbrev pub is_named : AttrValue → Bool
is_named (Text (Some name)) = is_name name
is_named value = true

-- each attribute at most once, in rising order, with a value in its range
abbrev pub are_attributes : List Setting → Bool
are_attributes settings = are_settings settings && list_all (λ s. is_named s.value) settings

abbrev pub is_subscription : List ℕ → Bool
is_subscription text = is_none (subscription_fault text)

abbrev pub is_selector : List ℕ → Bool
is_selector text = is_none (selector_fault text)

-- the number of a flow or a copy is at most 2^62
abbrev pub greatest_number : ℕ
greatest_number = 4611686018427387904

-- each field keeps its rule
abbrev pub IsEvent : Event → Type 0
IsEvent (event.Provision endpoint kind attributes) = (is_name endpoint ≡ true) × (are_attributes attributes ≡ true)
IsEvent (event.Deprovision endpoint) = is_name endpoint ≡ true
IsEvent (event.Change endpoint attributes) = (is_name endpoint ≡ true) × (are_attributes attributes ≡ true)
IsEvent (event.Subscribe endpoint subscription) = (is_name endpoint ≡ true) × (is_subscription subscription ≡ true)
IsEvent (event.Unsubscribe endpoint subscription) = (is_name endpoint ≡ true) × (is_subscription subscription ≡ true)
IsEvent (event.Publish message) = KeepsRules message
IsEvent (event.Bind endpoint selector topic) =
    (is_name endpoint ≡ true) × IfSome selector (λ text. is_selector text ≡ true)
    × IfSome topic (λ text. is_subscription text ≡ true)
IsEvent (event.Unbind flow) = flow ≤ greatest_number
IsEvent (event.Pull flow count) = (flow ≤ greatest_number) × (1 ≤ count) × (count ≤ 64)
IsEvent (event.Settle flow copy outcome) = (flow ≤ greatest_number) × (copy ≤ greatest_number)
IsEvent event.Tick = Unit {0}
IsEvent (event.DeleteCopies endpoint copy) = (is_name endpoint ≡ true)
    × IfSome copy (λ number. number ≤ greatest_number)
IsEvent event.Restart = Unit {0}

-- what a unit has: the moment and the caller of a request, and its events
pub record UnitView : Type 0 where
  pub moment : ℕ
  pub caller : List ℕ
  pub events : List Event

-- a name of at most 64 bytes
abbrev pub is_caller_name : List ℕ → Bool
is_caller_name caller = is_name caller && is_caller caller

-- the moment, one byte with the caller's length and its bytes, and the events as a list
abbrev pub unit_bytes : UnitView → List ℕ
unit_bytes u = number_bytes u.moment ++ ((length u.caller ∷ u.caller) ++ list_bytes event_bytes u.events)

-- there is one event, and each part keeps its rule
pub record KeepsUnitRules (u : UnitView) : Type 0 where
  pub moment : u.moment ≤ 9007199254740991
  pub caller : is_caller_name u.caller ≡ true
  pub one : length u.events ≡ 1
  pub events : All IsEvent u.events

-- the bytes are those of a unit that keeps the rules
abbrev pub IsUnit : List ℕ → UnitView → Type 0
IsUnit bytes u = KeepsUnitRules u × (bytes ≡ unit_bytes u)
