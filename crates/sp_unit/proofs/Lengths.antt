-- How many bytes a unit has at most.
use Rattle.std.proofs.Common.{◌≡◌, ◌+◌, ◌*◌, ◌≤◌, ◌++◌, ℕ, Bool, true, false, List, [], ◌∷◌, length, Option, Some, None, refl, ap, arith}
use Rattle.std.specs.Prelude.{IfSome, nat_le}
use Rattle.std.specs.List.{flat_map, list_all, AllByRecursion}
use Rattle.std.specs.Int.{to_le_bytes, w32}
use Rattle.std.specs.Option.{is_none}
use Rattle.std.specs.Str.{is_utf8}
use Rattle.std.proofs.lemmas.Bool.Decides.{nat_tests}
use Rattle.std.proofs.lemmas.List.{length-append}
use Rattle.std.proofs.lemmas.List.Concat.{flat_map-cons}
use Rattle.std.proofs.lemmas.List.Elements.{recursion_from_All}
use Rattle.sp_base.specs.Name.{is_caller, is_name}
use Rattle.sp_base.specs.Topic.{topic_fault}
use Rattle.sp_base.proofs.TopicFaults.{topic_bound}
use Rattle.sp_topic.specs.Subscription.{subscription_fault}
use Rattle.sp_topic.proofs.SubscriptionFaults.{subscription_bound}
use Rattle.sp_selector.specs.Takes.{selector_fault}
use Rattle.sp_selector.proofs.Answered.{no_fault}
use Rattle.sp_config.specs.declared.setting.Setting.{Setting}
use Rattle.sp_config.specs.declared.value.AttrValue.{AttrValue}
use Rattle.sp_config.specs.declared.value.AttrValue.TheVariants as attr_value
use Rattle.sp_config.specs.Settings.{are_settings}
use Rattle.sp_event.specs.declared.request.Event.{Event}
use Rattle.sp_event.specs.declared.request.Event.TheVariants as event
use Rattle.sp_message.specs.declared.message.Dest.{Dest}
use Rattle.sp_message.specs.declared.message.Dest.TheVariants.{Topic, Queue}
use Rattle.sp_message.specs.declared.message.Message.{Message}
use Rattle.sp_message.specs.declared.property.Property.{Property}
use Rattle.sp_message.specs.declared.value.Value.{Value}
use Rattle.sp_message.specs.declared.value.Value.TheVariants as variant
use Rattle.sp_message.specs.Encoding.{list_bytes, number_bytes, option_bytes, text_bytes, truth_bytes}
use Rattle.sp_message.specs.MessageBytes.{KeepsRules, destination_bytes, is_destination, is_payload, message_bytes, property_bytes, value_bytes}
use Rattle.sp_message.specs.Property.{are_properties, is_name_byte, is_property, names_rise}
use Rattle.sp_message.specs.Value as range
use Rattle.sp_unit.specs.UnitBytes.{IsEvent, IsUnit, UnitView, are_attributes, attr_value_bytes, event_bytes, is_caller_name, is_named, is_selector, is_subscription, kind_byte, setting_bytes, settings_bytes}
use Rattle.sp_unit.proofs.FewSettings.{few, split_and}

-- ---- parts

number_len : (n : ℕ) → length (number_bytes n) ≡ 8
number_len n = refl

text_len : (text : List ℕ) → length (text_bytes text) ≡ 4 + length text
text_len text = length-append (to_le_bytes w32 (length text)) text

truth_len : (b : Bool) → length (truth_bytes b) ≡ 1
truth_len true = refl
truth_len false = refl

no_fault_is : {A : Type 0} (o : Option A) → is_none o ≡ true → o ≡ None
no_fault_is None e = refl
no_fault_is (Some x) e = absurd cc

name_len : (name : List ℕ) → is_name name ≡ true → length (text_bytes name) ≤ 204
name_len name h = omega (arith, short name h)
  where
    short : (name : List ℕ) → is_name name ≡ true → length name ≤ 200
    short name h = grind (arith, nat_tests)

subscription_len : (text : List ℕ) → is_subscription text ≡ true → length (text_bytes text) ≤ 255
subscription_len text h = omega (arith, subscription_bound text (no_fault_is (subscription_fault text) h))

selector_len : (text : List ℕ) → is_selector text ≡ true → length (text_bytes text) ≤ 2004
selector_len text h = let whole = no_fault text (no_fault_is (selector_fault text) h) in omega (arith, whole.1.short)

selector_option_len : (o : Option (List ℕ)) → IfSome o (λ text. is_selector text ≡ true)
    → length (option_bytes text_bytes o) ≤ 2005
selector_option_len None h = omega arith
selector_option_len (Some text) h = omega (arith, selector_len text h)

topic_option_len : (o : Option (List ℕ)) → IfSome o (λ text. is_subscription text ≡ true)
    → length (option_bytes text_bytes o) ≤ 256
topic_option_len None h = omega arith
topic_option_len (Some text) h = omega (arith, subscription_len text h)

copy_option_len : (o : Option ℕ) → length (option_bytes number_bytes o) ≤ 9
copy_option_len None = omega arith
copy_option_len (Some n) = omega arith

-- ---- attributes

attr_value_len : (v : AttrValue) → is_named v ≡ true → length (attr_value_bytes v) ≤ 204
attr_value_len (attr_value.Whole n) h = omega arith
attr_value_len (attr_value.Flag b) h = omega (arith, truth_len b)
attr_value_len (attr_value.Word place) h = omega arith
attr_value_len (attr_value.Text None) h = omega arith
attr_value_len (attr_value.Text (Some name)) h = name_len name h

settings_flat : (settings : List Setting) → list_all (λ s. is_named s.value) settings ≡ true
    → length (flat_map setting_bytes settings) ≤ 205 * length settings
settings_flat [] h = omega arith
settings_flat (s ∷ settings) h =
    let both = split_and (is_named s.value) (list_all (λ s. is_named s.value) settings) h in
    omega (
      arith,
      ap length (flat_map-cons setting_bytes s settings),
      length-append (setting_bytes s) (flat_map setting_bytes settings),
      attr_value_len s.value both.0,
      settings_flat settings both.1,
    )

settings_len : (settings : List Setting) → are_attributes settings ≡ true → length (settings_bytes settings) ≤ 3076
settings_len settings h =
    let both = split_and (are_settings settings) (list_all (λ s. is_named s.value) settings) h in
    omega (arith, settings_flat settings both.1, few settings both.0)

-- ---- messages

value_len : (v : Value) → range.is_in_range v ≡ true → length (value_bytes v) ≤ 8197
value_len (variant.Whole z) h = omega arith
value_len (variant.Fixed z) h = omega arith
value_len (variant.Text text) h =
    omega (arith, short (length text) (split_and (nat_le (length text) 8192) (is_utf8 text) h).0)
  where
    short : (n : ℕ) → nat_le n 8192 ≡ true → n ≤ 8192
    short n k = grind (arith, nat_tests)
value_len (variant.Bool b) h = omega (arith, truth_len b)

property_len : (p : Property) → is_property p ≡ true → length (property_bytes p) ≤ 8265
property_len p h =
    let a = split_and _ (list_all is_name_byte p.name) h in
    let b = split_and _ (range.is_in_range p.value) a.0 in
    let c = split_and _ (nat_le (length p.name) 64) b.0 in
    omega (
      arith,
      length-append (text_bytes p.name) (value_bytes p.value),
      short (length p.name) c.1,
      value_len p.value b.1,
    )
  where
    short : (n : ℕ) → nat_le n 64 ≡ true → n ≤ 64
    short n k = grind (arith, nat_tests)

properties_flat : (ps : List Property) → list_all is_property ps ≡ true
    → length (flat_map property_bytes ps) ≤ 8265 * length ps
properties_flat [] h = omega arith
properties_flat (p ∷ ps) h =
    let both = split_and (is_property p) (list_all is_property ps) h in
    omega (
      arith,
      ap length (flat_map-cons property_bytes p ps),
      length-append (property_bytes p) (flat_map property_bytes ps),
      property_len p both.0,
      properties_flat ps both.1,
    )

properties_len : (ps : List Property) → are_properties ps ≡ true → length (list_bytes property_bytes ps) ≤ 528961
properties_len ps h =
    let a = split_and _ (names_rise ps) h in
    let b = split_and (nat_le (length ps) 64) (list_all is_property ps) a.0 in
    omega (arith, properties_flat ps b.1, short (length ps) b.0)
  where
    short : (n : ℕ) → nat_le n 64 ≡ true → n ≤ 64
    short n k = grind (arith, nat_tests)

destination_len : (d : Dest) → is_destination d ≡ true → length (destination_bytes d) ≤ 255
destination_len (Topic topic) h = omega (arith, topic_bound topic (no_fault_is (topic_fault topic) h))
destination_len (Queue name) h = omega (arith, name_len name h)

payload_len : (payload : List ℕ) → is_payload payload ≡ true → length (text_bytes payload) ≤ 8388612
payload_len payload h = omega (arith, short (length payload) h)
  where
    short : (n : ℕ) → nat_le n 8388608 ≡ true → n ≤ 8388608
    short n k = grind (arith, nat_tests)

message_len : (m : Message) → KeepsRules m → length (message_bytes m) ≤ 9000000
message_len m h =
    let d = destination_bytes m.dest in
    let p = text_bytes m.payload in
    let n = number_bytes m.ttl in
    let e = truth_bytes m.eligible in
    let l = list_bytes property_bytes m.properties in
    omega (
      arith,
      length-append (((d ++ p) ++ n) ++ e) l,
      length-append ((d ++ p) ++ n) e,
      length-append (d ++ p) n,
      length-append d p,
      destination_len m.dest h.destination,
      payload_len m.payload h.payload,
      truth_len m.eligible,
      properties_len m.properties h.properties,
    )

-- ---- events

event_len : (e : Event) → IsEvent e → length (event_bytes e) ≤ 9000001
event_len (event.Provision endpoint kind attributes) h =
    omega (
      arith,
      length-append (text_bytes endpoint) (kind_byte kind ∷ settings_bytes attributes),
      name_len endpoint h.0,
      settings_len attributes h.1,
    )
event_len (event.Deprovision endpoint) h = omega (arith, name_len endpoint h)
event_len (event.Change endpoint attributes) h =
    omega (
      arith,
      length-append (text_bytes endpoint) (settings_bytes attributes),
      name_len endpoint h.0,
      settings_len attributes h.1,
    )
event_len (event.Subscribe endpoint text) h =
    omega (
      arith,
      length-append (text_bytes endpoint) (text_bytes text),
      name_len endpoint h.0,
      subscription_len text h.1,
    )
event_len (event.Unsubscribe endpoint text) h =
    omega (
      arith,
      length-append (text_bytes endpoint) (text_bytes text),
      name_len endpoint h.0,
      subscription_len text h.1,
    )
event_len (event.Publish message) h = omega (arith, message_len message h)
event_len (event.Bind endpoint selector topic) h =
    omega (
      arith,
      length-append (text_bytes endpoint) (option_bytes text_bytes selector ++ option_bytes text_bytes topic),
      length-append (option_bytes text_bytes selector) (option_bytes text_bytes topic),
      name_len endpoint h.0,
      selector_option_len selector h.1,
      topic_option_len topic h.2,
    )
event_len (event.Unbind flow) h = omega arith
event_len (event.Pull flow count) h = omega arith
event_len (event.Settle flow copy outcome) h = omega arith
event_len event.Tick h = omega arith
event_len (event.DeleteCopies endpoint copy) h =
    omega (
      arith,
      length-append (text_bytes endpoint) (option_bytes number_bytes copy),
      name_len endpoint h.0,
      copy_option_len copy,
    )
event_len event.Restart h = omega arith

one_len : (es : List Event) → length es ≡ 1 → AllByRecursion IsEvent es → length (list_bytes event_bytes es) ≤ 9000002
one_len [] one h = absurd (omega arith)
one_len (e ∷ []) one h =
    omega (
      arith,
      ap length (flat_map-cons event_bytes e []),
      length-append (event_bytes e) (flat_map event_bytes []),
      event_len e h.0,
    )
one_len (e ∷ f ∷ es) one h = absurd (omega arith)

caller_len : (caller : List ℕ) → is_caller_name caller ≡ true → length caller ≤ 64
caller_len caller h = short (length caller) (split_and (is_name caller) (is_caller caller) h).1
  where
    short : (n : ℕ) → nat_le n 64 ≡ true → n ≤ 64
    short n k = grind (arith, nat_tests)

pub unit_len : (bytes : List ℕ) (u : UnitView) → IsUnit bytes u → length bytes ≤ 16777216
unit_len bytes u h =
    let caller = length u.caller ∷ u.caller in
    let events = list_bytes event_bytes u.events in
    omega (
      arith,
      ap length h.1,
      length-append (number_bytes u.moment) (caller ++ events),
      length-append caller events,
      caller_len u.caller h.0.caller,
      one_len u.events h.0.one (recursion_from_All IsEvent u.events h.0.events),
    )

pub unit_some : (bytes : List ℕ) (u : UnitView) → IsUnit bytes u → 1 ≤ length bytes
unit_some bytes u h = omega (arith, ap length h.1)
