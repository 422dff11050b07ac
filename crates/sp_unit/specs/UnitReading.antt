-- How a unit is read.
use Rattle.std.specs.Prelude.{◌==◌, ◌-◌, ℕ, zero, suc, List, [], ◌∷◌, length, take, drop, nat_le, nat_lt, slice_get, Option, Some, None, if◌then◌else◌}
use Rattle.sp_base.specs.Name.{is_caller, is_name}
use Rattle.sp_config.specs.declared.attr.Attr.{Attr}
use Rattle.sp_config.specs.declared.kind.EndpointKind.{EndpointKind}
use Rattle.sp_config.specs.declared.kind.EndpointKind.TheVariants as kind
use Rattle.sp_config.specs.declared.range.Range.{Range}
use Rattle.sp_config.specs.declared.range.Range.TheVariants.{Between, TrueOrFalse, OneOf, SomeName, NameOrEmpty}
use Rattle.sp_config.specs.declared.setting.Setting.{Setting}
use Rattle.sp_config.specs.declared.value.AttrValue.{AttrValue}
use Rattle.sp_config.specs.declared.value.AttrValue.TheVariants.{Whole, Flag, Word, Text}
use Rattle.sp_config.specs.Names.{all_attrs}
use Rattle.sp_config.specs.Ranges.{range_of}
use Rattle.sp_config.specs.Settings.{are_settings}
use Rattle.sp_event.specs.declared.request.Event.{Event}
use Rattle.sp_event.specs.declared.request.Event.TheVariants as event
use Rattle.sp_event.specs.declared.request.Outcome.{Outcome}
use Rattle.sp_event.specs.declared.request.Outcome.TheVariants as outcome
use Rattle.sp_message.specs.Decoding.{◌>>=◌, byte_at, list_at, number_within_at, option_at, tested, text_at, truth_at}
use Rattle.sp_message.specs.MessageReading.{message_at, name_at}
use Rattle.sp_unit.specs.UnitBytes.{UnitView, greatest_number, is_selector, is_subscription}

unfoldable pub kind_at : List ℕ → Option (EndpointKind × List ℕ)
kind_at [] = None
kind_at (zero ∷ bytes) = Some (kind.Queue, bytes)
kind_at (suc zero ∷ bytes) = Some (kind.TopicEndpoint, bytes)
kind_at (suc (suc b) ∷ bytes) = None

unfoldable pub outcome_at : List ℕ → Option (Outcome × List ℕ)
outcome_at [] = None
outcome_at (zero ∷ bytes) = Some (outcome.Accepted, bytes)
outcome_at (suc zero ∷ bytes) = Some (outcome.Failed, bytes)
outcome_at (suc (suc zero) ∷ bytes) = Some (outcome.Rejected, bytes)
outcome_at (suc (suc (suc b)) ∷ bytes) = None

-- the attribute of a number, which counts from 1
unfoldable pub attribute_numbered : ℕ → Option Attr
attribute_numbered n = if nat_le 1 n then slice_get all_attrs (n - 1) else None

-- a name, or the empty text
unfoldable pub owner_at : List ℕ → Option (AttrValue × List ℕ)
owner_at bytes = do
  text ← text_at bytes
  if length text.0 == 0 then Some
      (Text None, text.1) else (if is_name text.0 then Some (Text (Some text.0), text.1) else None)

unfoldable pub word_at : ℕ → List ℕ → Option (AttrValue × List ℕ)
word_at words bytes = do
  place ← byte_at bytes
  if nat_lt place.0 words then Some (Word place.0, place.1) else None

-- a value of a range
unfoldable pub attr_value_at : Range → List ℕ → Option (AttrValue × List ℕ)
attr_value_at (Between least most) bytes = do
  n ← number_within_at least most bytes
  Some (Whole n.0, n.1)
attr_value_at TrueOrFalse bytes = do
  truth ← truth_at bytes
  Some (Flag truth.0, truth.1)
attr_value_at (OneOf words) bytes = word_at words bytes
attr_value_at SomeName bytes = do
  name ← name_at bytes
  Some (Text (Some name.0), name.1)
attr_value_at NameOrEmpty bytes = owner_at bytes

unfoldable pub setting_at : List ℕ → Option (Setting × List ℕ)
setting_at bytes = do
  n ← byte_at bytes
  attribute ← attribute_numbered n.0
  value ← attr_value_at (range_of attribute) n.1
  Some (record { attr = attribute; value = value.0 }, value.1)

unfoldable pub settings_at : List ℕ → Option (List Setting × List ℕ)
settings_at bytes = do
  settings ← list_at setting_at bytes
  tested are_settings settings

unfoldable pub subscription_at : List ℕ → Option (List ℕ × List ℕ)
subscription_at bytes = do
  text ← text_at bytes
  tested is_subscription text

unfoldable pub selector_at : List ℕ → Option (List ℕ × List ℕ)
selector_at bytes = do
  text ← text_at bytes
  tested is_selector text

-- the number of a flow or a copy
unfoldable pub counted_at : List ℕ → Option (ℕ × List ℕ)
counted_at bytes = number_within_at 0 greatest_number bytes

unfoldable pub provision_at : List ℕ → Option (Event × List ℕ)
provision_at bytes = do
  endpoint ← name_at bytes
  kind ← kind_at endpoint.1
  attributes ← settings_at kind.1
  Some (event.Provision endpoint.0 kind.0 attributes.0, attributes.1)

unfoldable pub deprovision_at : List ℕ → Option (Event × List ℕ)
deprovision_at bytes = do
  endpoint ← name_at bytes
  Some (event.Deprovision endpoint.0, endpoint.1)

unfoldable pub change_at : List ℕ → Option (Event × List ℕ)
change_at bytes = do
  endpoint ← name_at bytes
  attributes ← settings_at endpoint.1
  Some (event.Change endpoint.0 attributes.0, attributes.1)

unfoldable pub subscribe_at : List ℕ → Option (Event × List ℕ)
subscribe_at bytes = do
  endpoint ← name_at bytes
  subscription ← subscription_at endpoint.1
  Some (event.Subscribe endpoint.0 subscription.0, subscription.1)

unfoldable pub unsubscribe_at : List ℕ → Option (Event × List ℕ)
unsubscribe_at bytes = do
  endpoint ← name_at bytes
  subscription ← subscription_at endpoint.1
  Some (event.Unsubscribe endpoint.0 subscription.0, subscription.1)

unfoldable pub publish_at : List ℕ → Option (Event × List ℕ)
publish_at bytes = do
  message ← message_at bytes
  Some (event.Publish message.0, message.1)

unfoldable pub bind_at : List ℕ → Option (Event × List ℕ)
bind_at bytes = do
  endpoint ← name_at bytes
  selector ← option_at selector_at endpoint.1
  topic ← option_at subscription_at selector.1
  Some (event.Bind endpoint.0 selector.0 topic.0, topic.1)

unfoldable pub unbind_at : List ℕ → Option (Event × List ℕ)
unbind_at bytes = do
  flow ← counted_at bytes
  Some (event.Unbind flow.0, flow.1)

unfoldable pub pull_at : List ℕ → Option (Event × List ℕ)
pull_at bytes = do
  flow ← counted_at bytes
  count ← number_within_at 1 64 flow.1
  Some (event.Pull flow.0 count.0, count.1)

unfoldable pub settle_at : List ℕ → Option (Event × List ℕ)
settle_at bytes = do
  flow ← counted_at bytes
  copy ← counted_at flow.1
  outcome ← outcome_at copy.1
  Some (event.Settle flow.0 copy.0 outcome.0, outcome.1)

unfoldable pub delete_copies_at : List ℕ → Option (Event × List ℕ)
delete_copies_at bytes = do
  endpoint ← name_at bytes
  copy ← option_at counted_at endpoint.1
  Some (event.DeleteCopies endpoint.0 copy.0, copy.1)

-- the event of a tag, from 1 on
unfoldable pub fields_at : ℕ → List ℕ → Option (Event × List ℕ)
fields_at zero bytes = None
fields_at (suc zero) bytes = provision_at bytes
fields_at (suc (suc zero)) bytes = deprovision_at bytes
fields_at (suc (suc (suc zero))) bytes = change_at bytes
fields_at (suc (suc (suc (suc zero)))) bytes = subscribe_at bytes
fields_at (suc (suc (suc (suc (suc zero))))) bytes = unsubscribe_at bytes
fields_at (suc (suc (suc (suc (suc (suc zero)))))) bytes = publish_at bytes
fields_at (suc (suc (suc (suc (suc (suc (suc zero))))))) bytes = bind_at bytes
fields_at (suc (suc (suc (suc (suc (suc (suc (suc zero)))))))) bytes = unbind_at bytes
fields_at (suc (suc (suc (suc (suc (suc (suc (suc (suc zero))))))))) bytes = pull_at bytes
fields_at (suc (suc (suc (suc (suc (suc (suc (suc (suc (suc zero)))))))))) bytes = settle_at bytes
fields_at (suc (suc (suc (suc (suc (suc (suc (suc (suc (suc (suc zero))))))))))) bytes = Some (event.Tick, bytes)
fields_at (suc (suc (suc (suc (suc (suc (suc (suc (suc (suc (suc (suc zero)))))))))))) bytes = delete_copies_at bytes
fields_at (suc (suc (suc (suc (suc (suc (suc (suc (suc (suc (suc (suc (suc zero))))))))))))) bytes = None
fields_at (suc (suc (suc (suc (suc (suc (suc (suc (suc (suc (suc (suc (suc (suc zero)))))))))))))) bytes = None
fields_at (suc (suc (suc (suc (suc (suc (suc (suc (suc (suc (suc (suc (suc (suc (suc zero))))))))))))))) bytes = None
fields_at (suc (suc (suc (suc (suc (suc (suc (suc (suc (suc (suc (suc (suc (suc (suc (suc zero)))))))))))))))) bytes = None
fields_at (suc (suc (suc (suc (suc (suc (suc (suc (suc (suc (suc (suc (suc (suc (suc (suc (suc zero))))))))))))))))) bytes = Some (event.Restart, bytes)
fields_at (suc (suc (suc (suc (suc (suc (suc (suc (suc (suc (suc (suc (suc (suc (suc (suc (suc (suc n)))))))))))))))))) bytes = None

unfoldable pub event_at : List ℕ → Option (Event × List ℕ)
event_at bytes = do
  tag ← byte_at bytes
  fields_at tag.0 tag.1

-- a text that is a name
unfoldable pub named : List ℕ → Option (List ℕ)
named text = if is_name text then Some text else None

-- one byte of length, and a caller's name
unfoldable pub caller_at : List ℕ → Option (List ℕ × List ℕ)
caller_at bytes = do
  n ← byte_at bytes
  if nat_lt (length n.1) n.0 then None else named (take n.0 n.1) >>= λ name. if is_caller name then Some
      (name, drop n.0 n.1) else None

unfoldable pub unit_at : List ℕ → Option (UnitView × List ℕ)
unit_at bytes = do
  moment ← number_within_at 0 9007199254740991 bytes
  caller ← caller_at moment.1
  events ← list_at event_at caller.1
  if length events.0 == 1 then Some
      (record { moment = moment.0; caller = caller.0; events = events.0 }, events.1) else None

-- the unit that the whole of the bytes is
unfoldable pub whole_unit : List ℕ → Option UnitView
whole_unit bytes = do
  unit ← unit_at bytes
  if length unit.1 == 0 then Some unit.0 else None
