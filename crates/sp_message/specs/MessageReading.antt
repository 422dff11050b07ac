-- How a message is read from the front of bytes.
use Rattle.std.specs.Str.{is_utf8}
use Rattle.std.specs.Prelude.{◌≡◌, ℕ, zero, suc, List, [], ◌∷◌, Option, Some, None}
use Rattle.std.specs.Int.{w64, w128, cast_signed}
use Rattle.std.specs.Option.{is_none}
use Rattle.sp_base.specs.Name.{is_name}
use Rattle.sp_base.specs.Topic.{topic_fault}
use Rattle.sp_message.specs.declared.message.Dest.{Dest}
use Rattle.sp_message.specs.declared.message.Dest.TheVariants.{Topic, Queue}
use Rattle.sp_message.specs.declared.message.Message.{Message}
use Rattle.sp_message.specs.declared.property.Property.{Property}
use Rattle.sp_message.specs.declared.value.Value.{Value}
use Rattle.sp_message.specs.declared.value.Value.TheVariants as variant
use Rattle.sp_message.specs.Decoding.{◌>>=◌, list_at, number_at, number_within_at, tested, text_that_at, truth_at, wide_at}
use Rattle.sp_message.specs.MessageBytes.{is_payload}
use Rattle.sp_message.specs.Property.{are_properties, is_property}
use Rattle.sp_message.specs.Value.{is_in_range}

unfoldable pub topic_at : List ℕ → Option (List ℕ × List ℕ)
topic_at bytes = text_that_at (λ text. is_none (topic_fault text)) bytes

unfoldable pub name_at : List ℕ → Option (List ℕ × List ℕ)
name_at bytes = text_that_at is_name bytes

unfoldable pub utf8_at : List ℕ → Option (List ℕ × List ℕ)
utf8_at bytes = text_that_at is_utf8 bytes

unfoldable pub destination_at : List ℕ → Option (Dest × List ℕ)
destination_at [] = None
destination_at (zero ∷ bytes) = do
  topic ← topic_at bytes
  Some (Topic topic.0, topic.1)
destination_at (suc zero ∷ bytes) = do
  name ← name_at bytes
  Some (Queue name.0, name.1)
destination_at (suc (suc b) ∷ bytes) = None

unfoldable pub whole_at : List ℕ → Option (Value × List ℕ)
whole_at bytes = do
  n ← number_at w64 bytes
  Some (variant.Whole (cast_signed w64 n.0), n.1)

-- a fixed number is within its range from the start
unfoldable pub fixed_at : List ℕ → Option (Value × List ℕ)
fixed_at bytes = do
  n ← wide_at bytes
  tested is_in_range (variant.Fixed (cast_signed w128 n.0), n.1)

unfoldable pub value_at : List ℕ → Option (Value × List ℕ)
value_at [] = None
value_at (zero ∷ bytes) = whole_at bytes
value_at (suc zero ∷ bytes) = fixed_at bytes
value_at (suc (suc zero) ∷ bytes) = do
  text ← utf8_at bytes
  Some (variant.Text text.0, text.1)
value_at (suc (suc (suc zero)) ∷ bytes) = do
  truth ← truth_at bytes
  Some (variant.Bool truth.0, truth.1)
value_at (suc (suc (suc (suc b))) ∷ bytes) = None

unfoldable pub property_at : List ℕ → Option (Property × List ℕ)
property_at bytes = do
  name ← utf8_at bytes
  value ← value_at name.1
  tested is_property (record { name = name.0; value = value.0 }, value.1)

unfoldable pub properties_at : List ℕ → Option (List Property × List ℕ)
properties_at bytes = do
  properties ← list_at property_at bytes
  tested are_properties properties

unfoldable pub message_at : List ℕ → Option (Message × List ℕ)
message_at bytes = do
  dest ← destination_at bytes
  payload ← text_that_at is_payload dest.1
  ttl ← number_within_at 0 4294967295000 payload.1
  eligible ← truth_at ttl.1
  properties ← properties_at eligible.1
  Some (record { dest = dest.0; payload = payload.0; ttl = ttl.0; eligible = eligible.0; properties = properties.0 }, properties.1)
