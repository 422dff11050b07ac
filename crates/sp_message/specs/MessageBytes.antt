-- The bytes of a message. Texts, numbers, truth values and lists are as everywhere.
use Rattle.std.specs.Str.{is_utf8}
use Rattle.std.specs.Prelude.{◌≡◌, ◌≤◌, ◌++◌, ◌&&◌, ℕ, zero, suc, Bool, true, List, [], ◌∷◌, length, nat_le, Option, Some, None}
use Rattle.std.specs.Int.{w64, w128, cast_unsigned, cast_signed}
use Rattle.std.specs.Option.{is_none}
use Rattle.sp_base.specs.Name.{is_name}
use Rattle.sp_base.specs.Topic.{topic_fault}
use Rattle.sp_message.specs.declared.message.Dest.{Dest}
use Rattle.sp_message.specs.declared.message.Dest.TheVariants.{Topic, Queue}
use Rattle.sp_message.specs.declared.message.Message.{Message}
use Rattle.sp_message.specs.declared.property.Property.{Property}
use Rattle.sp_message.specs.declared.value.Value.{Value}
use Rattle.sp_message.specs.declared.value.Value.TheVariants as variant
use Rattle.sp_message.specs.Encoding.{list_bytes, number_bytes, text_bytes, truth_bytes, wide_bytes}
use Rattle.sp_message.specs.Property.{are_properties}

-- 0 and the text of a topic, or 1 and the name of a queue
abbrev pub destination_bytes : Dest → List ℕ
destination_bytes (Topic topic) = 0 ∷ text_bytes topic
destination_bytes (Queue name) = 1 ∷ text_bytes name

-- 0 and a whole number in 8 bytes, 1 and a fixed one in 16, both in two's complement; 2 and a text; 3 and a truth value
abbrev pub value_bytes : Value → List ℕ
value_bytes (variant.Whole z) = 0 ∷ number_bytes (cast_unsigned w64 z)
value_bytes (variant.Fixed z) = 1 ∷ wide_bytes (cast_unsigned w128 z)
value_bytes (variant.Text text) = 2 ∷ text_bytes text
value_bytes (variant.Bool truth) = 3 ∷ truth_bytes truth

-- the text of the name, and the value
abbrev pub property_bytes : Property → List ℕ
property_bytes p = text_bytes p.name ++ value_bytes p.value

-- the destination, the payload, the time to live, whether it is eligible, and the properties
abbrev pub message_bytes : Message → List ℕ
message_bytes m =
    destination_bytes m.dest ++ text_bytes m.payload ++ number_bytes m.ttl ++ truth_bytes m.eligible
    ++ list_bytes property_bytes m.properties

-- a topic by the rule for topics, or a name by the rule for names
abbrev pub is_destination : Dest → Bool
is_destination (Topic topic) = is_none (topic_fault topic)
is_destination (Queue name) = is_name name

abbrev pub is_payload : List ℕ → Bool
is_payload payload = nat_le (length payload) 8388608

-- each part keeps its rule; the properties rise strictly by name
pub record KeepsRules (m : Message) : Type 0 where
  pub destination : is_destination m.dest ≡ true
  pub payload : is_payload m.payload ≡ true
  pub ttl : m.ttl ≤ 4294967295000
  pub properties : are_properties m.properties ≡ true

-- the bytes are those of a message that keeps the rules
abbrev pub IsMessage : List ℕ → Message → Type 0
IsMessage bytes m = KeepsRules m × (bytes ≡ message_bytes m)
