-- Which partition of a queue a message belongs to.
use Rattle.std.specs.Prelude.{ℕ, ◌*◌, ◌^◌, ◌%◌, List, Option, Some, None, bit_xor, codes}
use Rattle.std.specs.List.{fold}
use Rattle.std.specs.Option.{option_and_then}
use Rattle.sp_message.specs.Property.{value_under}
use Rattle.sp_message.specs.declared.message.Message.{Message}
use Rattle.sp_message.specs.declared.property.Property.{Property}
use Rattle.sp_message.specs.declared.value.Value.{Value}
use Rattle.sp_message.specs.declared.value.Value.TheVariants.{Whole, Fixed, Text, Bool}

-- the 64-bit FNV-1a hash: from the offset basis on, each byte is joined by exclusive-or, and then the value is
-- multiplied by the prime and wrapped
abbrev pub offset_basis : ℕ
offset_basis = 14695981039346656037

abbrev pub hash_byte : ℕ → ℕ → ℕ
hash_byte hash b = bit_xor hash b * 1099511628211 % 2 ^ 64

abbrev pub hash_of : List ℕ → ℕ
hash_of bytes = fold hash_byte offset_basis bytes

-- a value that is a text
abbrev pub text_of : Value → Option (List ℕ)
text_of (Whole z) = None
text_of (Fixed z) = None
text_of (Text text) = Some text
text_of (Bool truth) = None

-- the group that a message belongs to, where a text property names one
abbrev pub group_of : List Property → Option (List ℕ)
group_of properties = option_and_then text_of (value_under (codes "JMSXGroupID") properties)

-- the partition of so many: by the hash of the group, and without one by the message's number
abbrev pub partition_by : Option (List ℕ) → ℕ → ℕ → ℕ
partition_by None number count = number % count
partition_by (Some group) number count = hash_of group % count

abbrev pub partition_of : Message → ℕ → ℕ → ℕ
partition_of m number count = partition_by (group_of m.properties) number count
