-- What a copy of a message counts against a quota.
use Rattle.std.specs.Prelude.{ℕ, ◌+◌, List, length}
use Rattle.sp_message.specs.declared.message.Message.{Message}
use Rattle.sp_message.specs.declared.message.Dest.{Dest}
use Rattle.sp_message.specs.declared.message.Dest.TheVariants.{Topic, Queue}
use Rattle.sp_message.specs.Property.{properties_size}

-- the bytes of the destination's text
abbrev pub dest_bytes : Dest → List ℕ
dest_bytes (Topic topic) = topic
dest_bytes (Queue name) = name

-- 64 bytes, and those of the destination, the payload and the properties
abbrev pub size_of : Message → ℕ
size_of m = 64 + length (dest_bytes m.dest) + length m.payload + properties_size m.properties
