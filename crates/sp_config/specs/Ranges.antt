-- Which values the attributes may have.
use Rattle.std.specs.Prelude.{◌&&◌, Bool, true, false, Some, nat_le, nat_lt}
use Rattle.sp_config.specs.declared.attr.Attr.{Attr}
use Rattle.sp_config.specs.declared.attr.Attr.TheVariants as attr
use Rattle.sp_config.specs.declared.range.Range.{Range}
use Rattle.sp_config.specs.declared.range.Range.TheVariants.{Between, TrueOrFalse, OneOf, SomeName, NameOrEmpty}
use Rattle.sp_config.specs.declared.value.AttrValue.{AttrValue}
use Rattle.sp_config.specs.declared.value.AttrValue.TheVariants.{Whole, Flag, Word, Text}

-- the range of each attribute
abbrev pub range_of : Attr → Range
range_of attr.AccessType = OneOf 2
range_of attr.DeadMsgQueue = SomeName
range_of attr.EgressEnabled = TrueOrFalse
range_of attr.IngressEnabled = TrueOrFalse
range_of attr.MaxBindCount = Between 0 10000
range_of attr.MaxDeliveredUnackedMsgsPerFlow = Between 1 10000
range_of attr.MaxMsgSize = Between 0 30000000
range_of attr.MaxMsgSpoolUsage = Between 1 800000
range_of attr.MaxRedeliveryCount = Between 0 255
range_of attr.MaxTtl = Between 0 4294967295
range_of attr.Owner = NameOrEmpty
range_of attr.PartitionCount = Between 0 64
range_of attr.Permission = OneOf 5
range_of attr.RejectMsgToSenderOnDiscardBehavior = OneOf 3
range_of attr.RespectTtlEnabled = TrueOrFalse

-- the value is of the range's kind, and within its bounds
abbrev pub is_within : Range → AttrValue → Bool
is_within (Between least most) (Whole n) = nat_le least n && nat_le n most
is_within TrueOrFalse (Flag b) = true
is_within (OneOf words) (Word place) = nat_lt place words
is_within SomeName (Text (Some name)) = true
is_within NameOrEmpty (Text name) = true
is_within range value = false

-- the attribute may have the value
abbrev pub is_in_range : Attr → AttrValue → Bool
is_in_range attribute value = is_within (range_of attribute) value
