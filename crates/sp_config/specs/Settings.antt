-- The values that a request gives to some attributes of an endpoint.
use Rattle.std.specs.Prelude.{◌&&◌, ℕ, Bool, true, false, not, List, [], ◌∷◌, fold, find, Option, option_map, nat_lt}
use Rattle.std.specs.List.{list_all}
use Rattle.sp_config.specs.declared.attr.Attr.{Attr}
use Rattle.sp_config.specs.declared.attr.Attr.TheVariants as attr
use Rattle.sp_config.specs.declared.kind.EndpointKind.{EndpointKind}
use Rattle.sp_config.specs.declared.kind.EndpointKind.TheVariants.{Queue, TopicEndpoint}
use Rattle.sp_config.specs.declared.setting.Setting.{Setting}
use Rattle.sp_config.specs.declared.value.AttrValue.{AttrValue}
use Rattle.sp_config.specs.declared.value.AttrValue.TheVariants.{Whole}
use Rattle.sp_config.specs.Attributes.{AttributesView}
use Rattle.sp_config.specs.Change.{with_value}
use Rattle.sp_config.specs.Names.{name_of}
use Rattle.sp_config.specs.Ranges.{is_in_range}

-- an attribute's number: its place in the order of names, from 1
abbrev pub number_of : Attr → ℕ
number_of attr.AccessType = 1
number_of attr.DeadMsgQueue = 2
number_of attr.EgressEnabled = 3
number_of attr.IngressEnabled = 4
number_of attr.MaxBindCount = 5
number_of attr.MaxDeliveredUnackedMsgsPerFlow = 6
number_of attr.MaxMsgSize = 7
number_of attr.MaxMsgSpoolUsage = 8
number_of attr.MaxRedeliveryCount = 9
number_of attr.MaxTtl = 10
number_of attr.Owner = 11
number_of attr.PartitionCount = 12
number_of attr.Permission = 13
number_of attr.RejectMsgToSenderOnDiscardBehavior = 14
number_of attr.RespectTtlEnabled = 15

-- each attribute's number is above that of the one before it
abbrev pub rise_above : ℕ → List Setting → Bool
rise_above n [] = true
rise_above n (s ∷ rest) = nat_lt n (number_of s.attr) && rise_above (number_of s.attr) rest

-- each attribute stands once, in the order of names, with a value in its range
abbrev pub are_settings : List Setting → Bool
are_settings settings = list_all (λ s. is_in_range s.attr s.value) settings && rise_above 0 settings

-- the attributes have these values, and all others stay
abbrev pub with_settings : List Setting → AttributesView → AttributesView
with_settings settings a = fold (λ b s. with_value s.attr s.value b) a settings

-- a topic endpoint has no partitions
abbrev pub has_partitions : Attr → AttrValue → Bool
has_partitions attr.PartitionCount (Whole n) = nat_lt 0 n
has_partitions attribute value = false

-- an endpoint of the kind may have the value
abbrev pub is_allowed : EndpointKind → Attr → AttrValue → Bool
is_allowed Queue attribute value = is_in_range attribute value
is_allowed TopicEndpoint attribute value = is_in_range attribute value && not (has_partitions attribute value)

-- the name of the first attribute whose value an endpoint of the kind may not have
abbrev pub bad_attribute : EndpointKind → List Setting → Option (List ℕ)
bad_attribute kind settings = option_map (λ s. name_of s.attr) (find (λ s. not (is_allowed kind s.attr s.value)) settings)
