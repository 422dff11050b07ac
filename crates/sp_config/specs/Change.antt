-- What a change of one attribute leaves.
use Rattle.std.specs.Prelude.{Some, slice_get, unwrap_or}
use Rattle.sp_config.specs.declared.attr.Attr.{Attr}
use Rattle.sp_config.specs.declared.attr.Attr.TheVariants as attr
use Rattle.sp_config.specs.declared.value.AttrValue.{AttrValue}
use Rattle.sp_config.specs.declared.value.AttrValue.TheVariants.{Whole, Flag, Word, Text}
use Rattle.sp_config.specs.Attributes.{AttributesView}
use Rattle.sp_base.specs.Words.{permissions}
use Rattle.sp_config.specs.Choices.{access_types, behaviors}

-- the attribute is the value, and all others stay; a value of another kind changes nothing
unfoldable pub with_value : Attr → AttrValue → AttributesView → AttributesView
with_value attr.AccessType (Word place) a = record a { access_type = unwrap_or (slice_get access_types place) a.access_type }
with_value attr.DeadMsgQueue (Text (Some name)) a = record a { dead_msg_queue = name }
with_value attr.EgressEnabled (Flag b) a = record a { egress_enabled = b }
with_value attr.IngressEnabled (Flag b) a = record a { ingress_enabled = b }
with_value attr.MaxBindCount (Whole n) a = record a { max_bind_count = n }
with_value attr.MaxDeliveredUnackedMsgsPerFlow (Whole n) a = record a { max_delivered_unacked_msgs_per_flow = n }
with_value attr.MaxMsgSize (Whole n) a = record a { max_msg_size = n }
with_value attr.MaxMsgSpoolUsage (Whole n) a = record a { max_msg_spool_usage = n }
with_value attr.MaxRedeliveryCount (Whole n) a = record a { max_redelivery_count = n }
with_value attr.MaxTtl (Whole n) a = record a { max_ttl = n }
with_value attr.Owner (Text name) a = record a { owner = name }
with_value attr.PartitionCount (Whole n) a = record a { partition_count = n }
with_value attr.Permission (Word place) a = record a { permission = unwrap_or (slice_get permissions place) a.permission }
with_value attr.RejectMsgToSenderOnDiscardBehavior (Word place) a = record a { reject_msg_to_sender_on_discard_behavior = unwrap_or (slice_get behaviors place) a.reject_msg_to_sender_on_discard_behavior }
with_value attr.RespectTtlEnabled (Flag b) a = record a { respect_ttl_enabled = b }
with_value attribute value a = a
