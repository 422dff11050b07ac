-- What contracts see of attributes, and what holds of them.
use Rattle.sp_config.specs.declared.attributes.Attributes.TheInside.{Inside}
use Rattle.sp_config.specs.Attributes.{AttributesView, AreInRange}

abbrev pub view_of : Inside → AttributesView
view_of a = record {
  access_type = a.access_type;
  dead_msg_queue = a.dead_msg_queue;
  egress_enabled = a.egress_enabled;
  ingress_enabled = a.ingress_enabled;
  max_bind_count = a.max_bind_count;
  max_delivered_unacked_msgs_per_flow = a.max_delivered_unacked_msgs_per_flow;
  max_msg_size = a.max_msg_size;
  max_msg_spool_usage = a.max_msg_spool_usage;
  max_redelivery_count = a.max_redelivery_count;
  max_ttl = a.max_ttl;
  owner = a.owner;
  partition_count = a.partition_count;
  permission = a.permission;
  reject_msg_to_sender_on_discard_behavior = a.reject_msg_to_sender_on_discard_behavior;
  respect_ttl_enabled = a.respect_ttl_enabled;
}

-- each whole number is in its range
abbrev pub KeepsRanges : Inside → Type 0
KeepsRanges a = AreInRange (view_of a)
