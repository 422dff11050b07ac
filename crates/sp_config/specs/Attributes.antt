-- The values that an endpoint's attributes have.
use Rattle.std.specs.Prelude.{◌≡◌, ◌*◌, ◌&&◌, ℕ, Bool, true, false, not, nat_lt, List, Option, Some, codes}
use Rattle.sp_base.specs.declared.refusal.Permission.{Permission}
use Rattle.sp_base.specs.declared.refusal.Permission.TheVariants.{NoAccess}
use Rattle.sp_config.specs.declared.access_type.AccessType.{AccessType}
use Rattle.sp_config.specs.declared.access_type.AccessType.TheVariants.{Exclusive, NonExclusive}
use Rattle.sp_config.specs.declared.attr.Attr.TheVariants as attr
use Rattle.sp_config.specs.declared.discard.DiscardBehavior.{DiscardBehavior}
use Rattle.sp_config.specs.declared.discard.DiscardBehavior.TheVariants.{Always}
use Rattle.sp_config.specs.declared.value.AttrValue.TheVariants.{Whole}
use Rattle.sp_config.specs.Ranges.{is_in_range}

-- the value of each attribute; the owner is none where it is empty
pub record AttributesView : Type 0 where
  pub access_type : AccessType
  pub dead_msg_queue : List ℕ
  pub egress_enabled : Bool
  pub ingress_enabled : Bool
  pub max_bind_count : ℕ
  pub max_delivered_unacked_msgs_per_flow : ℕ
  pub max_msg_size : ℕ
  pub max_msg_spool_usage : ℕ
  pub max_redelivery_count : ℕ
  pub max_ttl : ℕ
  pub owner : Option (List ℕ)
  pub partition_count : ℕ
  pub permission : Permission
  pub reject_msg_to_sender_on_discard_behavior : DiscardBehavior
  pub respect_ttl_enabled : Bool

-- the defaults of an endpoint that this caller makes
abbrev pub defaults : List ℕ → AttributesView
defaults owner = record {
  access_type = NonExclusive;
  dead_msg_queue = codes "#DEAD_MSG_QUEUE";
  egress_enabled = true;
  ingress_enabled = true;
  max_bind_count = 1000;
  max_delivered_unacked_msgs_per_flow = 1000;
  max_msg_size = 10000000;
  max_msg_spool_usage = 5000;
  max_redelivery_count = 0;
  max_ttl = 0;
  owner = Some owner;
  partition_count = 0;
  permission = NoAccess;
  reject_msg_to_sender_on_discard_behavior = Always;
  respect_ttl_enabled = false;
}

-- each whole number is in the range of its attribute
pub record AreInRange (a : AttributesView) : Type 0 where
  pub max_bind_count : is_in_range attr.MaxBindCount (Whole a.max_bind_count) ≡ true
  pub max_delivered_unacked_msgs_per_flow : is_in_range attr.MaxDeliveredUnackedMsgsPerFlow (Whole a.max_delivered_unacked_msgs_per_flow) ≡ true
  pub max_msg_size : is_in_range attr.MaxMsgSize (Whole a.max_msg_size) ≡ true
  pub max_msg_spool_usage : is_in_range attr.MaxMsgSpoolUsage (Whole a.max_msg_spool_usage) ≡ true
  pub max_redelivery_count : is_in_range attr.MaxRedeliveryCount (Whole a.max_redelivery_count) ≡ true
  pub max_ttl : is_in_range attr.MaxTtl (Whole a.max_ttl) ≡ true
  pub partition_count : is_in_range attr.PartitionCount (Whole a.partition_count) ≡ true

-- whether one flow at a time is handed out copies
abbrev pub is_exclusive : AccessType → Bool
is_exclusive Exclusive = true
is_exclusive NonExclusive = false

-- whether copies are spread over partitions, of which each is handed out to one flow at a time
abbrev pub is_partitioned : AttributesView → Bool
is_partitioned a = not (is_exclusive a.access_type) && nat_lt 0 a.partition_count

-- the quota in bytes, of which the attribute has units of 1,048,576
abbrev pub quota_of : AttributesView → ℕ
quota_of a = 1048576 * a.max_msg_spool_usage
