-- The attributes of an endpoint and their names.
use Rattle.std.specs.Prelude.{ℕ, List, [], ◌∷◌, Option, codes}
use Rattle.sp_base.specs.Choice.{choice_named}
use Rattle.sp_config.specs.declared.attr.Attr.{Attr}
use Rattle.sp_config.specs.declared.attr.Attr.TheVariants as attr

-- the name of an attribute
abbrev pub name_of : Attr → List ℕ
name_of attr.AccessType = codes "accessType"
name_of attr.DeadMsgQueue = codes "deadMsgQueue"
name_of attr.EgressEnabled = codes "egressEnabled"
name_of attr.IngressEnabled = codes "ingressEnabled"
name_of attr.MaxBindCount = codes "maxBindCount"
name_of attr.MaxDeliveredUnackedMsgsPerFlow = codes "maxDeliveredUnackedMsgsPerFlow"
name_of attr.MaxMsgSize = codes "maxMsgSize"
name_of attr.MaxMsgSpoolUsage = codes "maxMsgSpoolUsage"
name_of attr.MaxRedeliveryCount = codes "maxRedeliveryCount"
name_of attr.MaxTtl = codes "maxTtl"
name_of attr.Owner = codes "owner"
name_of attr.PartitionCount = codes "partitionCount"
name_of attr.Permission = codes "permission"
name_of attr.RejectMsgToSenderOnDiscardBehavior = codes "rejectMsgToSenderOnDiscardBehavior"
name_of attr.RespectTtlEnabled = codes "respectTtlEnabled"

-- all attributes, in the order of their names
abbrev pub all_attrs : List Attr
all_attrs =
    attr.AccessType ∷ attr.DeadMsgQueue ∷ attr.EgressEnabled ∷ attr.IngressEnabled ∷ attr.MaxBindCount ∷
    attr.MaxDeliveredUnackedMsgsPerFlow ∷ attr.MaxMsgSize ∷ attr.MaxMsgSpoolUsage ∷ attr.MaxRedeliveryCount ∷ attr.MaxTtl ∷
    attr.Owner ∷ attr.PartitionCount ∷ attr.Permission ∷ attr.RejectMsgToSenderOnDiscardBehavior ∷ attr.RespectTtlEnabled ∷ []

-- the attribute of a name
abbrev pub attr_named : List ℕ → Option Attr
attr_named name = choice_named name_of all_attrs name
