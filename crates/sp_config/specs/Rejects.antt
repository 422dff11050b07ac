-- When an endpoint that can't spool a message rejects the publish.
use Rattle.std.specs.Prelude.{Bool, true, false}
use Rattle.sp_config.specs.declared.discard.Why.{Why}
use Rattle.sp_config.specs.declared.discard.Why.TheVariants.{Ingress, Size, Quota}
use Rattle.sp_config.specs.declared.discard.DiscardBehavior.{DiscardBehavior}
use Rattle.sp_config.specs.declared.discard.DiscardBehavior.TheVariants.{Always, WhenQueueEnabled, Never}

-- always for any reason, when the queue is enabled for the size and the quota, never for none
abbrev pub rejects_for : DiscardBehavior → Why → Bool
rejects_for Always why = true
rejects_for WhenQueueEnabled Ingress = false
rejects_for WhenQueueEnabled Size = true
rejects_for WhenQueueEnabled Quota = true
rejects_for Never why = false
