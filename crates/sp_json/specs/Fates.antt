-- What a reply shows of a copy's fate.
use Rattle.std.specs.Prelude.{ℕ, List, codes}
use Rattle.serde_json.specs.Data.{string, Members, put}
use Rattle.sp_copies.specs.declared.closed.Cause.{Cause}
use Rattle.sp_copies.specs.declared.closed.Cause.TheVariants as causes
use Rattle.sp_copies.specs.declared.closed.Fate.{Fate}
use Rattle.sp_copies.specs.declared.closed.Fate.TheVariants.{Never, Spooled, Accepted, Moved, Discarded, Earlier}
use Rattle.sp_json.specs.Members.{whole}

abbrev pub cause_word : Cause → List ℕ
cause_word causes.NotSpooled = codes "NotSpooled"
cause_word causes.Expired = codes "Expired"
cause_word causes.RedeliveryExceeded = codes "RedeliveryExceeded"
cause_word causes.Rejected = codes "Rejected"
cause_word causes.DmqMissing = codes "DmqMissing"
cause_word causes.DmqSelf = codes "DmqSelf"
cause_word causes.DmqDisabled = codes "DmqDisabled"
cause_word causes.DmqQuota = codes "DmqQuota"
cause_word causes.TopicChanged = codes "TopicChanged"
cause_word causes.Deleted = codes "Deleted"

abbrev pub fate_word : Fate → List ℕ
fate_word Never = codes "never"
fate_word Spooled = codes "spooled"
fate_word Accepted = codes "accepted"
fate_word (Moved to) = codes "moved"
fate_word (Discarded cause) = codes "discarded"
fate_word Earlier = codes "earlier"

-- fields with what belongs to a fate: where a copy was moved to, why it was discarded
abbrev pub with_end : Fate → Members → Members
with_end (Moved to) ms = put (codes "to") (whole to) ms
with_end (Discarded cause) ms = put (codes "cause") (string (cause_word cause)) ms
with_end _ ms = ms

-- fields with a fate
abbrev pub with_fate : Fate → Members → Members
with_fate fate ms = with_end fate (put (codes "fate") (string (fate_word fate)) ms)
