-- What a reply shows, as a JSON value. The keys stand in the order of their bytes.
use Rattle.std.specs.Prelude.{ℕ, List, Option, codes}
use Rattle.serde_json.specs.Data.{Data, string, object, member, no_members}
use Rattle.sp_copies.specs.declared.closed.Fate.{Fate}
use Rattle.sp_event.specs.declared.answer.PublishedCopy.{PublishedCopy}
use Rattle.sp_event.specs.declared.answer.CopyDetails.{CopyDetails}
use Rattle.sp_event.specs.declared.answer.CopyFate.{CopyFate}
use Rattle.sp_event.specs.declared.answer.Tally.{Tally}
use Rattle.sp_event.specs.declared.answer.Reply.{Reply}
use Rattle.sp_event.specs.declared.answer.Reply.TheVariants as replies
use Rattle.sp_json.specs.Fates.{with_fate}
use Rattle.sp_json.specs.Members.{whole}
use Rattle.sp_json.specs.Told.{copies_data, closed_data, causes_data, with_details}
use Rattle.sp_flowline.specs.FlowReplies.{bind_data, unbind_data, pull_data, settle_data, bound_data}

-- an endpoint that came, and its number
abbrev pub provision_data : List ℕ → ℕ → ℕ → Data
provision_data endpoint n unit = object
    (member (codes "endpoint") (string endpoint)
    (member (codes "number") (whole n)
    (member (codes "ok") (string (codes "provision"))
    (member (codes "unit") (whole unit) no_members))))

-- an endpoint that went or that was changed, by an operation of this word
abbrev pub endpoint_data : List ℕ → List ℕ → ℕ → Data
endpoint_data endpoint op unit = object
    (member (codes "endpoint") (string endpoint)
    (member (codes "ok") (string op)
    (member (codes "unit") (whole unit) no_members)))

abbrev pub publish_data : ℕ → List PublishedCopy → ℕ → Data
publish_data message copies unit = object
    (member (codes "copies") (copies_data copies)
    (member (codes "message") (whole message)
    (member (codes "ok") (string (codes "publish"))
    (member (codes "unit") (whole unit) no_members))))

-- the copies that ended by a tick, in the order in which they did
abbrev pub tick_data : List CopyFate → ℕ → Data
tick_data closed unit = object
    (member (codes "closed") (closed_data closed)
    (member (codes "ok") (string (codes "tick"))
    (member (codes "unit") (whole unit) no_members)))

-- the copies of an endpoint that were deleted
abbrev pub delete_data : List ℕ → List CopyFate → ℕ → Data
delete_data endpoint closed unit = object
    (member (codes "closed") (closed_data closed)
    (member (codes "endpoint") (string endpoint)
    (member (codes "ok") (string (codes "delete"))
    (member (codes "unit") (whole unit) no_members))))

-- all flows are gone
abbrev pub restart_data : ℕ → Data
restart_data unit = object (member (codes "ok") (string (codes "restart")) (member (codes "unit") (whole unit) no_members))

abbrev pub tally_data : Tally → ℕ → Data
tally_data t unit = object
    (member (codes "accepted") (whole t.accepted)
    (member (codes "causes") (causes_data t.causes)
    (member (codes "discarded") (whole t.discarded)
    (member (codes "made") (whole t.made)
    (member (codes "moved") (whole t.moved)
    (member (codes "ok") (string (codes "tally"))
    (member (codes "spooled") (whole t.spooled)
    (member (codes "unit") (whole unit)
    (member (codes "used") (whole t.used) no_members)))))))))

-- what has become of a copy
abbrev pub copy_data : ℕ → Fate → Option CopyDetails → ℕ → Data
copy_data copy fate details unit = object (with_fate fate (with_details details
    (member (codes "copy") (whole copy)
    (member (codes "ok") (string (codes "copy"))
    (member (codes "unit") (whole unit) no_members)))))

-- a reply at a number of units
abbrev pub reply_data : Reply → ℕ → Data
reply_data (replies.Provision endpoint n) unit = provision_data endpoint n unit
reply_data (replies.Deprovision endpoint) unit = endpoint_data endpoint (codes "deprovision") unit
reply_data (replies.Change endpoint) unit = endpoint_data endpoint (codes "change") unit
reply_data (replies.Subscribe endpoint) unit = endpoint_data endpoint (codes "subscribe") unit
reply_data (replies.Unsubscribe endpoint) unit = endpoint_data endpoint (codes "unsubscribe") unit
reply_data (replies.Publish message copies) unit = publish_data message copies unit
reply_data (replies.Bind endpoint flow discarded) unit = bind_data endpoint flow discarded unit
reply_data (replies.Unbind flow closed returned) unit = unbind_data flow closed returned unit
reply_data (replies.Pull flow deliveries) unit = pull_data flow deliveries unit
reply_data (replies.Settle copy fate) unit = settle_data copy fate unit
reply_data (replies.Tick closed) unit = tick_data closed unit
reply_data (replies.DeleteCopies endpoint closed) unit = delete_data endpoint closed unit
reply_data replies.Restart unit = restart_data unit
reply_data (replies.Tally tally) unit = tally_data tally unit
reply_data (replies.Copy copy fate details) unit = copy_data copy fate details unit
reply_data (replies.Flows endpoint flows) unit = bound_data endpoint flows unit
