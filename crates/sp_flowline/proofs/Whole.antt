-- Lines have whole numbers alone.
use Rattle.std.proofs.Common.{◌≡◌, ℕ, false, codes, refl}
use Rattle.serde_json.specs.Data.{string, Members, no_members, member, put}
use Rattle.serde_json.specs.Written.{has_float}
use Rattle.sp_base.specs.declared.refusal.Refusal.{Refusal}
use Rattle.sp_base.specs.Refusal.{number_of, rule_name}
use Rattle.sp_event.specs.declared.answer.Reply.{Reply}
use Rattle.sp_event.specs.declared.answer.Reply.TheVariants as replies
use Rattle.sp_event.specs.declared.answer.Answered.{Answered}
use Rattle.sp_event.specs.declared.answer.Answered.TheVariants.{Gave, Refused, Memory, Disk, Full}
use Rattle.sp_json.specs.Members.{whole}
use Rattle.sp_json.specs.Refusals.{shown_members}
use Rattle.sp_json.specs.Told.{with_details}
use Rattle.sp_json.proofs.Whole.{put_whole, fated, copies, closed, deliveries, causes, detailed, shown, flows}
use Rattle.sp_flowline.specs.Answers.{refusal_data, answer_data}
use Rattle.sp_flowline.specs.Replies.{reply_data}

reply : (r : Reply) (unit : ℕ) → has_float (reply_data r unit) ≡ false
reply (replies.Provision endpoint n) unit = refl
reply (replies.Deprovision endpoint) unit = refl
reply (replies.Change endpoint) unit = refl
reply (replies.Subscribe endpoint) unit = refl
reply (replies.Unsubscribe endpoint) unit = refl
reply (replies.Publish message cs) unit = rw (copies cs)
reply (replies.Bind endpoint flow discarded) unit = refl
reply (replies.Unbind flow cs returned) unit = rw (closed cs)
reply (replies.Pull flow ds) unit = rw (deliveries ds)
reply (replies.Settle c fate) unit =
    fated fate (member (codes "copy") (whole c)
    (member (codes "ok") (string (codes "settle")) (member (codes "unit") (whole unit) no_members))) refl
reply (replies.Tick cs) unit = rw (closed cs)
reply (replies.DeleteCopies endpoint cs) unit = rw (closed cs)
reply replies.Restart unit = refl
reply (replies.Tally t) unit = rw (causes t.causes no_members refl)
reply (replies.Flows endpoint fs) unit = rw (flows fs)
reply (replies.Copy c fate details) unit =
    fated fate (with_details details (asked c unit)) (detailed details (asked c unit) refl)
  where
    asked : ℕ → ℕ → Members
    asked n u =
        member (codes "copy") (whole n)
        (member (codes "ok") (string (codes "copy")) (member (codes "unit") (whole u) no_members))

refusal : (r : Refusal) → has_float (refusal_data r) ≡ false
refusal r =
    let rule : Members = put (codes "rule") (string (rule_name r)) (shown_members r) in
    put_whole (codes "no") (whole (number_of r)) rule refl
    (put_whole (codes "rule") (string (rule_name r)) (shown_members r) refl (shown r))

pub answer_is_whole : (a : Answered) (unit : ℕ) → has_float (answer_data a unit) ≡ false
answer_is_whole (Gave r) unit = reply r unit
answer_is_whole (Refused r index) unit = rw (refusal r)
answer_is_whole Memory unit = refl
answer_is_whole Disk unit = refl
answer_is_whole (Full len need most) unit = refl
