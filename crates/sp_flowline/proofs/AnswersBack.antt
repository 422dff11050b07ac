-- Each answer is told by its line, but for the place of a refused event.
use Rattle.std.proofs.Common.{◌≡◌, ◌∙◌, ℕ, Bool, true, false, List, [], ◌∷◌, Option, Some, None, refl, sym, ap, ap₂}
use Rattle.std.proofs.Common.{codes}
use Rattle.std.specs.Prelude.{map, bytes_eq, if◌then◌else◌}
use Rattle.std.specs.Option.{unwrap_or}
use Rattle.std.specs.Str.{is_utf8}
use Rattle.std.proofs.lemmas.List.{append_cancel_right}
use Rattle.serde_json.specs.Data.{Data, string, object, Members, member, no_members, put}
use Rattle.sp_base.specs.declared.refusal.Refusal.{Refusal}
use Rattle.sp_copies.specs.declared.closed.Cause.{Cause}
use Rattle.sp_copies.specs.declared.closed.CauseCount.{CauseCount}
use Rattle.sp_copies.specs.declared.closed.Fate.{Fate}
use Rattle.sp_copies.specs.declared.closed.Fate.TheVariants.{Never, Spooled, Accepted, Moved, Discarded, Earlier}
use Rattle.sp_event.specs.declared.answer.Answered.{Answered}
use Rattle.sp_event.specs.declared.answer.Answered.TheVariants.{Gave, Refused, Memory, Disk, Full}
use Rattle.sp_event.specs.declared.answer.BoundFlow.{BoundFlow}
use Rattle.sp_event.specs.declared.answer.CopyDetails.{CopyDetails}
use Rattle.sp_event.specs.declared.answer.CopyFate.{CopyFate}
use Rattle.sp_event.specs.declared.answer.Delivery.{Delivery}
use Rattle.sp_event.specs.declared.answer.PublishedCopy.{PublishedCopy}
use Rattle.sp_event.specs.declared.answer.Reply.{Reply}
use Rattle.sp_event.specs.declared.answer.Reply.TheVariants as replies
use Rattle.sp_event.specs.declared.answer.Tally.{Tally}
use Rattle.sp_message.specs.declared.message.Dest.{Dest}
use Rattle.sp_message.specs.declared.message.Dest.TheVariants.{Topic, Queue}
use Rattle.sp_json.specs.Deliveries.{with_destination, delivery_data}
use Rattle.sp_json.specs.Flows.{flow_data}
use Rattle.sp_json.specs.Members.{whole}
use Rattle.sp_json.specs.Payloads.{AreBytes, base64_of, from_base64}
use Rattle.sp_json.specs.Told.{told_data, fate_data}
use Rattle.sp_json.specs.Properties.{properties_from, properties_members}
use Rattle.sp_message.specs.Property.{are_properties}
use Rattle.sp_message.specs.declared.property.Property.{Property}
use Rattle.sp_json.proofs.PayloadLemmas.{base64_back}
use Rattle.sp_json.proofs.PropertiesBack.{properties_back}
use Rattle.sp_flowline.specs.Answers.{answer_data}
use Rattle.sp_flowline.specs.Distinct.{IsTellable, without_index, LinesTellAnswers}
use Rattle.sp_flowline.proofs.CopiesBack.{each_back, every_back, cause_back, fate_of, published_of, published_back}
use Rattle.sp_flowline.proofs.CopiesBack.{ended_of, ended_back, counts_of, counts_back}
use Rattle.sp_flowline.proofs.MembersBack.{has, truth, num, text, fields, inner, many}
use Rattle.sp_flowline.proofs.RefusalsBack.{refusal_of, refusal_back}
use Rattle.sp_flowline.proofs.TextBack.{one_data}

-- ---- deliveries

abbrev delivery : ℕ → ℕ → ℕ → Dest → List ℕ → List Property → Delivery
delivery attempt copy message dest payload properties =
    record {
      attempt = attempt;
      copy = copy;
      message = message;
      dest = dest;
      payload = payload;
      properties = properties;
    }

abbrev dest_of : Members → Dest
dest_of ms = if has (codes "topic") ms then Topic (text (codes "topic") ms) else Queue (text (codes "queue") ms)

abbrev payload_of : Members → List ℕ
payload_of ms =
    if has (codes "payload") ms then text (codes "payload") ms
    else unwrap_or (from_base64 (text (codes "payload64") ms)) []

abbrev properties_of : Members → List Property
properties_of ms = unwrap_or (properties_from (object (inner (codes "properties") ms))) []

abbrev delivered : Members → Delivery
delivered ms =
    delivery (num (codes "attempt") ms) (num (codes "copy") ms) (num (codes "message") ms) (dest_of ms) (payload_of ms)
    (properties_of ms)

abbrev delivery_of : Data → Delivery
delivery_of d = delivered (fields d)

abbrev base : ℕ → ℕ → ℕ → List Property → Members
base attempt copy message properties =
    member (codes "attempt") (whole attempt)
    (member (codes "copy") (whole copy)
    (member (codes "message") (whole message)
    (member (codes "properties") (object (properties_members properties)) no_members)))

abbrev shown : Bool → List ℕ → Members → Members
shown is_text bytes ms =
    if is_text then put (codes "payload") (string bytes) ms else put (codes "payload64") (string (base64_of bytes)) ms

by_form : (attempt copy message : ℕ) (dest : Dest) (payload : List ℕ) (ps : List Property) (is_text : Bool)
    → AreBytes payload → are_properties ps ≡ true
    → delivered (shown is_text payload (with_destination dest (base attempt copy message ps)))
    ≡ delivery attempt copy message dest payload ps
by_form attempt copy message (Topic topic) payload ps true h k =
    ap (λ (o : Option (List Property)). delivery attempt copy message (Topic topic) payload (unwrap_or o []))
    (properties_back ps k)
by_form attempt copy message (Queue name) payload ps true h k =
    ap (λ (o : Option (List Property)). delivery attempt copy message (Queue name) payload (unwrap_or o []))
    (properties_back ps k)
by_form attempt copy message (Topic topic) payload ps false h k =
    ap₂ (λ (o : Option (List ℕ)) (q : Option (List Property)). delivery attempt copy message (Topic topic)
    (unwrap_or o []) (unwrap_or q [])) (base64_back payload h) (properties_back ps k)
by_form attempt copy message (Queue name) payload ps false h k =
    ap₂ (λ (o : Option (List ℕ)) (q : Option (List Property)). delivery attempt copy message (Queue name)
    (unwrap_or o []) (unwrap_or q [])) (base64_back payload h) (properties_back ps k)

delivery_back : (d : Delivery) → AreBytes d.payload × (are_properties d.properties ≡ true)
    → delivery_of (delivery_data d) ≡ d
delivery_back d h = by_form d.attempt d.copy d.message d.dest d.payload d.properties (is_utf8 d.payload) h.0 h.1

-- ---- flows that are bound

abbrev bound_of : Data → BoundFlow
bound_of d = record {
  flow = num (codes "flow") (fields d);
  caller = text (codes "caller") (fields d);
  held = num (codes "held") (fields d);
  active = truth (codes "active") (fields d);
}

bound_back : (f : BoundFlow) → bound_of (flow_data f) ≡ f
bound_back f = refl

-- ---- replies

abbrev tally : ℕ → List CauseCount → ℕ → ℕ → ℕ → ℕ → ℕ → Tally
tally accepted causes discarded made moved spooled used =
    record {
      accepted = accepted;
      causes = causes;
      discarded = discarded;
      made = made;
      moved = moved;
      spooled = spooled;
      used = used;
    }

abbrev tally_of : Members → Tally
tally_of ms =
    tally (num (codes "accepted") ms) (counts_of (inner (codes "causes") ms)) (num (codes "discarded") ms)
    (num (codes "made") ms) (num (codes "moved") ms) (num (codes "spooled") ms) (num (codes "used") ms)

abbrev deliveries_of : Members → List Delivery
deliveries_of ms = map delivery_of (many (codes "deliveries") ms)

abbrev copies_of : Members → List PublishedCopy
copies_of ms = map published_of (many (codes "copies") ms)

abbrev ends_of : Members → List CopyFate
ends_of ms = map ended_of (many (codes "closed") ms)

abbrev flows_of : Members → List BoundFlow
flows_of ms = map bound_of (many (codes "flows") ms)

abbrev details : ℕ → ℕ → ℕ → CopyDetails
details endpoint message attempts = record { endpoint = endpoint; message = message; attempts = attempts }

abbrev details_of : Members → Option CopyDetails
details_of ms =
    if has (codes "attempts") ms
    then Some (details (num (codes "endpoint") ms) (num (codes "message") ms) (num (codes "attempts") ms))
    else None

abbrev copy_reply : List ℕ → Members → Reply
copy_reply word ms =
    if bytes_eq word (codes "tick") then replies.Tick (ends_of ms) else
    (if bytes_eq word (codes "delete") then replies.DeleteCopies (text (codes "endpoint") ms) (ends_of ms) else
    (if bytes_eq word (codes "restart") then replies.Restart else
    (if bytes_eq word (codes "tally") then replies.Tally (tally_of ms) else
    (if bytes_eq word (codes "flows") then replies.Flows (text (codes "endpoint") ms) (flows_of ms) else
    replies.Copy (num (codes "copy") ms) (fate_of ms) (details_of ms)))))

abbrev flow_reply : List ℕ → Members → Reply
flow_reply word ms =
    if bytes_eq word (codes "bind")
    then replies.Bind (text (codes "endpoint") ms) (num (codes "flow") ms) (num (codes "discarded") ms) else
    (if bytes_eq word (codes "unbind")
    then replies.Unbind (num (codes "flow") ms) (ends_of ms) (num (codes "returned") ms) else
    (if bytes_eq word (codes "pull") then replies.Pull (num (codes "flow") ms) (deliveries_of ms) else
    (if bytes_eq word (codes "settle") then replies.Settle (num (codes "copy") ms) (fate_of ms) else
    copy_reply word ms)))

abbrev reply_of : List ℕ → Members → Reply
reply_of word ms =
    if bytes_eq word (codes "provision")
    then replies.Provision (text (codes "endpoint") ms) (num (codes "number") ms) else
    (if bytes_eq word (codes "deprovision") then replies.Deprovision (text (codes "endpoint") ms) else
    (if bytes_eq word (codes "change") then replies.Change (text (codes "endpoint") ms) else
    (if bytes_eq word (codes "subscribe") then replies.Subscribe (text (codes "endpoint") ms) else
    (if bytes_eq word (codes "unsubscribe") then replies.Unsubscribe (text (codes "endpoint") ms) else
    (if bytes_eq word (codes "publish") then replies.Publish (num (codes "message") ms) (copies_of ms) else
    flow_reply word ms)))))

abbrev answer_in : Members → Answered
answer_in ms =
    if has (codes "ok") ms then Gave (reply_of (text (codes "ok") ms) ms) else
    (if has (codes "refused") ms then Refused (refusal_of (inner (codes "refused") ms)) None else
    (if has (codes "memory") ms then Memory else
    (if has (codes "fault") ms then Disk else
    Full (num (codes "len") (inner (codes "full") ms)) (num (codes "need") (inner (codes "full") ms))
    (num (codes "max") (inner (codes "full") ms)))))

abbrev answer_of : Data → Answered
answer_of d = answer_in (fields d)

settled : (copy : ℕ) (fate : Fate) (unit : ℕ)
    → answer_of (answer_data (Gave (replies.Settle copy fate)) unit) ≡ Gave (replies.Settle copy fate)
settled copy Never unit = refl
settled copy Spooled unit = refl
settled copy Accepted unit = refl
settled copy (Moved to) unit = refl
settled copy (Discarded cause) unit = ap (λ (c : Cause). Gave (replies.Settle copy (Discarded c))) (cause_back cause)
settled copy Earlier unit = refl

copied : (copy : ℕ) (fate : Fate) (told : Option CopyDetails) (unit : ℕ)
    → answer_of (answer_data (Gave (replies.Copy copy fate told)) unit) ≡ Gave (replies.Copy copy fate told)
copied copy Never None unit = refl
copied copy Spooled None unit = refl
copied copy Accepted None unit = refl
copied copy (Moved to) None unit = refl
copied copy (Discarded cause) None unit =
    ap (λ (c : Cause). Gave (replies.Copy copy (Discarded c) None)) (cause_back cause)
copied copy Earlier None unit = refl
copied copy Never (Some told) unit = refl
copied copy Spooled (Some told) unit = refl
copied copy Accepted (Some told) unit = refl
copied copy (Moved to) (Some told) unit = refl
copied copy (Discarded cause) (Some told) unit =
    ap (λ (c : Cause). Gave (replies.Copy copy (Discarded c) (Some told))) (cause_back cause)
copied copy Earlier (Some told) unit = refl

answer_back : (a : Answered) (unit : ℕ) → IsTellable a → answer_of (answer_data a unit) ≡ without_index a
answer_back (Gave (replies.Provision endpoint n)) unit h = refl
answer_back (Gave (replies.Deprovision endpoint)) unit h = refl
answer_back (Gave (replies.Change endpoint)) unit h = refl
answer_back (Gave (replies.Subscribe endpoint)) unit h = refl
answer_back (Gave (replies.Unsubscribe endpoint)) unit h = refl
answer_back (Gave (replies.Publish message copies)) unit h =
    ap (λ (cs : List PublishedCopy). Gave (replies.Publish message cs))
    (every_back told_data published_of published_back copies)
answer_back (Gave (replies.Bind endpoint flow discarded)) unit h = refl
answer_back (Gave (replies.Unbind flow closed returned)) unit h =
    ap (λ (cs : List CopyFate). Gave (replies.Unbind flow cs returned))
    (every_back fate_data ended_of ended_back closed)
answer_back (Gave (replies.Pull flow deliveries)) unit h =
    ap (λ (ds : List Delivery). Gave (replies.Pull flow ds))
    (each_back delivery_data delivery_of (λ d. AreBytes d.payload × (are_properties d.properties ≡ true))
    delivery_back deliveries h)
answer_back (Gave (replies.Settle copy fate)) unit h = settled copy fate unit
answer_back (Gave (replies.Tick closed)) unit h =
    ap (λ (cs : List CopyFate). Gave (replies.Tick cs)) (every_back fate_data ended_of ended_back closed)
answer_back (Gave (replies.DeleteCopies endpoint closed)) unit h =
    ap (λ (cs : List CopyFate). Gave (replies.DeleteCopies endpoint cs))
    (every_back fate_data ended_of ended_back closed)
answer_back (Gave replies.Restart) unit h = refl
answer_back (Gave (replies.Tally t)) unit h =
    ap (λ (cs : List CauseCount).
    Gave (replies.Tally (tally t.accepted cs t.discarded t.made t.moved t.spooled t.used)))
    (counts_back t.causes h)
answer_back (Gave (replies.Copy copy fate told)) unit h = copied copy fate told unit
answer_back (Gave (replies.Flows endpoint flows)) unit h =
    ap (λ (fs : List BoundFlow). Gave (replies.Flows endpoint fs)) (every_back flow_data bound_of bound_back flows)
answer_back (Refused refusal index) unit h = ap (λ (r : Refusal). Refused r None) (refusal_back refusal)
answer_back Memory unit h = refl
answer_back Disk unit h = refl
answer_back (Full len need most) unit h = refl

pub lines_tell : LinesTellAnswers
lines_tell a b m n h k w v same =
    let one = one_data (answer_data a m) (answer_data b n) w v (append_cancel_right _ _ (10 ∷ []) same) in
    sym (answer_back a m h) ∙ ap answer_of one ∙ answer_back b n k
