-- What is shown has whole numbers alone.
use Rattle.std.proofs.Common.{◌≡◌, ℕ, Bool, List, [], ◌∷◌, map, fold, false, true, ◌||◌, Option, Some, None}
use Rattle.std.proofs.Common.{if◌then◌else◌, codes, refl, ap, ◌∙◌}
use Rattle.std.specs.Prelude.{pos, negsuc}
use Rattle.std.specs.Ordering.{nat_cmp, match_ordering}
use Rattle.std.specs.Str.{is_utf8}
use Rattle.std.specs.declared.cmp.Ordering.{Ordering}
use Rattle.std.specs.declared.cmp.Ordering.TheVariants.{Less, Equal, Greater}
use Rattle.std.specs.Cmp.Lexicographic.{slice_cmp}
use Rattle.serde_json.specs.Data.{Data, string, object, Members, no_members, member, put}
use Rattle.serde_json.specs.View.{items_of}
use Rattle.serde_json.specs.Written.{has_float, items_have_float, members_have_float}
use Rattle.sp_base.specs.declared.refusal.Refusal.{Refusal}
use Rattle.sp_base.specs.declared.refusal.shown.ShownValue.{ShownValue}
use Rattle.sp_base.specs.declared.refusal.shown.ShownValue.TheVariants.{Number, Text, Permission, Kind}
use Rattle.sp_base.specs.Refusal.{shown_of}
use Rattle.sp_base.specs.Shown.{ShownAs}
use Rattle.sp_message.specs.declared.message.Dest.TheVariants.{Topic, Queue}
use Rattle.sp_message.specs.declared.message.Dest.{Dest}
use Rattle.sp_copies.specs.declared.closed.CauseCount.{CauseCount}
use Rattle.sp_copies.specs.declared.closed.Fate.{Fate}
use Rattle.sp_copies.specs.declared.closed.Fate.TheVariants as fates
use Rattle.sp_event.specs.declared.answer.BoundFlow.{BoundFlow}
use Rattle.sp_event.specs.declared.answer.CopyDetails.{CopyDetails}
use Rattle.sp_event.specs.declared.answer.CopyFate.{CopyFate}
use Rattle.sp_event.specs.declared.answer.Delivery.{Delivery}
use Rattle.sp_event.specs.declared.answer.PublishedCopy.{PublishedCopy}
use Rattle.sp_json.specs.Deliveries.{with_destination, delivery_data}
use Rattle.sp_json.specs.Flows.{flow_data}
use Rattle.sp_json.specs.Fates.{cause_word, fate_word, with_end, with_fate}
use Rattle.sp_json.specs.Members.{whole}
use Rattle.sp_json.specs.Payloads.{base64_of, with_payload}
use Rattle.sp_json.specs.Properties.{properties_members, value_data}
use Rattle.sp_message.specs.declared.property.Property.{Property}
use Rattle.sp_message.specs.declared.value.Value.{Value}
use Rattle.sp_message.specs.declared.value.Value.TheVariants as values
use Rattle.sp_json.specs.Refusals.{shown_data, with_shown, shown_members}
use Rattle.sp_json.specs.Told.{told_data, fate_data, with_cause, with_details}

-- fields without a float stay so with one more
pub put_whole : (key : List ℕ) (d : Data) (ms : Members) → has_float d ≡ false → members_have_float ms ≡ false
    → members_have_float (put key d ms) ≡ false
put_whole key d no_members w h = rw w refl
put_whole key d (member l e ms) w h = placed (put_whole key d ms w (later (has_float e) h)) (slice_cmp nat_cmp key l)
  where
    first : (b : Bool) → (b || members_have_float ms) ≡ false → b ≡ false
    first false k = refl
    first true k = k

    later : (b : Bool) → (b || members_have_float ms) ≡ false → members_have_float ms ≡ false
    later false k = k
    later true k = absurd (cc)

    placed : members_have_float (put key d ms) ≡ false → (o : Ordering)
        → members_have_float (match_ordering o (member key d (member l e ms)) (member l d ms)
        (member l e (put key d ms))) ≡ false
    placed rest Less = ap (λ (b : Bool). b || members_have_float (member l e ms)) w ∙ h
    placed rest Equal = ap (λ (b : Bool). b || members_have_float ms) w ∙ later (has_float e) h
    placed rest Greater = ap (λ (b : Bool). b || members_have_float (put key d ms)) (first (has_float e) h) ∙ rest

ended : (fate : Fate) (ms : Members) → members_have_float ms ≡ false → members_have_float (with_end fate ms) ≡ false
ended fates.Never ms h = h
ended fates.Spooled ms h = h
ended fates.Accepted ms h = h
ended (fates.Moved to) ms h = put_whole _ (whole to) ms refl h
ended (fates.Discarded cause) ms h = put_whole _ (string (cause_word cause)) ms refl h
ended fates.Earlier ms h = h

pub fated : (fate : Fate) (ms : Members) → members_have_float ms ≡ false
    → members_have_float (with_fate fate ms) ≡ false
fated fate ms h =
    ended fate (put (codes "fate") (string (fate_word fate)) ms)
    (put_whole (codes "fate") (string (fate_word fate)) ms refl h)

told : (c : PublishedCopy) → has_float (told_data c) ≡ false
told c =
    fated c.fate (member (codes "copy") (whole c.copy) (member (codes "endpoint") (string c.endpoint) no_members)) refl

pub copies : (cs : List PublishedCopy) → items_have_float (items_of (map told_data cs)) ≡ false
copies [] = refl
copies (c ∷ cs) = ap (λ (b : Bool). b || items_have_float (items_of (map told_data cs))) (told c) ∙ copies cs

ended_copy : (c : CopyFate) → has_float (fate_data c) ≡ false
ended_copy c = fated c.fate (member (codes "copy") (whole c.copy) no_members) refl

pub closed : (cs : List CopyFate) → items_have_float (items_of (map fate_data cs)) ≡ false
closed [] = refl
closed (c ∷ cs) = ap (λ (b : Bool). b || items_have_float (items_of (map fate_data cs))) (ended_copy c) ∙ closed cs

paid : (bytes : List ℕ) (ms : Members) → members_have_float ms ≡ false
    → members_have_float (with_payload bytes ms) ≡ false
paid bytes ms h = shown (is_utf8 bytes)
  where
    shown : (b : Bool) → members_have_float
        (if b then put (codes "payload") (string bytes) ms else put (codes "payload64") (string (base64_of bytes)) ms)
        ≡ false
    shown true = put_whole (codes "payload") (string bytes) ms refl h
    shown false = put_whole (codes "payload64") (string (base64_of bytes)) ms refl h

sent : (dest : Dest) (ms : Members) → members_have_float ms ≡ false
    → members_have_float (with_destination dest ms) ≡ false
sent (Topic topic) ms h = put_whole (codes "topic") (string topic) ms refl h
sent (Queue name) ms h = put_whole (codes "queue") (string name) ms refl h

valued : (v : Value) → has_float (value_data v) ≡ false
valued (values.Whole (pos n)) = refl
valued (values.Whole (negsuc n)) = refl
valued (values.Fixed z) = refl
valued (values.Text text) = refl
valued (values.Bool truth) = refl

named : (ps : List Property) → members_have_float (properties_members ps) ≡ false
named [] = refl
named (p ∷ ps) = ap (λ (b : Bool). b || members_have_float (properties_members ps)) (valued p.value) ∙ named ps

delivered : (d : Delivery) → has_float (delivery_data d) ≡ false
delivered d =
    let ms : Members = member (codes "attempt") (whole d.attempt)
    (member (codes "copy") (whole d.copy)
    (member (codes "message") (whole d.message)
    (member (codes "properties") (object (properties_members d.properties)) no_members))) in
    paid d.payload (with_destination d.dest ms) (sent d.dest ms (ap (λ (b : Bool). b || false) (named d.properties)))

pub deliveries : (ds : List Delivery) → items_have_float (items_of (map delivery_data ds)) ≡ false
deliveries [] = refl
deliveries (d ∷ ds) =
    ap (λ (b : Bool). b || items_have_float (items_of (map delivery_data ds))) (delivered d) ∙ deliveries ds

pub flows : (fs : List BoundFlow) → items_have_float (items_of (map flow_data fs)) ≡ false
flows [] = refl
flows (f ∷ fs) = flows fs

pub causes : (ks : List CauseCount) (ms : Members) → members_have_float ms ≡ false
    → members_have_float (fold with_cause ms ks) ≡ false
causes [] ms h = h
causes (k ∷ ks) ms h = causes ks (with_cause ms k) (put_whole _ (whole k.count) ms refl h)

pub detailed : (details : Option CopyDetails) (ms : Members) → members_have_float ms ≡ false
    → members_have_float (with_details details ms) ≡ false
detailed None ms h = h
detailed (Some d) ms h = third (second (put_whole (codes "message") (whole d.message) ms refl h))
  where
    second : members_have_float (put (codes "message") (whole d.message) ms) ≡ false
        → members_have_float (put (codes "endpoint") (whole d.endpoint) (put (codes "message") (whole d.message) ms))
        ≡ false
    second = put_whole (codes "endpoint") (whole d.endpoint) (put (codes "message") (whole d.message) ms) refl

    third : members_have_float (put (codes "endpoint") (whole d.endpoint) (put (codes "message") (whole d.message) ms))
        ≡ false → members_have_float (with_details (Some d) ms) ≡ false
    third =
        put_whole (codes "attempts") (whole d.attempts)
        (put (codes "endpoint") (whole d.endpoint) (put (codes "message") (whole d.message) ms)) refl

shown_value : (v : ShownValue) → has_float (shown_data v) ≡ false
shown_value (Number n) = refl
shown_value (Text text) = refl
shown_value (Permission p) = refl
shown_value (Kind k) = refl

shown_values : (vs : List ShownAs) (ms : Members) → members_have_float ms ≡ false
    → members_have_float (fold with_shown ms vs) ≡ false
shown_values [] ms h = h
shown_values (v ∷ vs) ms h =
    shown_values vs (with_shown ms v) (put_whole v.name (shown_data v.value) ms (shown_value v.value) h)

pub shown : (r : Refusal) → members_have_float (shown_members r) ≡ false
shown r = shown_values (shown_of r) no_members refl
