-- What replies tell of copies is so.
use Rattle.sp_access.specs.Flows.{flow_of}
use Rattle.sp_access.specs.Flow.{FlowView}
use Rattle.sp_base.specs.declared.refusal.Refusal.{Refusal}
use Rattle.sp_base.specs.declared.refusal.Refusal.TheVariants.{NotHeld, UnknownEndpoint, UnknownFlow}
use Rattle.sp_copies.specs.History.{History, closed_as, closing_of, fate_of, held_copy, is_closed, is_free, is_held_by}
use Rattle.sp_copies.specs.History.{is_made, is_spooled, numbered, told_closing, with_closed, with_made}
use Rattle.sp_copies.specs.declared.closed.Cause.TheVariants.{DmqMissing}
use Rattle.sp_copies.specs.declared.closed.ClosedCopy.{ClosedCopy}
use Rattle.sp_copies.specs.declared.closed.Closing.{Closing}
use Rattle.sp_copies.specs.declared.closed.Closing.TheVariants as closings
use Rattle.sp_copies.specs.declared.closed.Fate.{Fate}
use Rattle.sp_copies.specs.declared.closed.Fate.TheVariants as fates
use Rattle.sp_copies.specs.declared.made.MadeCopy.{MadeCopy}
use Rattle.sp_copies.specs.declared.made.NewCopy.{NewCopy}
use Rattle.sp_endpoint.specs.Endpoint.{EndpointView}
use Rattle.sp_endpoint.specs.Endpoints.{named, queue_named, numbered as endpoint_numbered}
use Rattle.sp_endpoint.specs.Takers.{takers}
use Rattle.sp_event.specs.declared.answer.CopyFate.{CopyFate}
use Rattle.sp_event.specs.declared.answer.Delivery.{Delivery}
use Rattle.sp_event.specs.declared.answer.PublishedCopy.{PublishedCopy}
use Rattle.sp_event.specs.declared.answer.Reply.{Reply}
use Rattle.sp_event.specs.declared.answer.Reply.TheVariants as replies
use Rattle.sp_event.specs.declared.request.Event.{Event}
use Rattle.sp_event.specs.declared.request.Event.TheVariants as events
use Rattle.sp_event.specs.declared.request.Outcome.{Outcome}
use Rattle.sp_event.specs.declared.request.Outcome.TheVariants as outcomes
use Rattle.sp_ledger.proofs.Closings.{still_closing}
use Rattle.sp_ledger.proofs.CopiesKept.{kept_of}
use Rattle.sp_ledger.proofs.Decided.{OnPassed, passed_on_found, passed_unless, passed_weaker, where_accepted}
use Rattle.sp_ledger.proofs.Decided.{where_idle}
use Rattle.sp_ledger.proofs.EachKind.{begun_sound}
use Rattle.sp_ledger.proofs.Growth.{changes_extend, shares_extend, still_made}
use Rattle.sp_ledger.proofs.HandedOut.{pulled_free}
use Rattle.sp_ledger.proofs.Listed.{All-both, and_left, and_right, any_grows, any_last, find_passes, not_true}
use Rattle.sp_ledger.proofs.Moving.{no_closing}
use Rattle.sp_ledger.proofs.Shared.{later_open}
use Rattle.sp_ledger.proofs.OneByOne.{changed_append}
use Rattle.sp_ledger.proofs.Steps.{deletions_allowed, given_back_allowed, held_may, tick_allowed}
use Rattle.sp_ledger.proofs.Tallies.{fate_holds, fate_in_holds}
use Rattle.sp_ledger.specs.Allowed.{AreAllowed, IsAllowed}
use Rattle.sp_ledger.specs.Changes.{Change, all_changed, all_shared, becomes, binds, changed, closes, comes, ends}
use Rattle.sp_ledger.specs.Changes.{frees, goes, goes_on, holds, logs, moves, publishes, repeats, starts, unbinds, unbinds_all}
use Rattle.sp_ledger.specs.Endings.{all_told, closed_by, dead_queue, end_by, ended_as, ending, fate_by, has_had_last}
use Rattle.sp_ledger.specs.Endings.{moved_copy}
use Rattle.sp_ledger.specs.Events.{outcome, step}
use Rattle.sp_ledger.specs.Ledger.{Ledger, Published, message_of}
use Rattle.sp_ledger.specs.Limits.{spent}
use Rattle.sp_ledger.specs.OnCopies.{deletions, expiries}
use Rattle.sp_ledger.specs.OnFlows.{all_given_back, bind, delivered, deliveries, given_back, outdated, pull, pulled, rebound, settle}
use Rattle.sp_ledger.specs.OnFlows.{settling, topic_check, unbind}
use Rattle.sp_ledger.specs.Publish.{publish, share_for, told_copies}
use Rattle.sp_ledger.specs.Sound.{IsSound}
use Rattle.sp_ledger.specs.Step.{Check, Step, accepted, begun, does, idle, on_found}
use Rattle.sp_ledger.specs.Told.{Extends, FateHolds, IsTold, ShowsFates, TellsFates, fate_in, told_fates}
use Rattle.sp_message.specs.declared.message.Message.{Message}
use Rattle.std.proofs.Common.{ap, arith, refl, subst, sym, ◌∙◌}
use Rattle.sp_settle.specs.declared.questions.Ending.{Ending}
use Rattle.sp_settle.specs.declared.questions.Ending.TheVariants.{Discard, Move}
use Rattle.sp_settle.specs.declared.questions.Reason.TheVariants as reasons
use Rattle.sp_settle.specs.declared.questions.Reason.TheVariants.{RedeliveryExceeded}
use Rattle.std.proofs.lemmas.Bool.{eq-eqb, eqb-true}
use Rattle.std.proofs.lemmas.List.Elements.{All-cons, All-head, All-map, All-nil, All-tail, All-weaker}
use Rattle.std.specs.List.{cons_option}
use Rattle.std.specs.Prelude.{All, Bool, List, None, Option, Some, [], cond, false, filter_map, find, length, map}
use Rattle.std.specs.Prelude.{option_map, true, ℕ, ◌≤◌, ◌++◌, ◌+◌, ◌<◌, ◌==◌, ◌||◌, ◌∷◌, ◌≡◌}

-- what holds of each value that comes of an element
All-mapped : {X Y : Type 0} (h : X → Option Y) (P : Y → Type 0) (xs : List X) →
    All (λ x. (y : Y) → h x ≡ Some y → P y) xs → All P (filter_map h xs)
All-mapped h P [] all = All-nil P
All-mapped {X} {Y} h P (x ∷ xs) all =
    one (All-mapped h P xs (All-tail (λ (z : X). (y : Y) → h z ≡ Some y → P y) x xs all)) (h x) refl
  where
    one : All P (filter_map h xs) → (found : Option Y) → h x ≡ found → All P (cons_option found (filter_map h xs))
    one later None is = later
    one later (Some y) is =
        All-cons P y (filter_map h xs) (All-head (λ (z : X). (w : Y) → h z ≡ Some w → P w) x xs all y is) later

-- a delivery tells of the copy that it was made for
delivery_copy : (L : Ledger) (c : MadeCopy) (d : Delivery) →
    option_map (delivered L c) (message_of L.messages c.message) ≡ Some d → d.copy ≡ c.number
delivery_copy L c d e = one (message_of L.messages c.message) e
  where
    one : (found : Option Published) → option_map (delivered L c) found ≡ Some d → d.copy ≡ c.number
    one None k = absurd (cc)
    one (Some m) k = let same : delivered L c m ≡ d = cc in ap (λ (x : Delivery). x.copy) (sym same)

-- what holds of each copy that is handed out holds of each delivery's
delivered_all : (P : ℕ → Type 0) (L : Ledger) (cs : List MadeCopy) → All (λ c. P c.number) cs →
    All (λ d. P d.copy) (deliveries L cs)
delivered_all P L cs all =
    All-mapped {X = MadeCopy} {Y = Delivery} (λ c. option_map (delivered L c) (message_of L.messages c.message))
    (λ d. P d.copy) cs
    (All-weaker (λ (c : MadeCopy). P c.number)
    (λ (c : MadeCopy). (d : Delivery) → option_map (delivered L c) (message_of L.messages c.message) ≡ Some d →
    P d.copy)
    (λ c here d e. subst P (sym (delivery_copy L c d e)) here) cs all)

-- a copy that wasn't closed before has the closing that it gets
closing_last : (closed : List ClosedCopy) (x : ClosedCopy) → is_closed closed x.copy ≡ false →
    closing_of (closed ++ x ∷ []) x.copy ≡ Some x.how
closing_last [] x h =
    ap (λ b. option_map (λ (y : ClosedCopy). y.how) (cond b (Some x) None)) (eq-eqb x.copy x.copy refl)
closing_last (y ∷ ys) x h = one (closing_last ys x) (y.copy == x.copy) h
  where
    one : (is_closed ys x.copy ≡ false → closing_of (ys ++ x ∷ []) x.copy ≡ Some x.how) → (b : Bool) →
        (b || is_closed ys x.copy) ≡ false →
        option_map (λ (z : ClosedCopy). z.how)
        (cond b (Some y) (find (λ (z : ClosedCopy). z.copy == x.copy) (ys ++ x ∷ []))) ≡ Some x.how
    one later true k = absurd (cc)
    one later false k = later k

abbrev Rows : List MadeCopy → List ClosedCopy → ℕ → Fate
Rows made closed copy = cond (is_made made copy) (told_closing 0 (closing_of closed copy)) fates.Never

-- a copy that was made and not closed is spooled
is_spooled_so : (made : List MadeCopy) (closed : List ClosedCopy) (copy : ℕ) → is_made made copy ≡ true →
    is_closed closed copy ≡ false → Rows made closed copy ≡ fates.Spooled
is_spooled_so made closed copy is_here open_here =
    ap (λ b. cond b (told_closing 0 (closing_of closed copy)) fates.Never) is_here
    ∙ ap (told_closing 0) (no_closing closed copy open_here)

-- a copy was made, and closed as it is told
pub record IsClosedSo (H : History) (t : CopyFate) : Type 0 where
  pub made : is_made H.made t.copy ≡ true
  pub closing : (how : Closing) × (closing_of H.closed t.copy ≡ Some how) × (closed_as how ≡ t.fate)

closed_so : (H : History) (t : CopyFate) → IsClosedSo H t → fate_in H t.copy ≡ t.fate
closed_so H t is =
    ap (λ b. cond b (told_closing 0 (closing_of H.closed t.copy)) fates.Never) is.made
    ∙ (ap (told_closing 0) is.closing.1 ∙ is.closing.2)

-- it stays so
still_closed_so : (K M : Ledger) → Extends K M → (t : CopyFate) → IsClosedSo K.copies t → IsClosedSo M.copies t
still_closed_so K M more t is = record {
  made = still_made K M more t.copy is.made;
  closing = (
    is.closing.0,
    subst (λ xs. closing_of xs t.copy ≡ Some is.closing.0) (sym more.closed.1)
        (still_closing K.copies.closed more.closed.0 t.copy is.closing.0 is.closing.1),
    is.closing.2,
  );
}

-- what closes an open copy closes it so
closes_so : (K : Ledger) (copy : ℕ) (how : Closing) → is_spooled K.copies copy ≡ true →
    IsClosedSo (with_closed copy how K.now K.copies) (record { copy = copy; fate = closed_as how })
closes_so K copy how spooled = record {
  made = and_left (is_made K.copies.made copy) _ spooled;
  closing = (
    how,
    closing_last K.copies.closed (record { copy = copy; how = how; moment = K.now })
        (not_true (is_closed K.copies.closed copy) (and_right (is_made K.copies.made copy) _ spooled)),
    refl,
  );
}

moves_so : (K : Ledger) (copy : ℕ) (new : NewCopy) → is_spooled K.copies copy ≡ true →
    IsClosedSo (changed (moves copy new) K).copies (record { copy = copy; fate = fates.Moved K.copies.next })
moves_so K copy new spooled =
    let closed = closes_so K copy (closings.Moved K.copies.next) spooled in
    record {
      made = any_grows {X = MadeCopy} (λ c. c.number == copy) K.copies.made _ closed.made;
      closing = closed.closing;
    }

-- the copy that an allowed change closes
change_so : (c : Change) (K : Ledger) → IsAllowed c K → (t : CopyFate) → closed_by c K ≡ Some t →
    IsClosedSo (changed c K).copies t
change_so (closes copy how) K may t e =
    subst (IsClosedSo (with_closed copy how K.now K.copies)) (let same : record { copy = copy; fate = closed_as how } ≡ t = cc in same) (closes_so K copy how may.0)
change_so (moves copy new) K may t e =
    subst (IsClosedSo (changed (moves copy new) K).copies) (let same : record { copy = copy; fate = fates.Moved K.copies.next } ≡ t = cc in same) (moves_so K copy new may.spooled)
change_so (comes e1) K may t e = absurd (cc)
change_so (goes endpoint) K may t e = absurd (cc)
change_so (becomes e1) K may t e = absurd (cc)
change_so (publishes m shares) K may t e = absurd (cc)
change_so (logs log) K may t e = absurd (cc)
change_so (repeats c) K may t e = absurd (cc)
change_so (holds copy flow) K may t e = absurd (cc)
change_so (frees copy) K may t e = absurd (cc)
change_so (binds f) K may t e = absurd (cc)
change_so (unbinds flow) K may t e = absurd (cc)
change_so unbinds_all K may t e = absurd (cc)
change_so (starts r) K may t e = absurd (cc)
change_so (goes_on r) K may t e = absurd (cc)
change_so (ends replay) K may t e = absurd (cc)

-- each copy that is told of allowed changes was closed so
pub all_told_so : (cs : List Change) (K : Ledger) → AreAllowed cs K →
    All (IsClosedSo (all_changed cs K).copies) (all_told cs K)
all_told_so [] K may = All-nil (IsClosedSo K.copies)
all_told_so (c ∷ cs) K may =
    one (all_told_so cs (changed c K) may.1) (closed_by c K) refl
  where
    one : All (IsClosedSo (all_changed cs (changed c K)).copies) (all_told cs (changed c K)) →
        (first : Option CopyFate) → closed_by c K ≡ first →
        All (IsClosedSo (all_changed cs (changed c K)).copies) (cons_option first (all_told cs (changed c K)))
    one later None is = later
    one later (Some t) is =
        All-cons (IsClosedSo (all_changed cs (changed c K)).copies) t (all_told cs (changed c K))
        (still_closed_so (changed c K) (all_changed cs (changed c K)) (changes_extend cs (changed c K)) t
        (change_so c K may.0 t is)) later

-- what is told of allowed changes is so
changes_tell : (cs : List Change) (K : Ledger) → AreAllowed cs K →
    All (λ t. fate_in (all_changed cs K).copies t.copy ≡ t.fate) (all_told cs K)
changes_tell cs K may =
    All-weaker (IsClosedSo (all_changed cs K).copies) (λ (t : CopyFate). fate_in (all_changed cs K).copies t.copy ≡ t.fate)
    (closed_so (all_changed cs K).copies) (all_told cs K) (all_told_so cs K may)

-- a copy that ends is closed as it is told
ended_so : (e : Ending) (queue : Option EndpointView) (K : Ledger) (c : MadeCopy) → is_spooled K.copies c.number ≡ true →
    fate_in (changed (ended_as e c K queue) K).copies c.number ≡ fate_by (ended_as e c K queue) K
ended_so (Discard cause) queue K c spooled =
    closed_so _ _ (closes_so K c.number (closings.Discarded cause) spooled)
ended_so Move None K c spooled = closed_so _ _ (closes_so K c.number (closings.Discarded DmqMissing) spooled)
ended_so Move (Some queue) K c spooled = closed_so _ _ (moves_so K c.number (moved_copy K c queue) spooled)

-- and one that is settled is what it is told to be
settled_so : (outcome : Outcome) (K : Ledger) (c : MadeCopy) → is_spooled K.copies c.number ≡ true →
    fate_in (changed (settling outcome c K) K).copies c.number ≡ fate_by (settling outcome c K) K
settled_so outcomes.Accepted K c spooled = closed_so _ _ (closes_so K c.number closings.Accepted spooled)
settled_so outcomes.Failed K c spooled = one (has_had_last K c)
  where
    one : (b : Bool) →
        fate_in (changed (cond b (ending RedeliveryExceeded c K) (frees c.number)) K).copies c.number ≡ fate_by (cond b (ending RedeliveryExceeded c K) (frees c.number)) K
    one true = ended_so (end_by RedeliveryExceeded c K) (dead_queue K c) K c spooled
    one false = is_spooled_so K.copies.made K.copies.closed c.number (and_left (is_made K.copies.made c.number) _ spooled)
        (not_true (is_closed K.copies.closed c.number) (and_right (is_made K.copies.made c.number) _ spooled))
settled_so outcomes.Rejected K c spooled = ended_so (end_by reasons.Rejected c K) (dead_queue K c) K c spooled

-- the copies of a message are made, under the next number and later ones
shares_made : (moment : ℕ) (m : Message) (message at : ℕ) (es : List EndpointView) (L : Ledger) →
    All (λ t. is_made (all_shared moment (map (share_for m message at) es) L.copies).made t.copy ≡ true)
    (told_copies L.copies.next es)
shares_made moment m message at [] L = All-nil (λ (t : PublishedCopy). is_made L.copies.made t.copy ≡ true)
shares_made moment m message at (e ∷ es) L =
    let c = (share_for m message at e).copy in
    let K : Ledger = record L { copies = with_made c L.copies } in
    let shares = map (share_for m message at) es in
    All-cons (λ (t : PublishedCopy). is_made (all_shared moment shares K.copies).made t.copy ≡ true) _
    (told_copies (L.copies.next + 1) es)
    (still_made K (record K { copies = all_shared moment shares K.copies }) (shares_extend moment shares K)
    L.copies.next (any_last {X = MadeCopy} (λ d. d.number == L.copies.next) L.copies.made
    (numbered L.copies.next c) (eq-eqb L.copies.next L.copies.next refl)))
    (shares_made moment m message at es K)

told_later : (least number : ℕ) → least ≤ number → (es : List EndpointView) →
    All (λ t. least ≤ t.copy) (told_copies number es)
told_later least number le [] = All-nil (λ (t : PublishedCopy). least ≤ t.copy)
told_later least number le (e ∷ es) =
    All-cons (λ (t : PublishedCopy). least ≤ t.copy) _ (told_copies (number + 1) es) le
    (told_later least (number + 1) (omega (arith, le)) es)

shares_close_none : (moment : ℕ) (m : Message) (message at : ℕ) (es : List EndpointView) (H : History) →
    (all_shared moment (map (share_for m message at) es) H).closed ≡ H.closed
shares_close_none moment m message at [] H = refl
shares_close_none moment m message at (e ∷ es) H =
    shares_close_none moment m message at es (with_made (share_for m message at e).copy H)

-- what is handed out stays made, and is not closed
holds_make_none : (flow : ℕ) (cs : List MadeCopy) (K : Ledger) →
    (all_changed (map (λ c. holds c.number flow) cs) K).copies.made ≡ K.copies.made
holds_make_none flow [] K = refl
holds_make_none flow (c ∷ cs) K = holds_make_none flow cs (changed (holds c.number flow) K)

holds_close_none : (flow : ℕ) (cs : List MadeCopy) (K : Ledger) →
    (all_changed (map (λ c. holds c.number flow) cs) K).copies.closed ≡ K.copies.closed
holds_close_none flow [] K = refl
holds_close_none flow (c ∷ cs) K = holds_close_none flow cs (changed (holds c.number flow) K)

pulled_spooled : (L : Ledger) (e : EndpointView) (flow count : ℕ) →
    All (λ c. is_spooled L.copies c.number ≡ true) (pulled L e flow count)
pulled_spooled L e flow count =
    All-weaker (λ (c : MadeCopy). is_free L.copies c.number ≡ true)
    (λ (c : MadeCopy). is_spooled L.copies c.number ≡ true)
    (λ c unheld. and_left (is_spooled L.copies c.number) _ unheld) (pulled L e flow count) (pulled_free L e flow count)

module _ (L : Ledger) (s : IsSound L) where
  abbrev Tells : List Change → Reply → Type 0
  Tells changes reply = TellsFates (all_changed changes L).copies reply

  abbrev none : (H : History) → All (λ (t : CopyFate). fate_in H t.copy ≡ t.fate) []
  none H = All-nil (λ (t : CopyFate). fate_in H t.copy ≡ t.fate)

  -- where a reply tells no fate
  tells_none : {X : Type 0} (refusal : Refusal) (checks : X → List Check) (changes : X → List Change)
      (reply : X → Reply) → ((x : X) → told_fates (reply x) ≡ []) → (found : Option X) →
      OnPassed Tells (on_found found refusal (λ x. does (checks x) (changes x) (reply x)))
  tells_none refusal checks changes reply silent None = tt
  tells_none refusal checks changes reply silent (Some x) =
      λ p. subst (λ ts. All (λ (t : CopyFate). fate_in (all_changed (changes x) L).copies t.copy ≡ t.fate) ts)
      (sym (silent x)) (none (all_changed (changes x) L).copies)

  publish_tells : (m : Message) → OnPassed Tells (publish m L)
  publish_tells m p =
      let into = takers L.endpoints m in
      let after = all_shared L.now (map (share_for m L.next.message L.now) into) L.copies in
      All-map (λ (t : CopyFate). fate_in after t.copy ≡ t.fate)
      (λ (c : PublishedCopy). record { copy = c.copy; fate = c.fate }) (told_copies L.copies.next into)
      (spooled (λ copy. (is_made after.made copy ≡ true) × (L.copies.next ≤ copy))
      (λ copy fate. fate_in after copy ≡ fate)
      (λ copy h. is_spooled_so after.made after.closed copy h.0
      (subst (λ closed. is_closed closed copy ≡ false)
      (sym (shares_close_none L.now m L.next.message L.now into L.copies))
      (later_open L.copies (kept_of L s).history copy h.1)))
      into L.copies.next
      (All-both (λ (t : PublishedCopy). is_made after.made t.copy ≡ true)
      (λ (t : PublishedCopy). L.copies.next ≤ t.copy) (told_copies L.copies.next into)
      (shares_made L.now m L.next.message L.now into L) (told_later L.copies.next L.copies.next (omega arith) into)))
    where
      spooled : (P : ℕ → Type 0) (Q : ℕ → Fate → Type 0) → ((copy : ℕ) → P copy → Q copy fates.Spooled) →
          (es : List EndpointView) (number : ℕ) → All (λ t. P t.copy) (told_copies number es) →
          All (λ t. Q t.copy t.fate) (told_copies number es)
      spooled P Q w [] number all = All-nil (λ (t : PublishedCopy). Q t.copy t.fate)
      spooled P Q w (e ∷ es) number all =
          All-cons (λ (t : PublishedCopy). Q t.copy t.fate) _ (told_copies (number + 1) es)
          (w number (All-head (λ (t : PublishedCopy). P t.copy) _ (told_copies (number + 1) es) all))
          (spooled P Q w es (number + 1)
          (All-tail (λ (t : PublishedCopy). P t.copy) _ (told_copies (number + 1) es) all))

  pull_tells : (caller : List ℕ) (flow count : ℕ) → OnPassed Tells (pull caller flow count L)
  pull_tells caller flow count =
      passed_on_found {X = FlowView} Tells (UnknownFlow flow)
      (λ f. on_found (endpoint_numbered f.endpoint L.endpoints) (UnknownFlow flow) on_endpoint) (flow_of L.flows caller flow)
      (λ f found.
      passed_on_found {X = EndpointView} Tells (UnknownFlow flow) on_endpoint (endpoint_numbered f.endpoint L.endpoints)
      (λ e there p.
      let changes = map (λ (c : MadeCopy). holds c.number flow) (pulled L e flow count) in
      let after = all_changed changes L in
      All-map (λ (t : CopyFate). fate_in after.copies t.copy ≡ t.fate)
      (λ (d : Delivery). record { copy = d.copy; fate = fates.Spooled }) (deliveries L (pulled L e flow count))
      (All-weaker (λ (d : Delivery). is_spooled L.copies d.copy ≡ true)
      (λ (d : Delivery). fate_in after.copies d.copy ≡ fates.Spooled) (λ d spooled.
      is_spooled_so after.copies.made after.copies.closed d.copy
      (subst (λ made. is_made made d.copy ≡ true) (sym (holds_make_none flow (pulled L e flow count) L))
      (and_left (is_made L.copies.made d.copy) _ spooled))
      (subst (λ closed. is_closed closed d.copy ≡ false) (sym (holds_close_none flow (pulled L e flow count) L))
      (not_true (is_closed L.copies.closed d.copy) (and_right (is_made L.copies.made d.copy) _ spooled))))
      (deliveries L (pulled L e flow count))
      (delivered_all (λ copy. is_spooled L.copies copy ≡ true) L (pulled L e flow count) (pulled_spooled L e flow count)))))
    where
      on_endpoint : EndpointView → Step
      on_endpoint e =
          does [] (map (λ c. holds c.number flow) (pulled L e flow count))
          (replies.Pull flow (deliveries L (pulled L e flow count)))

  settle_tells : (caller : List ℕ) (flow copy : ℕ) (outcome : Outcome) →
      OnPassed Tells (settle caller flow copy outcome L)
  settle_tells caller flow copy outcome =
      passed_on_found {X = FlowView} Tells (UnknownFlow flow) _ (flow_of L.flows caller flow)
      (λ f found.
      passed_on_found {X = MadeCopy} Tells (NotHeld copy) _ (held_copy L.copies flow copy)
      (λ c held p.
      let after = (changed (settling outcome c L) L).copies in
      let may = held_may L s flow copy c held in
      All-cons (λ (t : CopyFate). fate_in after t.copy ≡ t.fate) _ []
      (subst (λ n. fate_in after n ≡ fate_by (settling outcome c L) L) may.1
      (settled_so outcome L c may.0.0.spooled))
      (none after)))

  unbind_tells : (caller : List ℕ) (flow : ℕ) → OnPassed Tells (unbind caller flow L)
  unbind_tells caller flow =
      passed_on_found {X = FlowView} Tells (UnknownFlow flow) _ (flow_of L.flows caller flow)
      (λ f found p.
      let back = given_back L flow in
      let told = all_told back L in
      subst (λ (M : Ledger). All (λ (t : CopyFate). fate_in M.copies t.copy ≡ t.fate) told)
      (sym (changed_append back (unbinds flow ∷ []) L)) (changes_tell back L (given_back_allowed L s flow)))

  bind_tells : (caller name : List ℕ) (selector topic : Option (List ℕ)) →
      OnPassed Tells (bind caller name selector topic L)
  bind_tells caller name selector topic =
      passed_unless Tells (topic_check topic) (on_found (named name L.endpoints) (UnknownEndpoint name) _)
      (tells_none {X = EndpointView} (UnknownEndpoint name) _ _
      (λ e. replies.Bind e.name L.next.flow (length (outdated L e (rebound e selector topic)))) (λ e. refl) (named name L.endpoints))

  -- what each event's reply tells holds
  pub step_tells : (caller : List ℕ) (event : Event) → OnPassed Tells (step caller event L)
  step_tells caller (events.Provision name kind settings) = λ p. none L.copies
  step_tells caller (events.Deprovision name) =
      tells_none {X = EndpointView} (UnknownEndpoint name) _ _ (λ e. replies.Deprovision e.name) (λ e. refl)
      (named name L.endpoints)
  step_tells caller (events.Change name settings) =
      tells_none {X = EndpointView} (UnknownEndpoint name) _ _ (λ e. replies.Change e.name) (λ e. refl)
      (named name L.endpoints)
  step_tells caller (events.Subscribe name text) =
      tells_none {X = EndpointView} (UnknownEndpoint name) _ _ (λ e. replies.Subscribe e.name) (λ e. refl)
      (queue_named name L.endpoints)
  step_tells caller (events.Unsubscribe name text) =
      tells_none {X = EndpointView} (UnknownEndpoint name) _ _ (λ e. replies.Unsubscribe e.name) (λ e. refl)
      (queue_named name L.endpoints)
  step_tells caller (events.Publish m) = publish_tells m
  step_tells caller (events.Bind name selector topic) = bind_tells caller name selector topic
  step_tells caller (events.Unbind flow) = unbind_tells caller flow
  step_tells caller (events.Pull flow count) = pull_tells caller flow count
  step_tells caller (events.Settle flow copy outcome) = settle_tells caller flow copy outcome
  step_tells caller events.Tick = λ p. changes_tell (expiries L) L (tick_allowed L s p)
  step_tells caller (events.DeleteCopies name copy) =
      passed_on_found {X = EndpointView} Tells (UnknownEndpoint name) _ (named name L.endpoints)
      (λ e found p. changes_tell (deletions L e copy) L (deletions_allowed L s e copy))
  step_tells caller events.Restart =
      none (all_changed (cond (length L.flows == 0) [] (all_given_back L)) L).copies

-- one reply of which a fact holds
pub single : (P : Reply → Type 0) (r : Reply) → P r → All P (r ∷ [])
single P r h = All-cons P r [] h (All-nil P)

-- what an accepted or idle event tells is so
module _ (L : Ledger) (s : IsSound L) (moment : ℕ) (caller : List ℕ) (event : Event) (told : List Reply) where
  tells : OnPassed (Tells (begun moment L) (begun_sound moment L s)) (step caller event (begun moment L))
  tells = step_tells (begun moment L) (begun_sound moment L s) caller event

  pub accepted_tells : (M : Ledger) → outcome moment caller event L ≡ accepted M told → All (TellsFates M.copies) told
  accepted_tells M e =
      let B = begun moment L in
      where_accepted L B (λ m t. All (TellsFates m.copies) t) (step caller event B)
      (passed_weaker (Tells B (begun_sound moment L s))
      (λ changes reply. All (TellsFates (all_changed changes B).copies) (reply ∷ []))
      (λ changes reply h. single (TellsFates (all_changed changes B).copies) reply h) (step caller event B)
      tells)
      M told e

  pub idle_tells : outcome moment caller event L ≡ idle told → All (TellsFates L.copies) told
  idle_tells e =
      let B = begun moment L in
      where_idle L B (λ t. All (TellsFates L.copies) t) (step caller event B)
      (passed_weaker (Tells B (begun_sound moment L s))
      (λ changes reply. changes ≡ [] → All (TellsFates L.copies) (reply ∷ []))
      (λ changes reply h empty. single (TellsFates L.copies) reply
      (subst (λ cs. TellsFates (all_changed cs B).copies reply) empty h)) (step caller event B) tells)
      told e

-- what is so when it is told holds later on too
pub told_so : (H : History) (r : Reply) → TellsFates H r → IsTold H r
told_so H r all = All-weaker (λ (t : CopyFate). fate_in H t.copy ≡ t.fate)
    (λ (t : CopyFate). FateHolds H t.copy t.fate) (λ t is. subst (FateHolds H t.copy) is (fate_in_holds H t.copy))
    (told_fates r) all

pub shown_so : (H : History) (r : Reply) → ShowsFates H r → IsTold H r
shown_so H r all = All-weaker (λ (t : CopyFate). fate_of H t.copy ≡ t.fate)
    (λ (t : CopyFate). FateHolds H t.copy t.fate) (λ t is. subst (FateHolds H t.copy) is (fate_holds H t.copy))
    (told_fates r) all
