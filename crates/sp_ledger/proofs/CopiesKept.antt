-- Each change of the copies keeps what holds of the copies in a ledger.
use Rattle.sp_access.specs.Flow.{FlowView}
use Rattle.sp_copies.proofs.ClosedSound.{closed_sound, used-with_closed}
use Rattle.sp_copies.proofs.HeldSound.{held_sound, used-with_held}
use Rattle.sp_copies.proofs.Marks.{is_closed-push}
use Rattle.sp_copies.proofs.ReturnedSound.{given_back_sound, used-with_given_back}
use Rattle.sp_copies.specs.Counts.{is_moved}
use Rattle.sp_copies.specs.History.{History, closing_of, is_closed, is_free, is_made, is_spooled, numbered, once_more}
use Rattle.sp_copies.specs.History.{used_bytes, with_closed, with_given_back, with_held, with_made}
use Rattle.sp_copies.specs.Sound.{IsSoundHistory}
use Rattle.sp_copies.specs.declared.closed.ClosedCopy.{ClosedCopy}
use Rattle.sp_copies.specs.declared.closed.Closing.{Closing}
use Rattle.sp_copies.specs.declared.closed.Closing.TheVariants as closings
use Rattle.sp_copies.specs.declared.held.CopyAttempts.{CopyAttempts}
use Rattle.sp_copies.specs.declared.held.HeldCopy.{HeldCopy}
use Rattle.sp_copies.specs.declared.made.MadeCopy.{MadeCopy}
use Rattle.sp_copies.specs.declared.made.NewCopy.{NewCopy}
use Rattle.sp_copies.specs.declared.made.Origin.{Origin}
use Rattle.sp_copies.specs.declared.made.Origin.TheVariants as origins
use Rattle.sp_endpoint.specs.Endpoint.{EndpointView}
use Rattle.sp_endpoint.specs.Endpoints.{is_there}
use Rattle.sp_ledger.proofs.Closings.{still_closed}
use Rattle.sp_ledger.proofs.Listed.{All-any, All-both, and_both, and_left, and_right, not_true, or_both, or_right}
use Rattle.sp_ledger.proofs.OneKept.{HeldBound, MadeMoved, MovedMade, MovedOnce, OpenThere, bound-made}
use Rattle.sp_ledger.proofs.OneKept.{made_moved-closed, moved_made-made, moved_once-closed, there-closed, there-made}
use Rattle.sp_ledger.specs.Ledger.{Ledger, Published}
use Rattle.sp_ledger.specs.Limits.{greatest_quota, spent}
use Rattle.sp_ledger.specs.One.{has_its_closing, has_its_copy, is_bound_for, is_by_move}
use Rattle.sp_ledger.specs.Sound.{AreEndpoints, AreFlows, AreLogged, AreMessages, AreNext, AreReplays, IsSound}
use Rattle.sp_ledger.specs.Sound.{has_message, movable_count}
use Rattle.sp_ledger.specs.Turns.{IsInTurn}
use Rattle.std.proofs.Common.{ap, arith, refl, subst, ◌∙◌}
use Rattle.std.proofs.lemmas.Bool.{eqb-true}
use Rattle.std.proofs.lemmas.List.Elements.{All-filter, All-map, All-push, All-weaker}
use Rattle.std.specs.Prelude.{All, Bool, IsTrue, List, Some, [], cond, false, not, true, ℕ, ◌&&◌, ◌++◌, ◌+◌, ◌<◌}
use Rattle.std.specs.Prelude.{◌==◌, ◌||◌, ◌∷◌, ◌≡◌, ◌≤◌}

abbrev pub OpenMessages : List Published → List ClosedCopy → List MadeCopy → Type 0
OpenMessages messages closed made = All (λ c. IsTrue (is_closed closed c.number || has_message messages c)) made

-- what holds of the copies in a ledger of these flows, endpoints and messages
pub record AreKept (most : ℕ) (flows : List FlowView) (endpoints : List EndpointView) (messages : List Published)
    (next unit : ℕ) (H : History) : Type 0 where
  pub history : IsSoundHistory H
  pub quota : (e : ℕ) → used_bytes H e ≤ most
  pub bound : HeldBound flows H.made H.held
  pub there : OpenThere endpoints H.closed H.made
  pub moved_made : MovedMade H.made H.closed
  pub made_moved : MadeMoved H.closed H.made
  pub moved_once : MovedOnce H.closed H.made
  pub numbered : All (λ c. c.endpoint < next) H.made
  pub open_messages : OpenMessages messages H.closed H.made
  pub attempts : All (λ a. a.count < unit) H.attempts

pub kept_of : (L : Ledger) → IsSound L →
    AreKept greatest_quota L.flows L.endpoints L.messages L.next.endpoint L.next.unit L.copies
kept_of L s = record {
  history = record {
    next_above = s.one.numbered.next_above;
    rise = s.one.numbered.rise;
    above = s.one.numbered.above;
    below = s.one.numbered.below;
    closed_made = s.one.numbered.closed_made;
    closed_once = s.one.closed_once;
    held_spooled = s.one.held.spooled;
    held_once = s.one.held.once;
    counted = s.copies.counted;
    used = λ e. let most = s.copies.quota e in omega (arith, most);
  };
  quota = s.copies.quota;
  bound = s.one.held.bound;
  there = s.one.open_there;
  moved_made = s.one.moved.made;
  made_moved = s.one.moved.closed;
  moved_once = s.one.moved_once;
  numbered = s.copies.endpoints;
  open_messages = s.copies.messages;
  attempts = s.copies.attempts;
}

-- a ledger is sound where its copies and its other parts are
pub sound_of : (L : Ledger) →
    AreKept greatest_quota L.flows L.endpoints L.messages L.next.endpoint L.next.unit L.copies →
    L.copies.next + movable_count L.copies ≤ spent + 1 → AreEndpoints L.next.endpoint L.endpoints →
    AreMessages L.next.message L.messages → AreFlows L.next.flow L.endpoints L.flows →
    AreReplays L.next.replay L.replays → AreLogged L.messages L.log → AreNext L.next →
    All (IsInTurn L.flows L.copies) L.endpoints → IsSound L
sound_of L k bound endpoints messages flows replays logged next turns = record {
  one = record {
    numbered = record {
      next_above = k.history.next_above;
      rise = k.history.rise;
      above = k.history.above;
      below = k.history.below;
      closed_made = k.history.closed_made;
    };
    closed_once = k.history.closed_once;
    held = record { spooled = k.history.held_spooled; once = k.history.held_once; bound = k.bound };
    open_there = k.there;
    moved = record { made = k.moved_made; closed = k.made_moved };
    moved_once = k.moved_once;
  };
  copies = record {
    quota = k.quota;
    counted = k.history.counted;
    attempts = k.attempts;
    endpoints = k.numbered;
    messages = k.open_messages;
    next = bound;
  };
  endpoints = endpoints;
  messages = messages;
  flows = flows;
  replays = replays;
  logged = logged;
  next = next;
  turns = turns;
}

module _ (flows : List FlowView) (endpoints : List EndpointView) (messages : List Published) (next unit : ℕ) where
  -- among other flows, endpoints and messages
  pub kept_among : (flows2 : List FlowView) (endpoints2 : List EndpointView) (messages2 : List Published)
      (next2 unit2 : ℕ) (H : History) → AreKept greatest_quota flows endpoints messages next unit H →
      HeldBound flows2 H.made H.held → OpenThere endpoints2 H.closed H.made →
      ((c : MadeCopy) → has_message messages c ≡ true → has_message messages2 c ≡ true) → next ≤ next2 →
      unit ≤ unit2 → AreKept greatest_quota flows2 endpoints2 messages2 next2 unit2 H
  kept_among flows2 endpoints2 messages2 next2 unit2 H k bound there still later more = record {
    history = k.history;
    quota = k.quota;
    bound = bound;
    there = there;
    moved_made = k.moved_made;
    made_moved = k.made_moved;
    moved_once = k.moved_once;
    numbered = All-weaker (λ (c : MadeCopy). c.endpoint < next) (λ (c : MadeCopy). c.endpoint < next2)
        (λ c lt. omega (arith, lt, later)) H.made k.numbered;
    open_messages = All-weaker (λ (c : MadeCopy). IsTrue (is_closed H.closed c.number || has_message messages c))
        (λ (c : MadeCopy). IsTrue (is_closed H.closed c.number || has_message messages2 c))
        (λ c is. or_both (is_closed H.closed c.number) (has_message messages c) (is_closed H.closed c.number)
        (has_message messages2 c) (λ k. k) (still c) is) H.made k.open_messages;
    attempts = All-weaker (λ (a : CopyAttempts). a.count < unit) (λ (a : CopyAttempts). a.count < unit2)
        (λ a lt. omega (arith, lt, more)) H.attempts k.attempts;
  }

  no_closing_asked : (closed : List ClosedCopy) (copy : ℕ) (origin : Origin) → is_by_move origin ≡ false →
      has_its_closing closed copy origin ≡ true
  no_closing_asked closed copy origins.Published h = refl
  no_closing_asked closed copy (origins.Moved from) h = absurd (cc)
  no_closing_asked closed copy (origins.Replayed replay) h = refl

  -- a copy is made
  pub record IsFine (H : History) (c : NewCopy) : Type 0 where
    pub there : IsTrue (is_there endpoints c.endpoint)
    pub below : c.endpoint < next
    pub message : IsTrue (has_message messages (numbered H.next c))
    pub unmoved : is_by_move c.origin ≡ false

  -- a copy is made
  pub made_links : (most more : ℕ) → 0 < unit → (c : NewCopy) (H : History) → IsFine H c →
      AreKept most flows endpoints messages next unit H → IsSoundHistory (with_made c H) →
      ((e : ℕ) → used_bytes (with_made c H) e ≤ more) → AreKept more flows endpoints messages next unit (with_made c H)
  made_links most more some c H fine k sound quota =
      let new : MadeCopy = numbered H.next c in
      record {
        history = sound;
        quota = quota;
        bound = bound-made flows H.made new H.held k.bound;
        there = there-made endpoints H.closed H.made new fine.there k.there;
        moved_made = moved_made-made H.made new H.closed k.moved_made;
        made_moved = All-push (λ (x : MadeCopy). IsTrue (has_its_closing H.closed x.number x.origin)) H.made new
            k.made_moved (no_closing_asked H.closed H.next c.origin fine.unmoved);
        moved_once = All-push
            (λ (x : MadeCopy). IsTrue (not (is_by_move x.origin && is_moved (closing_of H.closed x.number)))) H.made
            new k.moved_once (ap (λ b. not (b && is_moved (closing_of H.closed H.next))) fine.unmoved);
        numbered = All-push (λ (x : MadeCopy). x.endpoint < next) H.made new k.numbered fine.below;
        open_messages = All-push (λ (x : MadeCopy). IsTrue (is_closed H.closed x.number || has_message messages x))
            H.made new k.open_messages (or_right (is_closed H.closed H.next) (has_message messages new) fine.message);
        attempts = All-push (λ (a : CopyAttempts). a.count < unit) H.attempts (record { copy = H.next; count = 0 })
            k.attempts some;
      }

  -- a spooled copy is closed, and not by a move
  pub closed_kept : (most : ℕ) (copy : ℕ) (how : Closing) (moment : ℕ) (H : History) →
      AreKept most flows endpoints messages next unit H → is_spooled H copy ≡ true → is_moved (Some how) ≡ false →
      AreKept most flows endpoints messages next unit (with_closed copy how moment H)
  closed_kept most copy how moment H k spooled isnt =
      let x : ClosedCopy = record { copy = copy; how = how; moment = moment } in
      record {
        history = closed_sound H copy how moment k.history spooled;
        quota = λ e. let before = k.quota e in let less = used-with_closed H copy how moment e in
            omega (arith, before, less);
        bound = All-filter (λ (h : HeldCopy). not (h.copy == copy))
            (λ (h : HeldCopy). IsTrue (is_bound_for flows H.made h)) H.held k.bound;
        there = there-closed endpoints H.closed x H.made k.there;
        moved_made = All-push (λ (y : ClosedCopy). IsTrue (has_its_copy H.made y.copy y.how)) H.closed x
            k.moved_made (its_copy how isnt);
        made_moved = made_moved-closed H.closed x H.made k.made_moved;
        moved_once = moved_once-closed H.closed x isnt H.made k.moved_once;
        numbered = k.numbered;
        open_messages = All-weaker
            (λ (c : MadeCopy). IsTrue (is_closed H.closed c.number || has_message messages c))
            (λ (c : MadeCopy). IsTrue (is_closed (H.closed ++ x ∷ []) c.number || has_message messages c))
            (λ c is. or_both (is_closed H.closed c.number) (has_message messages c)
            (is_closed (H.closed ++ x ∷ []) c.number) (has_message messages c)
            (still_closed H.closed (x ∷ []) c.number) (λ k. k) is) H.made k.open_messages;
        attempts = k.attempts;
      }
    where
      its_copy : (how : Closing) → is_moved (Some how) ≡ false → has_its_copy H.made copy how ≡ true
      its_copy closings.Accepted unmoved = refl
      its_copy (closings.Moved to) unmoved = absurd (cc)
      its_copy (closings.Discarded cause) unmoved = refl

  -- a free copy is held
  pub held_kept : (copy flow : ℕ) (H : History) → AreKept greatest_quota flows endpoints messages next unit H →
      is_free H copy ≡ true → IsTrue (is_bound_for flows H.made (record { copy = copy; flow = flow })) →
      All (λ a. (a.copy == copy) ≡ true → a.count + 1 < unit) H.attempts →
      AreKept greatest_quota flows endpoints messages next unit (with_held copy flow H)
  held_kept copy flow H k unheld mine few = record {
    history = held_sound H copy flow k.history unheld;
    quota = λ e. let most = k.quota e in let same = used-with_held H copy flow e in omega (arith, most, same);
    bound = All-push (λ (h : HeldCopy). IsTrue (is_bound_for flows H.made h)) H.held
        (record { copy = copy; flow = flow }) k.bound mine;
    there = k.there;
    moved_made = k.moved_made;
    made_moved = k.made_moved;
    moved_once = k.moved_once;
    numbered = k.numbered;
    open_messages = k.open_messages;
    attempts =
        All-map (λ (a : CopyAttempts). a.count < unit) (λ (a : CopyAttempts). cond (a.copy == copy) (once_more a) a)
        H.attempts
        (All-weaker (λ (a : CopyAttempts). ((a.copy == copy) ≡ true → a.count + 1 < unit) × (a.count < unit))
        (λ (a : CopyAttempts). (cond (a.copy == copy) (once_more a) a).count < unit)
        (λ a both. raised a both.0 both.1 (a.copy == copy) refl) H.attempts
        (All-both (λ (a : CopyAttempts). (a.copy == copy) ≡ true → a.count + 1 < unit)
        (λ (a : CopyAttempts). a.count < unit) H.attempts few k.attempts));
  }
    where
      raised : (a : CopyAttempts) → ((a.copy == copy) ≡ true → a.count + 1 < unit) → a.count < unit → (b : Bool) →
          (a.copy == copy) ≡ b → (cond b (once_more a) a).count < unit
      raised a few lt true is = let most = few is in omega (arith, most)
      raised a few lt false is = lt

  -- a copy is freed
  pub freed_kept : (copy : ℕ) (H : History) → AreKept greatest_quota flows endpoints messages next unit H →
      AreKept greatest_quota flows endpoints messages next unit (with_given_back copy H)
  freed_kept copy H k = record {
    history = given_back_sound H copy k.history;
    quota = λ e. let most = k.quota e in let same = used-with_given_back H copy e in omega (arith, most, same);
    bound = All-filter (λ (h : HeldCopy). not (h.copy == copy))
        (λ (h : HeldCopy). IsTrue (is_bound_for flows H.made h)) H.held k.bound;
    there = k.there;
    moved_made = k.moved_made;
    made_moved = k.made_moved;
    moved_once = k.moved_once;
    numbered = k.numbered;
    open_messages = k.open_messages;
    attempts = k.attempts;
  }

-- an endpoint that is there has been numbered
pub below_next : (L : Ledger) (endpoint : ℕ) → IsSound L → is_there L.endpoints endpoint ≡ true →
    endpoint < L.next.endpoint
below_next L endpoint s there =
    All-any (λ (e : EndpointView). e.number < L.next.endpoint) (endpoint < L.next.endpoint)
    (λ e. e.number == endpoint) L.endpoints s.endpoints.below
    (λ e lt here. subst (λ n. n < L.next.endpoint) (eqb-true _ _ here) lt) there

-- a copy stays spooled where another closes
pub still_spooled_beside : (H : History) (x : ClosedCopy) (copy : ℕ) → (x.copy == copy) ≡ false →
    is_spooled H copy ≡ true → (is_made H.made copy && not (is_closed (H.closed ++ x ∷ []) copy)) ≡ true
still_spooled_beside H x copy other h =
    and_both (is_made H.made copy) _ (and_left (is_made H.made copy) _ h)
    (ap not (is_closed-push H.closed x copy ∙ neither (is_closed H.closed copy) (x.copy == copy)
    (not_true _ (and_right (is_made H.made copy) _ h)) other))
  where
    neither : (a b : Bool) → a ≡ false → b ≡ false → (a || b) ≡ false
    neither true b h k = absurd (cc)
    neither false b h k = k
