-- Copies end or are given back one after another: each change is allowed where the ones before it led.
pub use Rattle.sp_ledger.specs.MayEnd.{MayEnd, MayReturn}
use Rattle.sp_config.specs.Attributes.{quota_of}
use Rattle.sp_copies.proofs.Chosen.{Apart}
use Rattle.sp_copies.proofs.Marks.{eqb-turned}
use Rattle.sp_copies.specs.History.{is_closed, is_held, is_made, let_go, used_bytes}
use Rattle.sp_copies.specs.History.{numbered as numbered_as}
use Rattle.sp_copies.specs.declared.closed.Cause.TheVariants.{DmqDisabled, DmqMissing, DmqQuota, DmqSelf}
use Rattle.sp_copies.specs.declared.closed.Closing.{Closing}
use Rattle.sp_copies.specs.declared.closed.Closing.TheVariants as closings
use Rattle.sp_copies.specs.declared.held.HeldCopy.{HeldCopy}
use Rattle.sp_copies.specs.declared.made.MadeCopy.{MadeCopy}
use Rattle.sp_copies.specs.declared.made.NewCopy.{NewCopy}
use Rattle.sp_endpoint.specs.Endpoint.{EndpointView}
use Rattle.sp_endpoint.specs.Endpoints.{is_queue, is_there, numbered, queue_named}
use Rattle.sp_ledger.proofs.CopiesKept.{still_spooled_beside}
use Rattle.sp_ledger.proofs.EachKind.{change_sound}
use Rattle.sp_ledger.proofs.Fields.{endpoint_found, quota_below}
use Rattle.sp_ledger.proofs.GivenBack.{all_let_go}
use Rattle.sp_ledger.proofs.Listed.{All-any, All-both, and_both, and_left, and_right, any_found, any_grows, any_kept}
use Rattle.sp_ledger.proofs.Listed.{any_where, not_true, pairs_head, pairs_tail}
use Rattle.sp_ledger.specs.Allowed.{AreAllowed, IsAllowed, MayMove}
use Rattle.sp_ledger.specs.Changes.{Change, all_changed, changed, closes, frees, moves}
use Rattle.sp_ledger.specs.Endings.{dead_queue, end_by, ended_as, ending, facts_of, has_had_last, moved_copy}
use Rattle.sp_ledger.specs.Endings.{one_by_one, returning, target_of}
use Rattle.sp_ledger.specs.Ledger.{Ledger}
use Rattle.sp_ledger.specs.Limits.{greatest_quota}
use Rattle.sp_ledger.specs.One.{is_by_move}
use Rattle.sp_ledger.specs.Sound.{IsSound, has_message}
use Rattle.sp_settle.specs.Questions.{caused, end_in, end_of}
use Rattle.sp_settle.specs.declared.questions.CopyFacts.{CopyFacts}
use Rattle.sp_settle.specs.declared.questions.Ending.{Ending}
use Rattle.sp_settle.specs.declared.questions.Ending.TheVariants.{Discard, Move}
use Rattle.sp_settle.specs.declared.questions.Reason.{Reason}
use Rattle.sp_settle.specs.declared.questions.Reason.TheVariants.{RedeliveryExceeded}
use Rattle.sp_settle.specs.declared.questions.Target.{Target}
use Rattle.std.proofs.Common.{ap, arith, refl, subst, sym, ◌∙◌}
use Rattle.std.proofs.lemmas.Bool.{eq-eqb, eqb-true, ltb-false}
use Rattle.std.proofs.lemmas.List.Elements.{All-head, All-push, All-tail, All-weaker}
use Rattle.std.specs.Prelude.{All, AllPairs, Bool, IsTrue, List, None, Option, Some, [], bytes_eq, cond, false, nat_lt}
use Rattle.std.specs.Prelude.{not, option_and_then, option_map, true, ◌&&◌, ◌++◌, ◌+◌, ◌==◌, ◌||◌, ◌∷◌, ◌≡◌, ◌≤◌}

-- a copy is moved only where it is no moved one, and where the queue has room
pub moves_where : (why : Reason) (copy : CopyFacts) (t : Target) → end_of why copy (Some t) ≡ Move →
    (is_by_move copy.origin ≡ false) × (nat_lt t.max (t.used + copy.size) ≡ false)
moves_where why copy t h = one (not copy.eligible) (is_by_move copy.origin) h
  where
    room : (self away full : Bool) →
        cond self (Discard DmqSelf) (cond away (Discard DmqDisabled) (cond full (Discard DmqQuota) Move)) ≡ Move →
        full ≡ false
    room true away full k = absurd (cc)
    room false true full k = absurd (cc)
    room false false true k = absurd (cc)
    room false false false k = refl

    one : (a b : Bool) → cond (a || b) (Discard (caused why)) (end_in copy t) ≡ Move →
        (b ≡ false) × (nat_lt t.max (t.used + copy.size) ≡ false)
    one true b k = absurd (cc)
    one false true k = absurd (cc)
    one false false k = (
      refl,
      room (t.endpoint == copy.endpoint) (not t.ingress) (nat_lt t.max (t.used + copy.size)) k,
    )

-- what holds of each copy that was made holds of this one
own_fact : (P : MadeCopy → Type 0) (K : Ledger) (c : MadeCopy) → MayEnd K c → All P K.copies.made → P c
own_fact P K c may all =
    All-any (λ (d : MadeCopy). P d × ((d.number == c.number) ≡ true → d ≡ c)) (P c) (λ d. d.number == c.number)
    K.copies.made (All-both P (λ (d : MadeCopy). (d.number == c.number) ≡ true → d ≡ c) K.copies.made all may.own)
    (λ d both test. subst P (both.1 test) both.0) (and_left (is_made K.copies.made c.number) _ may.spooled)

-- the copy of another number stays as it is where one closes
still_where_closed : (K : Ledger) (c d : MadeCopy) (how : Closing) → Apart c d → MayEnd K d →
    MayEnd (changed (closes c.number how) K) d
still_where_closed K c d how apart may = record {
  own = may.own;
  below = may.below;
  spooled = still_spooled_beside K.copies (record { copy = c.number; how = how; moment = K.now }) d.number apart
      may.spooled;
}

-- and where it is moved
still_where_moved : (K : Ledger) (c d : MadeCopy) (new : NewCopy) → Apart c d → MayEnd K d →
    MayEnd (changed (moves c.number new) K) d
still_where_moved K c d new apart may =
    let left = still_where_closed K c d (closings.Moved K.copies.next) apart may in
    let below = may.below in
    record {
      own = All-push (λ (x : MadeCopy). (x.number == d.number) ≡ true → x ≡ d) K.copies.made
          (numbered_as K.copies.next new) may.own
          (λ is. absurd (let same : K.copies.next ≡ d.number = eqb-true _ _ is in omega (arith, below, same)));
      below = omega (arith, below);
      spooled = and_both (is_made (K.copies.made ++ numbered_as K.copies.next new ∷ []) d.number) _
          (any_grows {X = MadeCopy} (λ x. x.number == d.number) K.copies.made _
          (and_left (is_made K.copies.made d.number) _ left.spooled))
          (and_right (is_made K.copies.made d.number) _ left.spooled);
    }

-- and where it ends, however it does
pub still_where_ended : (e : Ending) (queue : Option EndpointView) (K : Ledger) (c d : MadeCopy) → Apart c d → MayEnd K d →
    MayEnd (changed (ended_as e c K queue) K) d
still_where_ended (Discard cause) queue K c d apart may = still_where_closed K c d (closings.Discarded cause) apart may
still_where_ended Move None K c d apart may = still_where_closed K c d (closings.Discarded DmqMissing) apart may
still_where_ended Move (Some queue) K c d apart may = still_where_moved K c d (moved_copy K c queue) apart may

-- a copy may end
module _ (K : Ledger) (s : IsSound K) (c : MadeCopy) (may : MayEnd K c) where
  open_here : is_closed K.copies.closed c.number ≡ false
  open_here = not_true _ (and_right (is_made K.copies.made c.number) _ may.spooled)

  its_message : has_message K.messages c ≡ true
  its_message =
      one (is_closed K.copies.closed c.number) (has_message K.messages c) open_here
      (own_fact (λ x. IsTrue (is_closed K.copies.closed x.number || has_message K.messages x)) K c may s.copies.messages)
    where
      one : (a b : Bool) → a ≡ false → (a || b) ≡ true → b ≡ true
      one true b shut k = absurd (cc)
      one false b shut k = k

  -- the queue that it is moved to is there
  its_queue : (queue : EndpointView) → dead_queue K c ≡ Some queue →
      (is_there K.endpoints queue.number ≡ true) × (quota_of queue.attributes ≤ greatest_quota)
  its_queue queue found = one (numbered c.endpoint K.endpoints) found
    where
      one : (own : Option EndpointView) →
          option_and_then (λ e. queue_named e.attributes.dead_msg_queue K.endpoints) own ≡ Some queue →
          (is_there K.endpoints queue.number ≡ true) × (quota_of queue.attributes ≤ greatest_quota)
      one None k = absurd (cc)
      one (Some e) k =
          let p : EndpointView → Bool = λ x. is_queue x.kind && bytes_eq x.name e.attributes.dead_msg_queue in (
            any_found {X = EndpointView} p (λ x. x.number == queue.number) K.endpoints queue k
                (eq-eqb queue.number queue.number refl),
            quota_below queue.attributes (endpoint_found K p queue s.endpoints k).ranges,
          )

  moves_allowed : (why : Reason) (queue : EndpointView) → dead_queue K c ≡ Some queue → end_by why c K ≡ Move →
      MayMove K c.number (moved_copy K c queue)
  moves_allowed why queue found move =
      let there = its_queue queue found in
      let facts : (is_by_move c.origin ≡ false)
      × (nat_lt (quota_of queue.attributes) (used_bytes K.copies queue.number + c.size) ≡ false) =
      moves_where why (facts_of K c) (target_of K queue)
      (subst (λ q. end_of why (facts_of K c) (option_map (target_of K) q) ≡ Move) found move) in
      let quota = there.1 in
      let fits = ltb-false (quota_of queue.attributes) (used_bytes K.copies queue.number + c.size) facts.1 in
      record {
        spooled = may.spooled;
        first = All-weaker (λ (d : MadeCopy). (d.number == c.number) ≡ true → d ≡ c)
            (λ (d : MadeCopy). (d.number == c.number) ≡ true → is_by_move d.origin ≡ false)
            (λ d own is. subst (λ (x : MadeCopy). is_by_move x.origin ≡ false) (sym (own is)) facts.0) K.copies.made
            may.own;
        there = there.0;
        origin = refl;
        deadline = refl;
        same = any_where {X = MadeCopy} (λ d. d.number == c.number)
            (λ d. (d.number == c.number) && (d.message == c.message)) K.copies.made
            (All-weaker (λ (d : MadeCopy). (d.number == c.number) ≡ true → d ≡ c)
            (λ (d : MadeCopy). (d.number == c.number) ≡ true →
            ((d.number == c.number) && (d.message == c.message)) ≡ true)
            (λ d own is. and_both (d.number == c.number) _ is
            (eq-eqb d.message c.message (ap (λ (x : MadeCopy). x.message) (own is)))) K.copies.made may.own)
            (and_left (is_made K.copies.made c.number) _ may.spooled);
        message = its_message;
        fits = omega (arith, quota, fits);
      }

  pub ending_allowed : (why : Reason) → IsAllowed (ending why c K) K
  ending_allowed why = one (end_by why c K) refl (dead_queue K c) refl
    where
      one : (e : Ending) → end_by why c K ≡ e → (queue : Option EndpointView) → dead_queue K c ≡ queue →
          IsAllowed (ended_as e c K queue) K
      one (Discard cause) is queue found = (may.spooled, refl)
      one Move is None found = (may.spooled, refl)
      one Move is (Some queue) found = moves_allowed why queue found is

-- changes of one copy after another are allowed, where each is, and leaves the others as they are
module _ (change : MadeCopy → Ledger → Change) (P : Ledger → MadeCopy → Type 0)
    (may : (K : Ledger) → IsSound K → (c : MadeCopy) → P K c → IsAllowed (change c K) K)
    (stay : (K : Ledger) (c d : MadeCopy) → Apart c d → P K d → P (changed (change c K) K) d) where
  pub all_allowed : (cs : List MadeCopy) (K : Ledger) → IsSound K → All (P K) cs → AllPairs Apart cs →
      AreAllowed (one_by_one change cs K) K
  all_allowed [] K s all apart = tt
  all_allowed (c ∷ cs) K s all apart =
      let here = may K s c (All-head (P K) c cs all) in (
        here,
        all_allowed cs (changed (change c K) K) (change_sound (change c K) K s here)
            (All-weaker (λ (d : MadeCopy). Apart c d × P K d) (P (changed (change c K) K))
            (λ d both. stay K c d both.0 both.1) cs
            (All-both (Apart c) (P K) cs (pairs_head Apart c cs apart) (All-tail (P K) c cs all)))
            (pairs_tail Apart c cs apart),
      )

pub endings_allowed : (why : Reason) (cs : List MadeCopy) (K : Ledger) → IsSound K → All (MayEnd K) cs →
    AllPairs Apart cs → AreAllowed (one_by_one (ending why) cs K) K
endings_allowed why =
    all_allowed (ending why) MayEnd (λ K s c may. ending_allowed K s c may why)
    (λ K c d apart may. still_where_ended (end_by why c K) (dead_queue K c) K c d apart may)

pub returning_allowed : (K : Ledger) → IsSound K → (c : MadeCopy) → MayReturn K c → IsAllowed (returning c K) K
returning_allowed K s c may = one (has_had_last K c)
  where
    one : (b : Bool) → IsAllowed (cond b (ending RedeliveryExceeded c K) (frees c.number)) K
    one true = ending_allowed K s c may.0 RedeliveryExceeded
    one false = may.1

-- however a copy ends, no flow holds it any more, and nothing but copies changes
pub ended_lets_go : (e : Ending) (queue : Option EndpointView) (K : Ledger) (c : MadeCopy) →
    (changed (ended_as e c K queue) K).copies.held ≡ let_go c.number K.copies.held
ended_lets_go (Discard cause) queue K c = refl
ended_lets_go Move None K c = refl
ended_lets_go Move (Some queue) K c = refl

pub returned_lets_go : (K : Ledger) (c : MadeCopy) →
    (changed (returning c K) K).copies.held ≡ let_go c.number K.copies.held
returned_lets_go K c = one (has_had_last K c)
  where
    one : (b : Bool) → (changed (cond b (ending RedeliveryExceeded c K) (frees c.number)) K).copies.held
        ≡ let_go c.number K.copies.held
    one true = ended_lets_go (end_by RedeliveryExceeded c K) (dead_queue K c) K c
    one false = refl

-- a copy of another number stays held
still_held_beside : (held : List HeldCopy) (c d : MadeCopy) → Apart c d → is_held held d.number ≡ true →
    is_held (let_go c.number held) d.number ≡ true
still_held_beside held c d apart is =
    any_kept {X = HeldCopy} (λ h. h.copy == d.number) (λ h. not (h.copy == c.number))
    (λ h own. let same : h.copy ≡ d.number = eqb-true _ _ own in
    subst (λ n. not (n == c.number) ≡ true) (sym same)
    (ap not (eqb-turned d.number c.number ∙ apart))) held is

pub still_where_returned : (K : Ledger) (c d : MadeCopy) → Apart c d → MayReturn K d →
    MayReturn (changed (returning c K) K) d
still_where_returned K c d apart may = (
  one (has_had_last K c),
  subst (λ held. is_held held d.number ≡ true) (sym (returned_lets_go K c))
      (still_held_beside K.copies.held c d apart may.1),
)
  where
    one : (b : Bool) → MayEnd (changed (cond b (ending RedeliveryExceeded c K) (frees c.number)) K) d
    one true = still_where_ended (end_by RedeliveryExceeded c K) (dead_queue K c) K c d apart may.0
    one false = record { own = may.0.own; below = may.0.below; spooled = may.0.spooled }

pub returns_allowed : (cs : List MadeCopy) (K : Ledger) → IsSound K → All (MayReturn K) cs → AllPairs Apart cs →
    AreAllowed (one_by_one returning cs K) K
returns_allowed = all_allowed returning MayReturn returning_allowed still_where_returned

-- all of them are let go
pub returns_let_go : (cs : List MadeCopy) (K : Ledger) →
    (all_changed (one_by_one returning cs K) K).copies.held ≡ all_let_go cs K.copies.held
returns_let_go [] K = refl
returns_let_go (c ∷ cs) K =
    returns_let_go cs (changed (returning c K) K) ∙ ap (all_let_go cs) (returned_lets_go K c)

-- and change no flow
ended_flows : (e : Ending) (queue : Option EndpointView) (K : Ledger) (c : MadeCopy) →
    (changed (ended_as e c K queue) K).flows ≡ K.flows
ended_flows (Discard cause) queue K c = refl
ended_flows Move None K c = refl
ended_flows Move (Some queue) K c = refl

pub returns_flows : (cs : List MadeCopy) (K : Ledger) → (all_changed (one_by_one returning cs K) K).flows ≡ K.flows
returns_flows [] K = refl
returns_flows (c ∷ cs) K = returns_flows cs (changed (returning c K) K) ∙ one (has_had_last K c)
  where
    one : (b : Bool) → (changed (cond b (ending RedeliveryExceeded c K) (frees c.number)) K).flows ≡ K.flows
    one true = ended_flows (end_by RedeliveryExceeded c K) (dead_queue K c) K c
    one false = refl
