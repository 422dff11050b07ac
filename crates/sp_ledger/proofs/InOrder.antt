-- Copies of a partition are handed out in order.
use Rattle.sp_access.specs.Flows.{flow_numbered, flow_of}
use Rattle.sp_access.specs.Flow.{FlowView}
use Rattle.sp_base.specs.declared.refusal.Refusal.TheVariants.{NotHeld, UnknownEndpoint, UnknownFlow}
use Rattle.sp_copies.specs.History.{held_by, held_copy}
use Rattle.sp_copies.specs.declared.made.MadeCopy.{MadeCopy}
use Rattle.sp_endpoint.specs.Endpoint.{EndpointView}
use Rattle.sp_endpoint.specs.Endpoints.{named, numbered, queue_named}
use Rattle.sp_event.specs.declared.answer.Reply.{Reply}
use Rattle.sp_event.specs.declared.answer.Reply.TheVariants as replies
use Rattle.sp_event.specs.declared.request.Event.{Event}
use Rattle.sp_event.specs.declared.request.Event.TheVariants as events
use Rattle.sp_event.specs.declared.request.Query.{Query}
use Rattle.sp_ledger.proofs.Telling.{single}
use Rattle.sp_ledger.proofs.Answered.{each_answer}
use Rattle.sp_ledger.proofs.CopiesKept.{kept_of}
use Rattle.sp_ledger.proofs.Decided.{OnPassed, passed_on_found, passed_unless, passed_weaker, where_accepted, where_idle}
use Rattle.sp_ledger.proofs.Deliveries.{all_delivered}
use Rattle.sp_ledger.proofs.EachKind.{begun_sound}
use Rattle.sp_ledger.proofs.HandedOut.{reach_rises}
use Rattle.sp_ledger.proofs.Listed.{and_left, find_passes, pairs_head, pairs_tail}
use Rattle.sp_ledger.proofs.TurnsTaken.{found_by_key}
use Rattle.sp_ledger.specs.Answer.{answer, gave}
use Rattle.sp_ledger.specs.Changes.{Change, holds}
use Rattle.sp_ledger.specs.Events.{outcome, step}
use Rattle.sp_ledger.specs.Ledger.{Ledger}
use Rattle.sp_ledger.specs.Limits.{spent}
use Rattle.sp_ledger.specs.OnFlows.{deliveries, pull, pulled, reach, topic_check}
use Rattle.sp_ledger.specs.Order.{HandsOutInOrder, KeepsOrder}
use Rattle.sp_ledger.specs.Sound.{IsLedger, IsSound}
use Rattle.sp_ledger.specs.Step.{Step, accepted, begun, does, idle, on_found}
use Rattle.std.proofs.Common.{arith, refl, suc, subst, sym, zero, ◌∙◌}
use Rattle.std.proofs.lemmas.Bool.{eqb-true}
use Rattle.std.proofs.lemmas.List.Elements.{All-weaker}
use Rattle.std.proofs.lemmas.List.Kept.{AllPairs-cons}
use Rattle.std.specs.Prelude.{All, AllPairs, Bool, Contains, List, Some, [], bytes_eq, length, map, min, take, ℕ, ◌&&◌}
use Rattle.std.specs.Prelude.{◌-◌, ◌<◌, ◌==◌, ◌∷◌, ◌≡◌}

contains_head : (n : ℕ) (ns : List ℕ) → Contains (n ∷ ns) n
contains_head n ns = (0, omega arith, refl)

contains_tail : (n m : ℕ) (ns : List ℕ) → Contains ns m → Contains (n ∷ ns) m
contains_tail n m ns h = let lt = h.1 in (suc h.0, omega (arith, lt), h.2)

contains_later : (n m : ℕ) (ns : List ℕ) → n < m → Contains (n ∷ ns) m → Contains ns m
contains_later n m ns less (zero, lt, is) = absurd (let same : n ≡ m = is in omega (arith, less, same))
contains_later n m ns less (suc k, lt, is) = (k, omega (arith, lt), is)

-- of the first of some copies, whose numbers rise, a later one isn't without an earlier one
first_in_order : (n : ℕ) (cs : List MadeCopy) → AllPairs (λ c d. c.number < d.number) cs →
    AllPairs (λ c d. Contains (map (λ x. x.number) (take n cs)) d.number →
    Contains (map (λ x. x.number) (take n cs)) c.number) cs
first_in_order zero cs rise = λ i j d lt below h. absurd (let none = h.1 in omega (arith, none))
first_in_order (suc n) [] rise = λ i j d lt below h. absurd (omega (arith, below))
first_in_order (suc n) (c ∷ cs) rise =
    let firsts = map (λ (x : MadeCopy). x.number) (take n cs) in
    AllPairs-cons {X = MadeCopy} (λ a b. Contains (c.number ∷ firsts) b.number → Contains (c.number ∷ firsts) a.number) c cs
    (All-weaker (λ (b : MadeCopy). c.number < b.number)
    (λ (b : MadeCopy). Contains (c.number ∷ firsts) b.number → Contains (c.number ∷ firsts) c.number)
    (λ b less h. contains_head c.number firsts) cs (pairs_head (λ (a b : MadeCopy). a.number < b.number) c cs rise))
    (λ i j d lt below h.
    contains_tail c.number _ firsts
    (first_in_order n cs (pairs_tail (λ (a b : MadeCopy). a.number < b.number) c cs rise) i j d lt below
    (contains_later c.number _ firsts (pairs_head (λ (a b : MadeCopy). a.number < b.number) c cs rise j d below) h)))

-- no query's answer hands copies out
pub answer_in_order : (L B : Ledger) (moment : ℕ) (caller : List ℕ) (q : Query) (r : Reply) →
    answer moment caller q L ≡ gave r → HandsOutInOrder B r
answer_in_order L B moment caller q r e =
    each_answer (HandsOutInOrder B) L r (λ endpoint. tt) (λ copy. tt) (λ endpoint flows. tt) moment caller q e

-- so a pull keeps the order
pulled_in_order : (L : Ledger) → IsSound L → (e : EndpointView) (flow count : ℕ) →
    KeepsOrder L e flow (map (λ d. d.copy) (deliveries L (pulled L e flow count)))
pulled_in_order L s e flow count =
    subst (KeepsOrder L e flow) (sym (all_delivered L s e flow count))
    (λ i j d lt below same h.
    first_in_order (min count (e.attributes.max_delivered_unacked_msgs_per_flow - length (held_by L.copies flow)))
    (reach L e flow) (reach_rises L e flow count (kept_of L s).history) i j d lt below h)

module _ (L : Ledger) (s : IsSound L) where
  abbrev InOrder : List Change → Reply → Type 0
  InOrder changes reply = HandsOutInOrder L reply

  pull_in_order : (caller : List ℕ) (flow count : ℕ) → OnPassed InOrder (pull caller flow count L)
  pull_in_order caller flow count =
      passed_on_found {X = FlowView} InOrder (UnknownFlow flow)
      (λ f. on_found (numbered f.endpoint L.endpoints) (UnknownFlow flow) on_endpoint) (flow_of L.flows caller flow)
      (λ f found.
      passed_on_found {X = EndpointView} InOrder (UnknownFlow flow) on_endpoint (numbered f.endpoint L.endpoints)
      (λ e there p g d is at. by_found f found e there g is d at))
    where
      on_endpoint : EndpointView → Step
      on_endpoint e =
          does [] (map (λ c. holds c.number flow) (pulled L e flow count))
          (replies.Pull flow (deliveries L (pulled L e flow count)))

      own : FlowView → Bool
      own g = (g.number == flow) && bytes_eq g.caller caller

      by_found : (f : FlowView) → flow_of L.flows caller flow ≡ Some f → (e : EndpointView) →
          numbered f.endpoint L.endpoints ≡ Some e → (g : FlowView) → flow_numbered L.flows flow ≡ Some g →
          (d : EndpointView) → numbered g.endpoint L.endpoints ≡ Some d →
          KeepsOrder L d flow (map (λ x. x.copy) (deliveries L (pulled L e flow count)))
      by_found f found e there g is d at =
          let number : f.number ≡ flow = eqb-true _ _ (and_left (f.number == flow) _ (find_passes own L.flows f found)) in
          let again : flow_numbered L.flows flow ≡ Some f = subst (λ n. flow_numbered L.flows n ≡ Some f) number
          (found_by_key {X = FlowView} (λ x. x.number) own L.flows f s.flows.rise found) in
          let same_flow : f ≡ g = let e2 : Some f ≡ Some g = sym again ∙ is in cc in
          let same : e ≡ d = let e2 : Some e ≡ Some d = sym (subst (λ x. numbered x.endpoint L.endpoints ≡ Some e)
          same_flow there) ∙ at in cc in
          subst (λ x. KeepsOrder L x flow (map (λ y. y.copy) (deliveries L (pulled L e flow count)))) same
          (pulled_in_order L s e flow count)

  all_in_order : (caller : List ℕ) (event : Event) → OnPassed InOrder (step caller event L)
  all_in_order caller (events.Provision name kind settings) = λ p. tt
  all_in_order caller (events.Deprovision name) =
      passed_on_found {X = EndpointView} InOrder (UnknownEndpoint name) _ (named name L.endpoints) (λ e found p. tt)
  all_in_order caller (events.Change name settings) =
      passed_on_found {X = EndpointView} InOrder (UnknownEndpoint name) _ (named name L.endpoints) (λ e found p. tt)
  all_in_order caller (events.Subscribe name text) =
      passed_on_found {X = EndpointView} InOrder (UnknownEndpoint name) _ (queue_named name L.endpoints) (λ e found p. tt)
  all_in_order caller (events.Unsubscribe name text) =
      passed_on_found {X = EndpointView} InOrder (UnknownEndpoint name) _ (queue_named name L.endpoints) (λ e found p. tt)
  all_in_order caller (events.Publish m) = λ p. tt
  all_in_order caller (events.Bind name selector topic) =
      passed_unless InOrder (topic_check topic) (on_found (named name L.endpoints) (UnknownEndpoint name) _)
      (passed_on_found {X = EndpointView} InOrder (UnknownEndpoint name) _ (named name L.endpoints) (λ e found p. tt))
  all_in_order caller (events.Unbind flow) =
      passed_on_found {X = FlowView} InOrder (UnknownFlow flow) _ (flow_of L.flows caller flow) (λ f found p. tt)
  all_in_order caller (events.Pull flow count) = pull_in_order caller flow count
  all_in_order caller (events.Settle flow copy outcome) =
      passed_on_found {X = FlowView} InOrder (UnknownFlow flow) _ (flow_of L.flows caller flow)
      (λ f found.
      passed_on_found {X = MadeCopy} InOrder (NotHeld copy) _ (held_copy L.copies flow copy) (λ c held p. tt))
  all_in_order caller events.Tick = λ p. tt
  all_in_order caller (events.DeleteCopies name copy) =
      passed_on_found {X = EndpointView} InOrder (UnknownEndpoint name) _ (named name L.endpoints) (λ e found p. tt)
  all_in_order caller events.Restart = tt

module _ (L : Ledger) (s : IsLedger L) (moment : ℕ) (caller : List ℕ) (event : Event) (told : List Reply) where
  pub accepted_in_order : (M : Ledger) → outcome moment caller event L ≡ accepted M told →
      All (HandsOutInOrder (begun moment L)) told
  accepted_in_order M e =
      let B = begun moment L in
      where_accepted L B (λ m t. All (HandsOutInOrder B) t) (step caller event B)
      (passed_weaker (InOrder B (begun_sound moment L s.sound)) (λ changes reply. All (HandsOutInOrder B) (reply ∷ []))
      (λ changes reply h. single (HandsOutInOrder B) reply h) (step caller event B)
      (all_in_order B (begun_sound moment L s.sound) caller event))
      M told e

  pub idle_in_order : outcome moment caller event L ≡ idle told → All (HandsOutInOrder (begun moment L)) told
  idle_in_order e =
      let B = begun moment L in
      where_idle L B (λ t. All (HandsOutInOrder B) t) (step caller event B)
      (passed_weaker (InOrder B (begun_sound moment L s.sound)) (λ changes reply. changes ≡ [] →
      All (HandsOutInOrder B) (reply ∷ []))
      (λ changes reply h empty. single (HandsOutInOrder B) reply h) (step caller event B)
      (all_in_order B (begun_sound moment L s.sound) caller event))
      told e
