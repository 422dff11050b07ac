-- What answers to queries tell is so, and tallies that are told are balanced.
use Rattle.sp_access.specs.Activity.{flows_of}
use Rattle.sp_access.specs.Flows.{flow_of}
use Rattle.sp_access.specs.Flow.{FlowView}
use Rattle.sp_base.specs.declared.refusal.Refusal.TheVariants.{NotHeld, UnknownEndpoint, UnknownFlow}
use Rattle.sp_copies.specs.History.{fate_of, held_copy}
use Rattle.sp_copies.specs.declared.made.MadeCopy.{MadeCopy}
use Rattle.sp_endpoint.specs.Endpoint.{EndpointView}
use Rattle.sp_endpoint.specs.Endpoints.{named, numbered, queue_named}
use Rattle.sp_event.specs.declared.answer.BoundFlow.{BoundFlow}
use Rattle.sp_event.specs.declared.answer.CopyFate.{CopyFate}
use Rattle.sp_event.specs.declared.answer.Reply.{Reply}
use Rattle.sp_event.specs.declared.answer.Reply.TheVariants as replies
use Rattle.sp_event.specs.declared.request.Event.{Event}
use Rattle.sp_event.specs.declared.request.Event.TheVariants as events
use Rattle.sp_event.specs.declared.request.Query.{Query}
use Rattle.sp_event.specs.declared.request.Query.TheVariants as queries
use Rattle.sp_ledger.proofs.Decided.{OnPassed, passed_on_found, passed_unless, passed_weaker, where_accepted}
use Rattle.sp_ledger.proofs.Decided.{where_idle}
use Rattle.sp_ledger.proofs.Tallies.{tally_balanced}
use Rattle.sp_ledger.proofs.Telling.{single}
use Rattle.sp_ledger.specs.Answer.{answer, answer_on, bound_flow, copy_reply, gave}
use Rattle.sp_ledger.specs.Changes.{Change}
use Rattle.sp_ledger.specs.Events.{outcome, step}
use Rattle.sp_ledger.specs.Ledger.{Ledger}
use Rattle.sp_ledger.specs.Limits.{spent}
use Rattle.sp_ledger.specs.OnFlows.{topic_check}
use Rattle.sp_ledger.specs.Sound.{IsSound}
use Rattle.sp_ledger.specs.Step.{accepted, begun, idle, on_found}
use Rattle.sp_ledger.specs.Tally.{IsBalanced, TellsBalanced, tally_in, told_tally}
use Rattle.sp_ledger.specs.Told.{ShowsFates}
use Rattle.std.proofs.Common.{refl, subst}
use Rattle.std.proofs.lemmas.List.Elements.{All-cons, All-nil}
use Rattle.std.specs.Prelude.{All, List, None, Option, Some, [], map, ℕ, ◌<◌, ◌∷◌, ◌≡◌}

-- a query's answer of a tally tells no fate, and that of a copy the fate that it has
module _ (P : Reply → Type 0) (L : Ledger) (r : Reply) where
  answered_on : (name : List ℕ) (found : Option EndpointView) →
      ((e : Option ℕ) → P (replies.Tally (tally_in L.copies e))) →
      answer_on found (UnknownEndpoint name) (λ e. replies.Tally (tally_in L.copies (Some e.number))) ≡ gave r → P r
  answered_on name None shown e = absurd (cc)
  answered_on name (Some found) shown e =
      subst P (let same : replies.Tally (tally_in L.copies (Some found.number)) ≡ r = cc in same)
      (shown (Some found.number))

  flows_on : (name : List ℕ) (found : Option EndpointView) →
      ((endpoint : List ℕ) (flows : List BoundFlow) → P (replies.Flows endpoint flows)) →
      answer_on found (UnknownEndpoint name)
      (λ e. replies.Flows e.name (map (bound_flow L e) (flows_of L.flows e.number))) ≡ gave r → P r
  flows_on name None shown e = absurd (cc)
  flows_on name (Some found) shown e =
      subst P (let same : replies.Flows found.name (map (bound_flow L found) (flows_of L.flows found.number)) ≡ r = cc in same)
      (shown found.name (map (bound_flow L found) (flows_of L.flows found.number)))

  pub each_answer : ((e : Option ℕ) → P (replies.Tally (tally_in L.copies e))) →
      ((copy : ℕ) → P (copy_reply L.copies copy)) →
      ((endpoint : List ℕ) (flows : List BoundFlow) → P (replies.Flows endpoint flows)) → (moment : ℕ) (caller : List ℕ) (q : Query) →
      answer moment caller q L ≡ gave r → P r
  each_answer tallies copies flows moment caller (queries.Tally None) e =
      subst P (let same : replies.Tally (tally_in L.copies None) ≡ r = cc in same) (tallies None)
  each_answer tallies copies flows moment caller (queries.Tally (Some name)) e =
      answered_on name (named name L.endpoints) tallies e
  each_answer tallies copies flows moment caller (queries.Copy copy) e =
      subst P (let same : copy_reply L.copies copy ≡ r = cc in same) (copies copy)
  each_answer tallies copies flows moment caller (queries.Flows name) e =
      flows_on name (named name L.endpoints) flows e

pub answer_shows : (L : Ledger) (moment : ℕ) (caller : List ℕ) (q : Query) (r : Reply) →
    answer moment caller q L ≡ gave r → ShowsFates L.copies r
answer_shows L moment caller q r e =
    each_answer (ShowsFates L.copies) L r (λ e. All-nil (λ (t : CopyFate). fate_of L.copies t.copy ≡ t.fate))
    (λ copy. All-cons (λ (t : CopyFate). fate_of L.copies t.copy ≡ t.fate) _ [] refl
    (All-nil (λ (t : CopyFate). fate_of L.copies t.copy ≡ t.fate)))
    (λ endpoint flows. All-nil (λ (t : CopyFate). fate_of L.copies t.copy ≡ t.fate)) moment caller q e

-- each tally that is told is balanced, and no event tells one
pub answer_balanced : (L : Ledger) → IsSound L → (moment : ℕ) (caller : List ℕ) (q : Query) (r : Reply) →
    answer moment caller q L ≡ gave r → TellsBalanced r
answer_balanced L s moment caller q r e =
    each_answer TellsBalanced L r balanced (λ copy t is. absurd (cc)) (λ endpoint flows t is. absurd (cc)) moment caller q e
  where
    balanced : (e : Option ℕ) → TellsBalanced (replies.Tally (tally_in L.copies e))
    balanced e t is = subst IsBalanced (let same : tally_in L.copies e ≡ t = cc in same) (tally_balanced L s e)

module _ (L : Ledger) where
  abbrev Silent : List Change → Reply → Type 0
  Silent changes reply = told_tally reply ≡ None

  silent : (caller : List ℕ) (event : Event) → OnPassed Silent (step caller event L)
  silent caller (events.Provision name kind settings) = λ p. refl
  silent caller (events.Deprovision name) =
      passed_on_found {X = EndpointView} Silent (UnknownEndpoint name) _ (named name L.endpoints) (λ e found p. refl)
  silent caller (events.Change name settings) =
      passed_on_found {X = EndpointView} Silent (UnknownEndpoint name) _ (named name L.endpoints) (λ e found p. refl)
  silent caller (events.Subscribe name text) =
      passed_on_found {X = EndpointView} Silent (UnknownEndpoint name) _ (queue_named name L.endpoints)
      (λ e found p. refl)
  silent caller (events.Unsubscribe name text) =
      passed_on_found {X = EndpointView} Silent (UnknownEndpoint name) _ (queue_named name L.endpoints)
      (λ e found p. refl)
  silent caller (events.Publish m) = λ p. refl
  silent caller (events.Bind name selector topic) =
      passed_unless Silent (topic_check topic) (on_found (named name L.endpoints) (UnknownEndpoint name) _)
      (passed_on_found {X = EndpointView} Silent (UnknownEndpoint name) _ (named name L.endpoints) (λ e found p. refl))
  silent caller (events.Unbind flow) =
      passed_on_found {X = FlowView} Silent (UnknownFlow flow) _ (flow_of L.flows caller flow) (λ f found p. refl)
  silent caller (events.Pull flow count) =
      passed_on_found {X = FlowView} Silent (UnknownFlow flow) _ (flow_of L.flows caller flow)
      (λ f found.
      passed_on_found {X = EndpointView} Silent (UnknownFlow flow) _ (numbered f.endpoint L.endpoints) (λ e there p. refl))
  silent caller (events.Settle flow copy outcome) =
      passed_on_found {X = FlowView} Silent (UnknownFlow flow) _ (flow_of L.flows caller flow)
      (λ f found.
      passed_on_found {X = MadeCopy} Silent (NotHeld copy) _ (held_copy L.copies flow copy) (λ c held p. refl))
  silent caller events.Tick = λ p. refl
  silent caller (events.DeleteCopies name copy) =
      passed_on_found {X = EndpointView} Silent (UnknownEndpoint name) _ (named name L.endpoints) (λ e found p. refl)
  silent caller events.Restart = refl

-- a reply without a tally
no_tally : (reply : Reply) → told_tally reply ≡ None → TellsBalanced reply
no_tally reply none t is = absurd (cc)

module _ (L : Ledger) (moment : ℕ) (caller : List ℕ) (event : Event) (told : List Reply) where
  pub accepted_balanced : (M : Ledger) → outcome moment caller event L ≡ accepted M told → All TellsBalanced told
  accepted_balanced M e =
      let B = begun moment L in
      where_accepted L B (λ m t. All TellsBalanced t) (step caller event B)
      (passed_weaker (Silent B) (λ changes reply. All TellsBalanced (reply ∷ []))
      (λ changes reply h. single TellsBalanced reply (no_tally reply h)) (step caller event B)
      (silent B caller event))
      M told e

  pub idle_balanced : outcome moment caller event L ≡ idle told → All TellsBalanced told
  idle_balanced e =
      let B = begun moment L in
      where_idle L B (λ t. All TellsBalanced t) (step caller event B)
      (passed_weaker (Silent B) (λ changes reply. changes ≡ [] → All TellsBalanced (reply ∷ []))
      (λ changes reply h empty. single TellsBalanced reply (no_tally reply h)) (step caller event B)
      (silent B caller event))
      told e
