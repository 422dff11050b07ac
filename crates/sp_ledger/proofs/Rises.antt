-- Refusals' numbers never fall along the checks of a step, and the least is told.
use Rattle.sp_access.specs.Flows.{flow_of}
use Rattle.sp_access.specs.Flow.{FlowView}
use Rattle.sp_base.specs.Refusal.{number_of}
use Rattle.sp_base.specs.declared.refusal.Refusal.{Refusal}
use Rattle.sp_base.specs.declared.refusal.Refusal.TheVariants.{NotHeld, UnknownEndpoint, UnknownFlow}
use Rattle.sp_copies.specs.History.{held_copy}
use Rattle.sp_copies.specs.declared.made.MadeCopy.{MadeCopy}
use Rattle.sp_endpoint.specs.Endpoint.{EndpointView}
use Rattle.sp_endpoint.specs.Endpoints.{named, numbered, queue_named}
use Rattle.sp_endpoint.specs.Takers.{takers}
use Rattle.sp_event.specs.declared.answer.Reply.{Reply}
use Rattle.sp_event.specs.declared.request.Event.{Event}
use Rattle.sp_event.specs.declared.request.Event.TheVariants as events
use Rattle.sp_ledger.specs.Changes.{Change, publishes}
use Rattle.sp_ledger.specs.Events.{outcome, step}
use Rattle.sp_ledger.specs.Ledger.{Ledger}
use Rattle.sp_ledger.specs.OnFlows.{topic_check}
use Rattle.sp_ledger.specs.Publish.{quota_check, share_for}
use Rattle.sp_ledger.specs.Rising.{NeverFall, checks_of}
use Rattle.sp_ledger.specs.Step.{Check, Step, always, begun, carried_out, decided, does, first_refusal, lacks, on_found}
use Rattle.sp_ledger.specs.Step.{outcome_of, refused, rule, unit_check, unless}
use Rattle.sp_message.specs.Size.{size_of}
use Rattle.sp_message.specs.declared.message.Message.{Message}
use Rattle.std.proofs.Common.{ap, append_assoc, arith, le_trans, refl, subst, sym, ◌∙◌}
use Rattle.std.proofs.lemmas.List.Elements.{All-cons, All-nil}
use Rattle.std.specs.Prelude.{All, Bool, List, None, Option, Some, [], cond, false, map, true, ℕ, ◌++◌, ◌∷◌, ◌≡◌, ◌≤◌}

rise_under : (least more : ℕ) (checks : List Check) → least ≤ more → NeverFall more checks → NeverFall least checks
rise_under least more [] le h = tt
rise_under least more (c ∷ cs) le h = (le_trans le h.0, h.1)

-- a check of one number for each element
rise_each : {X : Type 0} (n : ℕ) (check : X → Check) (xs : List X) (more : List Check) →
    ((x : X) → number_of (check x).refusal ≡ n) → NeverFall n more → NeverFall n (map check xs ++ more)
rise_each n check [] more same h = h
rise_each n check (x ∷ xs) more same h = (
  let here = same x in
      omega (arith, here),
  subst (λ k. NeverFall k (map check xs ++ more)) (sym (same x))
      (rise_each n check xs more same h),
)

module _ (L : Ledger) where
  abbrev Rise : Step → Type 0
  Rise s = NeverFall 0 (checks_of L s)

  rise_found : {X : Type 0} (refusal : Refusal) (s : X → Step) (found : Option X) → ((x : X) → Rise (s x)) →
      Rise (on_found found refusal s)
  rise_found refusal s None h = (omega arith, tt)
  rise_found refusal s (Some x) h = h x

  rise_unless : (check : Check) (s : Step) → Rise s → Rise (unless check s)
  rise_unless check s h = one check.broken
    where
      one : (b : Bool) → Rise (cond b (lacks check.refusal) s)
      one true = (omega arith, tt)
      one false = h

  -- what a publish changes
  abbrev published : Message → Ledger → List Change
  published m B = publishes m (map (share_for m B.next.message B.now) (takers B.endpoints m)) ∷ []

  pub step_rises : (caller : List ℕ) (event : Event) (B : Ledger) → Rise (step caller event B)
  step_rises caller (events.Provision name kind settings) B =
      (omega arith, (omega arith, (omega arith, (omega arith, (omega arith, tt)))))
  step_rises caller (events.Deprovision name) B =
      rise_found {X = EndpointView} (UnknownEndpoint name) _ (named name B.endpoints)
      (λ e. (omega arith, (omega arith, tt)))
  step_rises caller (events.Change name settings) B =
      rise_found {X = EndpointView} (UnknownEndpoint name) _ (named name B.endpoints)
      (λ e. (omega arith, (omega arith, (omega arith, tt))))
  step_rises caller (events.Subscribe name text) B =
      rise_found {X = EndpointView} (UnknownEndpoint name) _ (queue_named name B.endpoints)
      (λ queue. (omega arith, (omega arith, (omega arith, tt))))
  step_rises caller (events.Unsubscribe name text) B =
      rise_found {X = EndpointView} (UnknownEndpoint name) _ (queue_named name B.endpoints)
      (λ queue. (omega arith, (omega arith, tt)))
  step_rises caller (events.Publish m) B = (
    omega arith,
    subst (NeverFall 7) (sym
        (append_assoc (map (quota_check B (size_of m)) (takers B.endpoints m)) _ (unit_check L (published m B) ∷ [])))
        (rise_under 7 18 _ (omega arith)
        (rise_each {X = EndpointView} 18 (quota_check B (size_of m)) (takers B.endpoints m) _ (λ e. refl)
        (omega arith, (omega arith, (omega arith, tt))))),
  )
  step_rises caller (events.Bind name selector topic) B =
      rise_unless (topic_check topic) (on_found (named name B.endpoints) (UnknownEndpoint name) _)
      (rise_found {X = EndpointView} (UnknownEndpoint name) _ (named name B.endpoints)
      (λ e. (omega arith, (omega arith, (omega arith, (omega arith, (omega arith, tt)))))))
  step_rises caller (events.Unbind flow) B =
      rise_found {X = FlowView} (UnknownFlow flow) _ (flow_of B.flows caller flow) (λ f. (omega arith, tt))
  step_rises caller (events.Pull flow count) B =
      rise_found {X = FlowView} (UnknownFlow flow) _ (flow_of B.flows caller flow)
      (λ f. rise_found {X = EndpointView} (UnknownFlow flow) _ (numbered f.endpoint B.endpoints) (λ e. (omega arith, tt)))
  step_rises caller (events.Settle flow copy outcome) B =
      rise_found {X = FlowView} (UnknownFlow flow) _ (flow_of B.flows caller flow)
      (λ f. rise_found {X = MadeCopy} (NotHeld copy) _ (held_copy B.copies flow copy) (λ c. (omega arith, tt)))
  step_rises caller events.Tick B = (omega arith, tt)
  step_rises caller (events.DeleteCopies name copy) B =
      rise_found {X = EndpointView} (UnknownEndpoint name) _ (named name B.endpoints) (λ e. (omega arith, tt))
  step_rises caller events.Restart B = tt

-- along such checks each number is at least the one before all
abbrev AtLeast : ℕ → Check → Type 0
AtLeast least c = c.broken ≡ true → least ≤ number_of c.refusal

none_below : (least : ℕ) (checks : List Check) → NeverFall least checks → All (AtLeast least) checks
none_below least [] h = All-nil (AtLeast least)
none_below least (c ∷ cs) h =
    All-cons (AtLeast least) c cs (λ broken. h.0)
    (none_below least cs (rise_under least (number_of c.refusal) cs h.0 h.1))

-- the refusal that is told is of the least number of those that are broken
pub least_told : (least : ℕ) (checks : List Check) → NeverFall least checks → (refusal : Refusal) →
    first_refusal checks ≡ Some refusal → All (λ c. c.broken ≡ true → number_of refusal ≤ number_of c.refusal) checks
least_told least [] h refusal e = absurd (cc)
least_told least (c ∷ cs) h refusal e = one (least_told (number_of c.refusal) cs h.1 refusal) c.broken refl e
  where
    one : (first_refusal cs ≡ Some refusal → All (AtLeast (number_of refusal)) cs) → (b : Bool) → c.broken ≡ b →
        cond b (Some c.refusal) (first_refusal cs) ≡ Some refusal → All (AtLeast (number_of refusal)) (c ∷ cs)
    one later true is k =
        let same : c.refusal ≡ refusal = cc in
        subst (λ r. All (AtLeast (number_of r)) (c ∷ cs)) same
        (All-cons (AtLeast (number_of c.refusal)) c cs (λ broken. omega arith)
        (none_below (number_of c.refusal) cs h.1))
    one later false is k = All-cons (AtLeast (number_of refusal)) c cs (λ broken. absurd (cc)) (later k)

-- so what a step is refused is the least
module _ (L B : Ledger) where
  -- what is carried out isn't refused
  never : (changes : List Change) (reply : Reply) (refusal : Refusal) → carried_out changes reply B ≡ refused refusal → ⊥
  never [] reply refusal k = cc
  never (c ∷ cs) reply refusal k = cc

  refused_least : (s : Step) → NeverFall 0 (checks_of L s) → (refusal : Refusal) →
      outcome_of L B s ≡ refused refusal → All (AtLeast (number_of refusal)) (checks_of L s)
  refused_least (lacks other) rise refusal e =
      let same : other ≡ refusal = cc in
      subst (λ r. All (AtLeast (number_of r)) (rule true other ∷ [])) same
      (All-cons (AtLeast (number_of other)) (rule true other) [] (λ broken. omega arith)
      (All-nil (AtLeast (number_of other))))
  refused_least (does checks changes reply) rise refusal e =
      one (first_refusal (checks ++ unit_check L changes ∷ [])) refl e
    where
      one : (first : Option Refusal) → first_refusal (checks ++ unit_check L changes ∷ []) ≡ first →
          decided first (carried_out changes reply B) ≡ refused refusal →
          All (AtLeast (number_of refusal)) (checks ++ unit_check L changes ∷ [])
      one (Some other) is k =
          let same : other ≡ refusal = cc in
          least_told 0 (checks ++ unit_check L changes ∷ []) rise refusal (is ∙ ap (λ r. Some r) same)
      one None is k = absurd (never changes reply refusal k)
  refused_least (always changes reply) rise refusal e = absurd (never changes reply refusal e)

pub event_least : (L : Ledger) (moment : ℕ) (caller : List ℕ) (event : Event) (refusal : Refusal) →
    outcome moment caller event L ≡ refused refusal →
    All (λ c. c.broken ≡ true → number_of refusal ≤ number_of c.refusal)
    (checks_of L (step caller event (begun moment L)))
event_least L moment caller event refusal e = let B = begun moment L in
    refused_least L B (step caller event B) (step_rises L caller event B) refusal e
