-- Each unit has its number: a restart as long as a flow is bound, every other event below 2^62.
use Rattle.sp_access.specs.Flows.{flow_of}
use Rattle.sp_access.specs.Flow.{FlowView}
use Rattle.sp_base.specs.declared.refusal.Refusal.TheVariants.{NotHeld, UnknownEndpoint, UnknownFlow}
use Rattle.sp_copies.specs.History.{all_held, held_copy}
use Rattle.sp_copies.specs.declared.made.MadeCopy.{MadeCopy}
use Rattle.sp_endpoint.specs.Endpoint.{EndpointView}
use Rattle.sp_endpoint.specs.Endpoints.{named, numbered, queue_named}
use Rattle.sp_event.specs.declared.answer.Reply.TheVariants as replies
use Rattle.sp_event.specs.declared.request.Event.{Event}
use Rattle.sp_event.specs.declared.request.Event.TheVariants as events
use Rattle.sp_ledger.proofs.Decided.{OnAlways, always_on_found, always_unless}
use Rattle.sp_ledger.proofs.OneByOne.{changed_append}
use Rattle.sp_ledger.specs.Allowed.{HasNumber}
use Rattle.sp_ledger.specs.Changes.{Change, all_changed, unbinds_all}
use Rattle.sp_ledger.specs.Endings.{one_by_one, returning}
use Rattle.sp_ledger.specs.Events.{outcome, step}
use Rattle.sp_ledger.specs.Ledger.{Ledger}
use Rattle.sp_ledger.specs.Limits.{spent}
use Rattle.sp_ledger.specs.OnFlows.{all_given_back, restart, topic_check}
use Rattle.sp_ledger.specs.Sound.{IsLedger}
use Rattle.sp_ledger.specs.Step.{accepted, begun, carried_out, idle, is_unit, on_found}
use Rattle.std.proofs.Common.{ap, arith, refl, subst, sym, ◌∙◌}
use Rattle.std.proofs.lemmas.Bool.{ltb-false, ltb-true}
use Rattle.std.specs.Prelude.{Bool, List, [], cond, false, length, nat_lt, true, ℕ, ◌<◌, ◌++◌, ◌==◌, ◌∷◌, ◌≡◌, ◌≤◌}

-- flows that are bound aren't none
some_bound : (fs : List FlowView) → (length fs == 0) ≡ false → fs ≡ [] → ⊥
some_bound [] is none = cc
some_bound (f ∷ fs) is none = cc

-- as long as a flow is bound, a number is left
pub number_for_restart : (L : Ledger) → IsLedger L → (length L.flows == 0) ≡ false → L.next.unit ≤ spent
number_for_restart L s is = one (nat_lt spent L.next.unit) refl
  where
    one : (b : Bool) → nat_lt spent L.next.unit ≡ b → L.next.unit ≤ spent
    one true above = absurd (some_bound L.flows is (s.unbound (ltb-true spent L.next.unit above)))
    one false below = ltb-false spent L.next.unit below

-- where changes are a unit, it has its number
abbrev pub AreNumbered : ℕ → Ledger → List Change → Type 0
AreNumbered moment L changes = is_unit changes ≡ true → HasNumber L (all_changed changes (begun moment L))

-- where a flow is bound, a number is left for the restart, and no flow is bound after it
restart_has_number : (L : Ledger) → IsLedger L → (moment : ℕ) →
    OnAlways (AreNumbered moment L) (restart (begun moment L))
restart_has_number L s moment = one (length L.flows == 0) refl
  where
    B : Ledger
    B = begun moment L

    back : List Change
    back = one_by_one returning (all_held L.copies) B

    one : (b : Bool) → (length L.flows == 0) ≡ b → is_unit (cond b [] (all_given_back B)) ≡ true →
        HasNumber L (all_changed (cond b [] (all_given_back B)) B)
    one true is unit = absurd (cc)
    one false is unit = record {
      number = number_for_restart L s is;
      last = λ le. subst (λ (M : Ledger). M.flows ≡ []) (sym (changed_append back (unbinds_all ∷ []) B)) refl;
    }

-- every other event is refused where the unit's number is spent
pub step_has_number : (L : Ledger) → IsLedger L → (moment : ℕ) (caller : List ℕ) (event : Event) →
    OnAlways (AreNumbered moment L) (step caller event (begun moment L))
step_has_number L s moment caller event = one event
  where
    B : Ledger
    B = begun moment L

    Has : List Change → Type 0
    Has = AreNumbered moment L

    one : (event : Event) → OnAlways Has (step caller event B)
    one (events.Provision name kind settings) = tt
    one (events.Deprovision name) =
        always_on_found {X = EndpointView} Has (UnknownEndpoint name) _ (named name L.endpoints) (λ e. tt)
    one (events.Change name settings) =
        always_on_found {X = EndpointView} Has (UnknownEndpoint name) _ (named name L.endpoints) (λ e. tt)
    one (events.Subscribe name text) =
        always_on_found {X = EndpointView} Has (UnknownEndpoint name) _ (queue_named name L.endpoints) (λ e. tt)
    one (events.Unsubscribe name text) =
        always_on_found {X = EndpointView} Has (UnknownEndpoint name) _ (queue_named name L.endpoints) (λ e. tt)
    one (events.Publish m) = tt
    one (events.Bind name selector topic) =
        always_unless Has (topic_check topic) (on_found (named name L.endpoints) (UnknownEndpoint name) _)
        (always_on_found {X = EndpointView} Has (UnknownEndpoint name) _ (named name L.endpoints) (λ e. tt))
    one (events.Unbind flow) =
        always_on_found {X = FlowView} Has (UnknownFlow flow) _ (flow_of L.flows caller flow) (λ f. tt)
    one (events.Pull flow count) =
        always_on_found {X = FlowView} Has (UnknownFlow flow) _ (flow_of L.flows caller flow)
        (λ f. always_on_found {X = EndpointView} Has (UnknownFlow flow) _ (numbered f.endpoint L.endpoints) (λ e. tt))
    one (events.Settle flow copy outcome) =
        always_on_found {X = FlowView} Has (UnknownFlow flow) _ (flow_of L.flows caller flow)
        (λ f. always_on_found {X = MadeCopy} Has (NotHeld copy) _ (held_copy L.copies flow copy) (λ c. tt))
    one events.Tick = tt
    one (events.DeleteCopies name copy) =
        always_on_found {X = EndpointView} Has (UnknownEndpoint name) _ (named name L.endpoints) (λ e. tt)
    one events.Restart = restart_has_number L s moment

-- without flows a restart is idle
pub restart_idle : (L : Ledger) → L.flows ≡ [] → (moment : ℕ) (caller : List ℕ) →
    outcome moment caller events.Restart L ≡ idle (replies.Restart ∷ [])
restart_idle L none moment caller = one (length L.flows == 0) (ap (λ (fs : List FlowView). length fs == 0) none)
  where
    B : Ledger
    B = begun moment L

    one : (b : Bool) → b ≡ true → carried_out (cond b [] (all_given_back B)) replies.Restart B ≡ idle (replies.Restart ∷ [])
    one true is = refl
    one false is = absurd (cc)

-- with flows it is accepted, and leaves none
pub restart_accepted : (L : Ledger) → (length L.flows == 0) ≡ false → (moment : ℕ) (caller : List ℕ) →
    (M : Ledger) × (outcome moment caller events.Restart L ≡ accepted M (replies.Restart ∷ [])) × (M.flows ≡ [])
restart_accepted L some moment caller = one (length L.flows == 0) some
  where
    B : Ledger
    B = begun moment L

    back : List Change
    back = one_by_one returning (all_held L.copies) B

    end : Ledger
    end = all_changed (back ++ unbinds_all ∷ []) B

    unit : (cs : List Change) → carried_out (cs ++ unbinds_all ∷ []) replies.Restart B
        ≡ accepted (all_changed (cs ++ unbinds_all ∷ []) B) (replies.Restart ∷ [])
    unit [] = refl
    unit (c ∷ cs) = refl

    one : (b : Bool) → b ≡ false → (M : Ledger)
        × (carried_out (cond b [] (all_given_back B)) replies.Restart B ≡ accepted M (replies.Restart ∷ [])) × (M.flows ≡ [])
    one true is = absurd (cc)
    one false is = (
      end,
      unit back,
      subst (λ (M : Ledger). M.flows ≡ []) (sym (changed_append back (unbinds_all ∷ []) B)) refl,
    )
