-- Events that end copies, or give them back: what they are decided on, and what their plans come to.
use Rattle.sp_access.specs.Flow.{FlowView}
use Rattle.sp_access.specs.Flows.{flow_of}
use Rattle.sp_base.specs.Declined.{Obeys}
use Rattle.sp_base.specs.declared.declined.Declined.{Declined}
use Rattle.sp_base.specs.declared.refusal.Refusal.{Refusal}
use Rattle.sp_base.specs.declared.refusal.Refusal.TheVariants.{NotHeld, UnknownEndpoint, UnknownFlow}
use Rattle.sp_copies.proofs.Chosen.{Apart, all_held_apart, held_apart}
use Rattle.sp_copies.specs.Due.{due_copies}
use Rattle.sp_copies.specs.History.{all_held, held_copies, held_copy}
use Rattle.sp_copies.specs.Kept.{Kept}
use Rattle.sp_copies.specs.declared.closed.Cause.TheVariants.{Deleted}
use Rattle.sp_copies.specs.declared.closed.Closing.TheVariants.{Discarded}
use Rattle.sp_copies.specs.declared.closed.Fate.TheVariants as fates
use Rattle.sp_copies.specs.declared.made.MadeCopy.{MadeCopy}
use Rattle.sp_core.proofs.Deciding.{on_none, on_one}
use Rattle.sp_core.specs.Decided.{judged, verdict}
use Rattle.sp_endpoint.specs.Endpoint.{EndpointView}
use Rattle.sp_endpoint.specs.Endpoints.{named, numbered}
use Rattle.sp_ending.specs.Ends.{MayAll, MayEnd, MayReturn}
use Rattle.sp_ending.specs.Plans.{delete_plan, expiry_plan, restart_plan, settle_plan, unbind_plan}
use Rattle.sp_ending.specs.Tabled.{Tabled}
use Rattle.sp_event.specs.declared.answer.CopyFate.{CopyFate}
use Rattle.sp_event.specs.declared.answer.Reply.TheVariants as replies
use Rattle.sp_event.specs.declared.request.Outcome.{Outcome}
use Rattle.sp_ledger.proofs.CopiesKept.{kept_of}
use Rattle.sp_ledger.proofs.EachKind.{begun_sound}
use Rattle.sp_ledger.proofs.Steps.{all_held_may, due_differ, due_may, held_all_may, held_may}
use Rattle.sp_ledger.specs.Changes.{changed, closes, holds, unbinds, unbinds_all}
use Rattle.sp_ledger.specs.Endings.{all_told, fate_by, one_by_one, returning}
use Rattle.sp_ledger.specs.Ledger.{Ledger, Published}
use Rattle.sp_ledger.specs.Limits.{most_ended}
use Rattle.sp_ledger.specs.OnCopies.{delete_copies, deleted, deletions, tick}
use Rattle.sp_ledger.specs.OnFlows.{all_given_back, deliveries, given_back, pull, pulled, restart, settle, settling, unbind}
use Rattle.sp_ledger.specs.Sound.{IsSound}
use Rattle.sp_ledger.specs.Step.{Step, always, begun, does, first_refusal, on_found, unit_check}
use Rattle.sp_plan.specs.Plan.{PlanState}
use Rattle.std.proofs.Common.{ap, arith, refl, subst, sym, ◌∙◌}
use Rattle.std.proofs.lemmas.List.Elements.{All-cons, All-nil}
use Rattle.std.proofs.lemmas.List.Kept.{AllPairs-cons}
use Rattle.std.specs.Prelude.{AllPairs, Err, List, None, Ok, Option, Result, Some, [], cond, false, length, map, take, true, ℕ, ◌++◌, ◌-◌, ◌==◌, ◌∷◌, ◌≡◌}

-- the tables stand for the ledger in which a unit was begun
pub begun_tabled : (rows : List EndpointView) (kept : Kept) (published : List Published) (moment : ℕ) (L : Ledger) →
    Tabled rows kept published L → Tabled rows kept published (begun moment L)
begun_tabled rows kept published moment L t =
    record { endpoints = t.endpoints; copies = t.copies; messages = t.messages }

-- what may end in that ledger
module _ (moment : ℕ) (L : Ledger) (s : IsSound L) where
  abbrev B : Ledger
  B = begun moment L

  -- the copies that are due
  pub due_may_all : MayAll MayEnd (take most_ended (due_copies B.copies B.now)) B
  due_may_all = record {
    sound = begun_sound moment L s;
    each = due_may B (begun_sound moment L s);
    apart = due_differ B (begun_sound moment L s);
  }

  -- what a flow holds
  pub held_may_all : (flow : ℕ) → MayAll MayReturn (held_copies B.copies flow) B
  held_may_all flow = record {
    sound = begun_sound moment L s;
    each = held_all_may B (begun_sound moment L s) flow;
    apart = held_apart B.copies flow (kept_of B (begun_sound moment L s)).history;
  }

  -- what all flows hold
  pub all_held_may_all : MayAll MayReturn (all_held B.copies) B
  all_held_may_all = record {
    sound = begun_sound moment L s;
    each = all_held_may B (begun_sound moment L s);
    apart = all_held_apart B.copies (kept_of B (begun_sound moment L s)).history;
  }

  -- and one copy of it
  pub one_may : (flow copy : ℕ) (c : MadeCopy) → held_copy B.copies flow copy ≡ Some c → MayAll MayReturn (c ∷ []) B
  one_may flow copy c found = record {
    sound = begun_sound moment L s;
    each = All-cons (MayReturn B) c [] (held_may B (begun_sound moment L s) flow copy c found).0 (All-nil (MayReturn B));
    apart = AllPairs-cons Apart c [] (All-nil (Apart c)) no_pairs;
  }
    where
      no_pairs : AllPairs Apart []
      no_pairs i j d lt le = absurd (omega (arith, le))

-- the plan of a pull that hands out these copies
abbrev pub pull_plan : ℕ → List MadeCopy → Ledger → PlanState
pull_plan flow copies L = record {
  changes = map (λ c. holds c.number flow) copies;
  reply = replies.Pull flow (deliveries L copies);
}

-- a plan whose step has no checks of its own, judged by the unit's
abbrev pub IsJudged : Ledger → PlanState → Result PlanState (Declined Refusal) → Type 0
IsJudged L plan result = Obeys (judged (first_refusal (unit_check L plan.changes ∷ [])) plan) result

module _ (L : Ledger) (result : Result PlanState (Declined Refusal)) (plan : PlanState) (judged_so : IsJudged L plan result) where
  -- the plan is that of a step on what was found
  obeys_found : {X : Type 0} (found : Option X) (x : X) (refusal : Refusal) (s : X → Step) → Some x ≡ found →
      (right : PlanState) → plan ≡ right → verdict L (s x) ≡ judged (first_refusal (unit_check L right.changes ∷ [])) right →
      Obeys (verdict L (on_found found refusal s)) result
  obeys_found found x refusal s there right is step =
      subst (λ (v : Result PlanState Refusal). Obeys v result) (sym (on_one L found x refusal s there ∙ step))
      (subst (λ (p : PlanState). IsJudged L p result) is judged_so)

  pub tick_obeys : (moment : ℕ) (due : List MadeCopy) →
      due ≡ take most_ended (due_copies (begun moment L).copies (begun moment L).now) →
      plan ≡ expiry_plan due (begun moment L) → Obeys (verdict L (tick (begun moment L))) result
  tick_obeys moment due those is =
      subst (λ (p : PlanState). IsJudged L p result)
      (is ∙ ap (λ (cs : List MadeCopy). expiry_plan cs (begun moment L)) those) judged_so

  pub pull_obeys : (moment : ℕ) (caller : List ℕ) (flow count : ℕ) (f : FlowView) → Some f ≡ flow_of L.flows caller flow →
      (e : EndpointView) → Some e ≡ numbered f.endpoint L.endpoints → (copies : List MadeCopy) →
      copies ≡ pulled (begun moment L) e flow count → plan ≡ pull_plan flow copies L →
      Obeys (verdict L (pull caller flow count (begun moment L))) result
  pull_obeys moment caller flow count f there e at copies those is =
      obeys_found {X = FlowView} (flow_of L.flows caller flow) f (UnknownFlow flow) on_flow there
      (pull_plan flow (pulled (begun moment L) e flow count) L)
      (is ∙ ap (λ (cs : List MadeCopy). pull_plan flow cs L) those)
      (on_one L (numbered f.endpoint L.endpoints) e (UnknownFlow flow) on_endpoint at)
    where
      on_endpoint : EndpointView → Step
      on_endpoint x =
          does [] (map (λ c. holds c.number flow) (pulled (begun moment L) x flow count))
          (replies.Pull flow (deliveries (begun moment L) (pulled (begun moment L) x flow count)))

      on_flow : FlowView → Step
      on_flow g = on_found (numbered g.endpoint L.endpoints) (UnknownFlow flow) on_endpoint

  pub unbind_obeys : (moment : ℕ) (caller : List ℕ) (flow : ℕ) (f : FlowView) → Some f ≡ flow_of L.flows caller flow →
      (held : List MadeCopy) → held ≡ held_copies L.copies flow → plan ≡ unbind_plan flow held (begun moment L) →
      Obeys (verdict L (unbind caller flow (begun moment L))) result
  unbind_obeys moment caller flow f there held those is =
      let M = begun moment L in
      obeys_found {X = FlowView} (flow_of L.flows caller flow) f (UnknownFlow flow) (λ g. on_flow M) there
      (unbind_plan flow (held_copies L.copies flow) M)
      (is ∙ ap (λ (cs : List MadeCopy). unbind_plan flow cs M) those) refl
    where
      on_flow : Ledger → Step
      on_flow M =
          does [] (given_back M flow ++ unbinds flow ∷ [])
          (replies.Unbind flow (all_told (given_back M flow) M)
          (length (held_copies M.copies flow) - length (all_told (given_back M flow) M)))

  pub settle_obeys : (moment : ℕ) (caller : List ℕ) (flow copy : ℕ) (outcome : Outcome) → IsSound L → (f : FlowView) →
      Some f ≡ flow_of L.flows caller flow → (c : MadeCopy) → Some c ≡ held_copy L.copies flow copy →
      plan ≡ settle_plan outcome c (begun moment L) →
      Obeys (verdict L (settle caller flow copy outcome (begun moment L))) result
  settle_obeys moment caller flow copy outcome s f there c held is =
      let M = begun moment L in
      let number = (held_may M (begun_sound moment L s) flow copy c (sym held)).1 in
      let own : PlanState = record {
        changes = settling outcome c M ∷ [];
        reply = replies.Settle copy (fate_by (settling outcome c M) M);
      } in
      obeys_found {X = FlowView} (flow_of L.flows caller flow) f (UnknownFlow flow) (λ g. on_flow M) there own
      (is ∙ (λ i. record {
        changes = settling outcome c M ∷ [];
        reply = replies.Settle (number i) (fate_by (settling outcome c M) M);
      }))
      (on_one L (held_copy L.copies flow copy) c (NotHeld copy) (on_copy M) held)
    where
      on_copy : Ledger → MadeCopy → Step
      on_copy M x = does [] (settling outcome x M ∷ []) (replies.Settle copy (fate_by (settling outcome x M) M))

      on_flow : Ledger → Step
      on_flow M = on_found (held_copy M.copies flow copy) (NotHeld copy) (on_copy M)

  -- what is told of a delete
  told_deletions : (cs : List MadeCopy) (K : Ledger) →
      all_told (map (λ c. closes c.number (Discarded Deleted)) cs) K
      ≡ map (λ c. record { copy = c.number; fate = fates.Discarded Deleted }) cs
  told_deletions [] K = refl
  told_deletions (c ∷ cs) K =
      ap (λ (ts : List CopyFate). record { copy = c.number; fate = fates.Discarded Deleted } ∷ ts)
      (told_deletions cs (changed (closes c.number (Discarded Deleted)) K))

  pub delete_obeys : (moment : ℕ) (name : List ℕ) (copy : Option ℕ) (e : EndpointView) →
      Some e ≡ named name L.endpoints → (cs : List MadeCopy) → cs ≡ deleted L e copy → plan ≡ delete_plan e.name cs →
      Obeys (verdict L (delete_copies name copy (begun moment L))) result
  delete_obeys moment name copy e there cs those is =
      let M = begun moment L in
      let right : PlanState =
      record { changes = deletions M e copy; reply = replies.DeleteCopies e.name (all_told (deletions M e copy) M) } in
      obeys_found {X = EndpointView} (named name L.endpoints) e (UnknownEndpoint name) (on_endpoint M) there right
      (is ∙ (ap (λ (ds : List MadeCopy). delete_plan e.name ds) those
      ∙ (λ i. record {
        changes = deletions M e copy;
        reply = replies.DeleteCopies e.name (sym (told_deletions (deleted M e copy) M) i);
      }))) refl
    where
      on_endpoint : Ledger → EndpointView → Step
      on_endpoint M x = does [] (deletions M x copy) (replies.DeleteCopies x.name (all_told (deletions M x copy) M))

-- where flows are bound, all that is held is given back by a restart
pub restart_planned : (L : Ledger) (flows : List FlowView) → flows ≡ L.flows → (moment : ℕ) (held : List MadeCopy) →
    held ≡ all_held L.copies → (length flows == 0) ≡ false →
    verdict L (restart (begun moment L)) ≡ Ok (restart_plan held (begun moment L))
restart_planned L flows same moment held those some =
    let B = begun moment L in
    ap (λ b. verdict L (always (cond b [] (all_given_back B)) replies.Restart))
    (ap (λ (fs : List FlowView). length fs == 0) (sym same) ∙ some)
    ∙ ap (λ (cs : List MadeCopy). verdict L (always (one_by_one returning cs B ++ unbinds_all ∷ []) replies.Restart))
    (sym those)

-- a copy that the flow doesn't hold is refused
pub settle_unheld : (L : Ledger) (moment : ℕ) (caller : List ℕ) (flow copy : ℕ) (outcome : Outcome) (f : FlowView) →
    Some f ≡ flow_of L.flows caller flow → None ≡ held_copy L.copies flow copy →
    verdict L (settle caller flow copy outcome (begun moment L)) ≡ Err (NotHeld copy)
settle_unheld L moment caller flow copy outcome f there unheld =
    on_one L (flow_of L.flows caller flow) f (UnknownFlow flow) (λ g. on_flow (begun moment L)) there
    ∙ on_none L (held_copy L.copies flow copy) (NotHeld copy) (on_copy (begun moment L)) unheld
  where
    on_copy : Ledger → MadeCopy → Step
    on_copy M x = does [] (settling outcome x M ∷ []) (replies.Settle copy (fate_by (settling outcome x M) M))

    on_flow : Ledger → Step
    on_flow M = on_found (held_copy M.copies flow copy) (NotHeld copy) (on_copy M)
