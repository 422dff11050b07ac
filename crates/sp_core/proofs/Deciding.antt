-- Verdicts of steps, and what they come to.
use Rattle.sp_base.specs.Name.{is_caller}
use Rattle.sp_base.specs.declared.refusal.Refusal.{Refusal}
use Rattle.sp_copies.specs.declared.held.CopyAttempts.{CopyAttempts}
use Rattle.sp_core.specs.Decided.{IsDecided, judged, verdict}
use Rattle.sp_plan.specs.Plan.{PlanState, changes_of}
use Rattle.sp_plan.specs.declared.change.Change as own
use Rattle.sp_core.specs.Stands.{Stands}
use Rattle.sp_core.specs.State.{CoreState}
use Rattle.sp_event.specs.declared.answer.Reply.{Reply}
use Rattle.sp_event.specs.declared.request.Event.{Event}
use Rattle.sp_ledger.proofs.Decided.{OnPassed, passes, passes-append}
use Rattle.sp_ledger.proofs.EachKind.{begun_sound}
use Rattle.sp_ledger.proofs.Steps.{step_allowed}
use Rattle.sp_ledger.specs.Allowed.{AreAllowed}
use Rattle.sp_ledger.specs.Changes.{Change}
use Rattle.sp_ledger.specs.Events.{outcome, step}
use Rattle.sp_ledger.specs.Ledger.{Ledger}
use Rattle.sp_ledger.specs.Limits.{spent}
use Rattle.sp_ledger.specs.Sound.{IsSound}
use Rattle.sp_ledger.specs.Step.{Check, Outcome, Step, always, begun, carried_out, decided, does, first_refusal, is_idle, is_unit, lacks, on_found, outcome_of, refused, unit_check}
use Rattle.std.proofs.Common.{ap, arith, refl, subst, sym, ◌∙◌}
use Rattle.std.proofs.lemmas.Bool.{leb-false}
use Rattle.std.proofs.lemmas.Bool.Decides.{nat_tests}
use Rattle.std.proofs.lemmas.List.Elements.{All-weaker}
use Rattle.std.specs.Prelude.{Bool, Err, List, None, Ok, Option, Some, [], false, length, nat_le, suc, true, ℕ, ◌&&◌, ◌++◌, ◌+◌, ◌<◌, ◌≤◌, ◌==◌, ◌∷◌, ◌≡◌}

-- what is decided on what was found
pub on_one : {X : Type 0} (L : Ledger) (found : Option X) (x : X) (refusal : Refusal) (s : X → Step) →
    Some x ≡ found → verdict L (on_found found refusal s) ≡ verdict L (s x)
on_one L found x refusal s is = subst (λ f. verdict L (on_found f refusal s) ≡ verdict L (s x)) is refl

pub on_none : {X : Type 0} (L : Ledger) (found : Option X) (refusal : Refusal) (s : X → Step) →
    None ≡ found → verdict L (on_found found refusal s) ≡ Err refusal
on_none L found refusal s is = subst (λ f. verdict L (on_found f refusal s) ≡ Err refusal) is refl

-- what the checks decide
pub is_planned : (L : Ledger) (checks : List Check) (changes : List Change) (reply : Reply) →
    None ≡ first_refusal (checks ++ unit_check L changes ∷ []) →
    verdict L (does checks changes reply) ≡ Ok (record { changes = changes; reply = reply })
is_planned L checks changes reply is = ap (λ r. judged r (record { changes = changes; reply = reply })) (sym is)

pub is_refused : (L : Ledger) (checks : List Check) (changes : List Change) (reply : Reply) (refusal : Refusal) →
    Some refusal ≡ first_refusal (checks ++ unit_check L changes ∷ []) → verdict L (does checks changes reply) ≡ Err refusal
is_refused L checks changes reply refusal is = ap (λ r. judged r (record { changes = changes; reply = reply })) (sym is)

module _ (L B : Ledger) where
  -- the outcome of a step that is planned, or refused
  outcome_planned : (s : Step) (plan : PlanState) → verdict L s ≡ Ok plan → outcome_of L B s ≡ carried_out plan.changes plan.reply B
  outcome_planned (lacks refusal) plan e = absurd (cc)
  outcome_planned (does checks changes reply) plan e = one (first_refusal (checks ++ unit_check L changes ∷ [])) e
    where
      one : (r : Option Refusal) → judged r (record { changes = changes; reply = reply }) ≡ Ok plan →
          decided r (carried_out changes reply B) ≡ carried_out plan.changes plan.reply B
      one (Some refusal) k = absurd (cc)
      one None k = let same : record { changes = changes; reply = reply } ≡ plan = cc in ap (λ (p : PlanState). carried_out p.changes p.reply B) same
  outcome_planned (always changes reply) plan e =
      let same : record { changes = changes; reply = reply } ≡ plan = cc in ap (λ (p : PlanState). carried_out p.changes p.reply B) same

  outcome_refused : (s : Step) (refusal : Refusal) → verdict L s ≡ Err refusal → outcome_of L B s ≡ refused refusal
  outcome_refused (lacks told) refusal e = let same : told ≡ refusal = cc in ap refused same
  outcome_refused (does checks changes reply) refusal e = one (first_refusal (checks ++ unit_check L changes ∷ [])) e
    where
      one : (r : Option Refusal) → judged r (record { changes = changes; reply = reply }) ≡ Err refusal →
          decided r (carried_out changes reply B) ≡ refused refusal
      one (Some told) k = let same : told ≡ refusal = cc in ap refused same
      one None k = absurd (cc)
  outcome_refused (always changes reply) refusal e = absurd (cc)

  -- the changes of a step that is planned are allowed
  planned_may : (s : Step) (plan : PlanState) → OnPassed (λ changes reply. AreAllowed changes B) s → verdict L s ≡ Ok plan →
      AreAllowed plan.changes B
  planned_may (lacks refusal) plan h e = absurd (cc)
  planned_may (does checks changes reply) plan h e = one (first_refusal (checks ++ unit_check L changes ∷ [])) refl e
    where
      one : (r : Option Refusal) → first_refusal (checks ++ unit_check L changes ∷ []) ≡ r →
          judged r (record { changes = changes; reply = reply }) ≡ Ok plan → AreAllowed plan.changes B
      one (Some refusal) is k = absurd (cc)
      one None is k =
          let same : record { changes = changes; reply = reply } ≡ plan = cc in
          let both = passes-append checks (unit_check L changes ∷ []) (passes (checks ++ unit_check L changes ∷ []) is) in
          subst (λ (p : PlanState). AreAllowed p.changes B) same (h both.0)
  planned_may (always changes reply) plan h e =
      let same : record { changes = changes; reply = reply } ≡ plan = cc in
      subst (λ (p : PlanState). AreAllowed p.changes B) same h

-- each step's changes are allowed where it was begun
allowed_step : (L : Ledger) → IsSound L → (moment : ℕ) (caller : List ℕ) → is_caller caller ≡ true → (event : Event) →
    OnPassed (λ changes reply. AreAllowed changes (begun moment L)) (step caller event (begun moment L))
allowed_step L s moment caller short event =
    let few = All-weaker (λ (a : CopyAttempts). a.count < L.next.unit) (λ (a : CopyAttempts). a.count + 1 < L.next.unit + 1)
    (λ a lt. omega (arith, lt)) L.copies.attempts s.copies.attempts in
    step_allowed (begun moment L) (begun_sound moment L s) caller short few event

-- what is planned on each ledger for which the core stands is decided
pub is_decided : (core : CoreState) (moment : ℕ) (caller : List ℕ) (event : Event) (plan : PlanState) → is_caller caller ≡ true →
    ((L : Ledger) → Stands core L → verdict L (step caller event (begun moment L)) ≡ Ok plan) →
    (is_unit plan.changes ≡ true → core.next_unit ≤ spent) →
    IsDecided core caller event (record { moment = moment; changes = plan.changes; replies = plan.reply ∷ [] })
is_decided core moment caller event plan short planned left = record {
  reply = plan.reply;
  told = refl;
  outcome = λ L s. outcome_planned L (begun moment L) (step caller event (begun moment L)) plan (planned L s);
  may = λ L s. (
    planned_may L (begun moment L) (step caller event (begun moment L)) plan (allowed_step L s.ledger.sound moment caller short event) (planned L s),
    λ unit. subst (λ n. n ≤ spent) s.next_unit (left unit),
  );
}

pub refused_so : (L : Ledger) (moment : ℕ) (caller : List ℕ) (event : Event) (refusal : Refusal) →
    verdict L (step caller event (begun moment L)) ≡ Err refusal → outcome moment caller event L ≡ refused refusal
refused_so L moment caller event refusal e = outcome_refused L (begun moment L) (step caller event (begun moment L)) refusal e

-- a unit is idle exactly where it has no changes
pub idle_where : (made : List own.Change) (changes : List Change) (reply : Reply) (B : Ledger) (o : Outcome) → changes_of made ≡ changes →
    o ≡ carried_out changes reply B → (length made == 0) ≡ is_idle o
idle_where [] changes reply B o same is =
    sym (ap is_idle (is ∙ ap (λ (cs : List Change). carried_out cs reply B) (sym same)))
idle_where (c ∷ made) changes reply B o same is =
    some (length made) ∙ sym (ap is_idle (is ∙ ap (λ (cs : List Change). carried_out cs reply B) (sym same)))
  where
    some : (n : ℕ) → (suc n == 0) ≡ false
    some n = grind (arith, nat_tests)
