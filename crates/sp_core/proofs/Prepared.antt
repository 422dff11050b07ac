-- What was prepared stays prepared where room is made.
use Rattle.sp_base.specs.Declined.{Obeys}
use Rattle.sp_base.specs.Name.{is_caller}
use Rattle.sp_base.specs.declared.declined.Declined.{Declined}
use Rattle.sp_base.specs.declared.declined.Declined.TheVariants.{Memory, Refused}
use Rattle.sp_base.specs.declared.refusal.Refusal.{Refusal}
use Rattle.sp_core.proofs.Deciding.{is_decided, refused_so}
use Rattle.sp_core.specs.Decided.{CarriesOut, IsDecided, IsPrepared, IsRefused, OnRefused, Prepares, ReadyState, ledger_after, of_first, verdict}
use Rattle.sp_core.specs.Room.{HasRoom}
use Rattle.sp_core.specs.Stands.{IsRoomier, Stands}
use Rattle.sp_core.specs.State.{CoreState}
use Rattle.sp_event.specs.declared.answer.Reply.{Reply}
use Rattle.sp_event.specs.declared.request.Event.{Event}
use Rattle.sp_ledger.specs.Changes.{Change}
use Rattle.sp_ledger.specs.Events.{outcome, step}
use Rattle.sp_plan.specs.Plan.{PlanState}
use Rattle.sp_ledger.specs.Ledger.{Ledger}
use Rattle.sp_ledger.specs.Limits.{spent}
use Rattle.sp_ledger.specs.Step.{Outcome, begun, carried_out, is_unit}
use Rattle.std.proofs.Common.{arith, refl, subst, sym, ◌∙◌}
use Rattle.std.specs.Prelude.{Err, List, Ok, true, [], ℕ, ◌∷◌, ◌≡◌, ◌≤◌}

pub roomier_self : (core : CoreState) → IsRoomier core core
roomier_self core = record {
  forth = λ L s. s;
  back = λ L s. s;
  endpoints = omega arith;
  messages = omega arith;
  copies = omega arith;
  flows = omega arith;
}

pub roomier_again : (a b c : CoreState) → IsRoomier a b → IsRoomier b c → IsRoomier a c
roomier_again a b c p q = record {
  forth = λ L s. q.forth L (p.forth L s);
  back = λ L s. p.back L (q.back L s);
  endpoints = let x = p.endpoints in let y = q.endpoints in omega (arith, x, y);
  messages = let x = p.messages in let y = q.messages in omega (arith, x, y);
  copies = let x = p.copies in let y = q.copies in omega (arith, x, y);
  flows = let x = p.flows in let y = q.flows in omega (arith, x, y);
}

pub decided_still : (old new : CoreState) → IsRoomier old new → (caller : List ℕ) (event : Event) (r : ReadyState) →
    IsDecided old caller event r → IsDecided new caller event r
decided_still old new same caller event r d = record {
  reply = d.reply;
  told = d.told;
  outcome = λ L s. d.outcome L (same.back L s);
  may = λ L s. d.may L (same.back L s);
}

pub still_prepared : (old new : CoreState) → IsRoomier old new → (caller : List ℕ) (event : Event) (r : ReadyState) →
    IsPrepared old caller event r → IsPrepared new caller event r
still_prepared old new same caller event r p = record {
  decided = decided_still old new same caller event r p.decided;
  room = record {
    endpoints = let x = p.room.endpoints in let y = same.endpoints in omega (arith, x, y);
    messages = let x = p.room.messages in let y = same.messages in omega (arith, x, y);
    copies = let x = p.room.copies in let y = same.copies in omega (arith, x, y);
    flows = let x = p.room.flows in let y = same.flows in omega (arith, x, y);
  };
}

-- the replies and the ledger of a unit that was decided are those of its outcome
carries : (moment : ℕ) (changes : List Change) (reply : Reply) (told given : List Reply) (L : Ledger) (core : CoreState) →
    told ≡ reply ∷ [] → given ≡ told → Stands core (ledger_after moment changes L) →
    CarriesOut (carried_out changes reply (begun moment L)) L core given
carries moment [] reply told given L core is e s = (e ∙ is, s)
carries moment (c ∷ cs) reply told given L core is e s = (e ∙ is, s)

pub carries_out : (old new : CoreState) (caller : List ℕ) (event : Event) (r : ReadyState) (given : List Reply) (L : Ledger) →
    IsDecided old caller event r → Stands old L → given ≡ r.replies → Stands new (ledger_after r.moment r.changes L) →
    CarriesOut (outcome r.moment caller event L) L new given
carries_out old new caller event r given L d s e after =
    subst (λ (o : Outcome). CarriesOut o L new given) (sym (d.outcome L s)) (carries r.moment r.changes d.reply r.replies given L new d.told e after)

-- a preparing that is declined, one for which memory is wanting, and one that is ready
pub prepares_declined : (core : CoreState) (moment : ℕ) (caller : List ℕ) (event : Event) (declined : Declined Refusal) →
    ((L : Ledger) → Stands core L → Obeys (verdict L (step caller event (begun moment L))) (Err declined)) →
    Prepares core core moment caller event (Err (of_first declined))
prepares_declined core moment caller event declined obeys = record {
  same = roomier_self core;
  still = λ c e r p. p;
  at = tt;
  ready = tt;
  refused = one declined obeys;
}
  where
    one : (d : Declined Refusal) → ((L : Ledger) → Stands core L → Obeys (verdict L (step caller event (begun moment L))) (Err d)) →
        OnRefused (of_first d) (IsRefused core moment caller event)
    one (Refused refusal) h = (refl, λ L s. refused_so L moment caller event refusal (h L s))
    one Memory h = tt

pub prepares_none : (old new : CoreState) → IsRoomier old new → (moment : ℕ) (caller : List ℕ) (event : Event) →
    Prepares old new moment caller event (Err Memory)
prepares_none old new same moment caller event = record {
  same = same;
  still = still_prepared old new same;
  at = tt;
  ready = tt;
  refused = tt;
}

pub prepares_ready : (old new : CoreState) → IsRoomier old new → (moment : ℕ) (caller : List ℕ) (event : Event) (plan : PlanState) →
    is_caller caller ≡ true → ((L : Ledger) → Stands old L → verdict L (step caller event (begun moment L)) ≡ Ok plan) →
    (is_unit plan.changes ≡ true → old.next_unit ≤ spent) → HasRoom new plan.changes →
    Prepares old new moment caller event (Ok (record { moment = moment; changes = plan.changes; replies = plan.reply ∷ [] }))
prepares_ready old new same moment caller event plan short planned left room = record {
  same = same;
  still = still_prepared old new same;
  at = refl;
  ready = record { decided = decided_still old new same caller event _ (is_decided old moment caller event plan short planned left); room = room };
  refused = tt;
}
