-- A unit that was decided, and what carrying it out gives.
use Rattle.std.specs.Prelude.{◌≡◌, ◌≤◌, ◌++◌, ◌∷◌, [], ⊤, ℕ, Err, IfErr, IfOk, List, None, Ok, Option}
use Rattle.std.specs.Prelude.{Result, Some, length, map, true}
use Rattle.sp_base.specs.declared.declined.Declined.{Declined}
use Rattle.sp_base.specs.declared.declined.Declined.TheVariants.{Refused, Memory}
use Rattle.sp_base.specs.declared.declined.EventRefusal.{EventRefusal}
use Rattle.sp_base.specs.declared.refusal.Refusal.{Refusal}
use Rattle.sp_core.specs.Room.{HasRoom}
use Rattle.sp_core.specs.Stands.{IsRoomier, Stands}
use Rattle.sp_core.specs.State.{CoreState}
use Rattle.sp_endpoint.specs.Endpoint.{EndpointView}
use Rattle.sp_event.specs.declared.answer.Reply.{Reply}
use Rattle.sp_event.specs.declared.answer.Reply.TheVariants as replies
use Rattle.sp_event.specs.declared.request.Event.{Event}
use Rattle.sp_ledger.specs.Allowed.{AreAllowed}
use Rattle.sp_ledger.specs.Changes.{Change, all_changed, binds, publishes}
use Rattle.sp_ledger.specs.Events.{outcome}
use Rattle.sp_ledger.specs.Ledger.{Ledger}
use Rattle.sp_ledger.specs.Limits.{spent}
use Rattle.sp_ledger.specs.OnFlows.{new_flow, outdated, rebind_changes}
use Rattle.sp_ledger.specs.Publish.{share_for, told_copies}
use Rattle.sp_ledger.specs.Step.{Outcome, Step, accepted, always, begun, carried_out, does, first_refusal}
use Rattle.sp_ledger.specs.Step.{idle, is_unit, lacks, refused, unit_check}
use Rattle.sp_plan.specs.Plan.{PlanState}
use Rattle.sp_message.specs.declared.message.Message.{Message}

-- a plan, where no rule is broken
abbrev pub judged : Option Refusal → PlanState → Result PlanState Refusal
judged None plan = Ok plan
judged (Some refusal) plan = Err refusal

-- a step is refused, or planned
abbrev pub verdict : Ledger → Step → Result PlanState Refusal
verdict L (lacks refusal) = Err refusal
verdict L (does checks changes reply) =
    judged (first_refusal (checks ++ unit_check L changes ∷ [])) (record { changes = changes; reply = reply })
verdict L (always changes reply) = Ok (record { changes = changes; reply = reply })

-- the plans of a bind and of a publish that aren't refused
abbrev pub bind_plan : List ℕ → EndpointView → EndpointView → Option (List ℕ) → Ledger → PlanState
bind_plan caller e bound selector L = record {
  changes = rebind_changes L e bound ++ binds (new_flow L.next.flow caller e selector) ∷ [];
  reply = replies.Bind e.name L.next.flow (length (outdated L e bound));
}

abbrev pub publish_plan : Message → List EndpointView → Ledger → PlanState
publish_plan m into L = record {
  changes = publishes m (map (share_for m L.next.message L.now) into) ∷ [];
  reply = replies.Publish L.next.message (told_copies L.copies.next into);
}

pub record ReadyState : Type 0 where
  pub moment : ℕ
  pub changes : List Change
  pub replies : List Reply

-- the ledger after a unit at a moment with these changes; without any nothing is counted
abbrev pub ledger_after : ℕ → List Change → Ledger → Ledger
ledger_after moment [] L = L
ledger_after moment (change ∷ more) L = all_changed (change ∷ more) (begun moment L)

-- the changes are allowed in the ledger that was begun, and where there are any, a number is left for the unit
abbrev pub MayCarryOut : ℕ → List Change → Ledger → Type 0
MayCarryOut moment changes L = AreAllowed changes (begun moment L) × (is_unit changes ≡ true → L.next.unit ≤ spent)

-- on each ledger for which the core stands, the caller's event comes to these changes and this reply, and they are
-- allowed there
pub record IsDecided (core : CoreState) (caller : List ℕ) (event : Event) (ready : ReadyState) : Type 0 where
  pub reply : Reply
  pub told : ready.replies ≡ reply ∷ []
  pub outcome : (L : Ledger) → Stands core L →
      outcome ready.moment caller event L ≡ carried_out ready.changes reply (begun ready.moment L)
  pub may : (L : Ledger) → Stands core L → MayCarryOut ready.moment ready.changes L

-- it was prepared on this core for a caller's event, and nothing was applied since
pub record IsPrepared (core : CoreState) (caller : List ℕ) (event : Event) (ready : ReadyState) : Type 0 where
  pub decided : IsDecided core caller event ready
  pub room : HasRoom core ready.changes

-- on each ledger for which the core stands, the caller's event is refused so
abbrev pub IsRefused : CoreState → ℕ → List ℕ → Event → Refusal → Type 0
IsRefused core moment caller event refusal =
    (L : Ledger) → Stands core L → outcome moment caller event L ≡ refused refusal

-- a refusal of the first event has P; want of memory may always come
abbrev pub OnRefused : Declined EventRefusal → (Refusal → Type 0) → Type 0
OnRefused (Refused r) P = (r.index ≡ 0) × P r.refusal
OnRefused Memory P = ⊤

-- a refusal of a unit's first event, or want of memory
abbrev pub of_first : Declined Refusal → Declined EventRefusal
of_first (Refused refusal) = Refused (record { index = 0; refusal = refusal })
of_first Memory = Memory

-- what a preparing leaves and gives: the core stands for the same ledgers as before, what was prepared before stays
-- prepared, and the event is prepared at the moment, or refused as its step is
pub record Prepares (old new : CoreState) (moment : ℕ) (caller : List ℕ) (event : Event)
    (result : Result ReadyState (Declined EventRefusal)) : Type 0 where
  pub same : IsRoomier old new
  pub still : (c : List ℕ) (e : Event) (r : ReadyState) → IsPrepared old c e r → IsPrepared new c e r
  pub at : IfOk result (λ ready. ready.moment ≡ moment)
  pub ready : IfOk result (IsPrepared new caller event)
  pub refused : IfErr result (λ e. OnRefused e (IsRefused old moment caller event))

-- the replies are those of the outcome, and the core stands for the ledger after it
abbrev pub CarriesOut : Outcome → Ledger → CoreState → List Reply → Type 0
CarriesOut (refused refusal) L core given = ⊥
CarriesOut (idle told) L core given = (given ≡ told) × Stands core L
CarriesOut (accepted M told) L core given = (given ≡ told) × Stands core M
