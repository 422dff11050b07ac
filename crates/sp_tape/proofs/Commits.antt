-- What a commit comes to, as an answer in the state of a run.
use Rattle.std.proofs.Common.{◌≡◌, ◌≤◌, arith, ℕ, List, [], ◌∷◌, ◌++◌, Option, Result, Some, None, Ok, Err, inl, inr, refl, sym, ap, subst}
use Rattle.std.specs.Prelude.{IfOk, length}
use Rattle.sp_base.specs.Causes.{Rose}
use Rattle.sp_base.specs.declared.refusal.Refusal.{Refusal}
use Rattle.sp_event.specs.declared.answer.Answered.{Answered}
use Rattle.sp_event.specs.declared.answer.Reply.{Reply}
use Rattle.sp_event.specs.declared.request.Event.{Event}
use Rattle.sp_ledger.specs.Changes.{Change}
use Rattle.sp_ledger.specs.Events.{outcome, step}
use Rattle.sp_ledger.specs.Ledger.{Ledger}
use Rattle.sp_ledger.specs.Step.{Outcome, Step, refused, idle, accepted, always, begun, carried_out, decided, does, first_refusal, lacks, outcome_of, unit_check}
use Rattle.sp_store.specs.Commit.{Comes, Commits, IsAccepted, Receives}
use Rattle.sp_store.specs.declared.receipt.CommitFault.{CommitFault}
use Rattle.sp_store.specs.declared.receipt.CommitFault.TheVariants as fault
use Rattle.sp_store.specs.declared.receipt.Receipt.{Receipt}
use Rattle.sp_tape.specs.Acts.{IsToldOf, unit_of}
use Rattle.sp_tape.specs.Runs.{RoseBy}
use Rattle.sp_tape.specs.Serves.{IsNext, fault_count}
use Rattle.sp_tape.specs.State.{RunState}
use Rattle.sp_unit.specs.UnitBytes.{UnitView}

abbrev pub state : Option UnitView → List UnitView → Ledger → RunState
state unsure units L = record { units = units; ledger = L; unsure = unsure }

-- an accepted event's unit may be next
pub accepts_next : (moment : ℕ) (caller : List ℕ) (event : Event) (L : Ledger) (o : Outcome)
    → outcome moment caller event L ≡ o → IsAccepted o → IsNext (Some (unit_of moment caller event)) L
accepts_next moment caller event L (refused refusal) e is = absurd is
accepts_next moment caller event L (idle told) e is = absurd is
accepts_next moment caller event L (accepted M told) e is =
    (M, record { event = event; told = told; one = refl; step = e })

-- the state that a commit leaves, where P tells for which the store stands
module _ (P : Option UnitView → List UnitView → Ledger → Type 0) (unit : UnitView) (units : List UnitView) (L : Ledger) where
  abbrev Is : RunState → Option UnitView → List UnitView → Ledger → Type 0
  Is T unsure us M = T ≡ state unsure us M

  -- a state with P, and whose unsure unit may be next
  pub record Found (T : RunState) : Type 0 where
    pub found : P T.unsure T.units T.ledger
    pub next : IsNext T.unsure T.ledger

  received_as : (o : Outcome) (receipt : Receipt) → Receives P unit units L o receipt
      → (T : RunState) × Receives (Is T) unit units L o receipt × Found T
  received_as (refused refusal) receipt given = absurd given
  received_as (idle told) receipt given =
      (state None units L, (given.0, refl), record { found = given.1; next = tt })
  received_as (accepted M told) receipt given =
      (state None (units ++ unit ∷ []) M, (given.0, refl), record { found = given.1; next = tt })

  module _ (place most : ℕ) (event : Event) (o : Outcome) (is_next : IsAccepted o → IsNext (Some unit) L) where
    comes_as : (result : Result Receipt CommitFault) → Comes P unit units L place most event o result
        → (T : RunState) × Comes (Is T) unit units L place most event o result × Found T
    comes_as (Ok receipt) came =
        let given = received_as o receipt came.0 in (given.0, (given.1, came.1), given.2)
    comes_as (Err (fault.Refused index refusal)) came =
        (state None units L, (came.0, came.1, refl), record { found = came.2; next = tt })
    comes_as (Err fault.Memory) came = (state None units L, refl, record { found = came; next = tt })
    comes_as (Err (fault.Full len need limit)) came =
        (state None units L, (came.0, came.1, refl), record { found = came.2; next = tt })
    comes_as (Err fault.Disk) came =
        (state (Some unit) units L, (came.0, came.1, refl), record { found = came.2; next = is_next came.0 })

    pub commits_as : (maybe : Option UnitView) → IsNext maybe L → (result : Result Receipt CommitFault)
        → Commits P unit units L maybe place most event o result
        → (T : RunState) × Commits (Is T) unit units L maybe place most event o result × Found T
    commits_as maybe next result (inl failed) =
        (state maybe units L, inl (failed.0, failed.1, refl), record { found = failed.2; next = next })
    commits_as maybe next result (inr came) =
        let here = comes_as result came in (here.0, inr here.1, here.2)

-- an event's outcome has one reply
one_reply : (changes : List Change) (reply : Reply) (B : Ledger) (P : Option UnitView → List UnitView → Ledger → Type 0)
    (unit : UnitView) (units : List UnitView) (L : Ledger) (receipt : Receipt)
    → Receives P unit units L (carried_out changes reply B) receipt → receipt.replies.items ≡ reply ∷ []
one_reply [] reply B P unit units L receipt given = given.0.replies
one_reply (change ∷ more) reply B P unit units L receipt given = given.0.replies

decided_one : (refusal : Option Refusal) (changes : List Change) (reply : Reply) (B : Ledger)
    (P : Option UnitView → List UnitView → Ledger → Type 0) (unit : UnitView) (units : List UnitView) (L : Ledger)
    (receipt : Receipt) → Receives P unit units L (decided refusal (carried_out changes reply B)) receipt
    → receipt.replies.items ≡ reply ∷ []
decided_one None changes reply B P unit units L receipt given = one_reply changes reply B P unit units L receipt given
decided_one (Some refusal) changes reply B P unit units L receipt given = absurd given

step_one : (K B : Ledger) (s : Step) (P : Option UnitView → List UnitView → Ledger → Type 0) (unit : UnitView)
    (units : List UnitView) (L : Ledger) (receipt : Receipt) → Receives P unit units L (outcome_of K B s) receipt
    → (reply : Reply) × (receipt.replies.items ≡ reply ∷ [])
step_one K B (lacks refusal) P unit units L receipt given = absurd given
step_one K B (does checks changes reply) P unit units L receipt given =
    (reply, decided_one (first_refusal (checks ++ unit_check K changes ∷ [])) changes reply B P unit units L receipt given)
step_one K B (always changes reply) P unit units L receipt given =
    (reply, one_reply changes reply B P unit units L receipt given)

-- a receipt has the one reply
pub receipt_one : (moment : ℕ) (caller : List ℕ) (event : Event) (P : Option UnitView → List UnitView → Ledger → Type 0)
    (unit : UnitView) (units : List UnitView) (L : Ledger) (maybe : Option UnitView) (place most : ℕ) (receipt : Receipt)
    → Commits P unit units L maybe place most event (outcome moment caller event L) (Ok receipt)
    → (reply : Reply) × (receipt.replies.items ≡ reply ∷ [])
receipt_one moment caller event P unit units L maybe place most receipt (inl failed) = absurd (cc (failed.0))
receipt_one moment caller event P unit units L maybe place most receipt (inr came) =
    step_one L (begun moment L) (step caller event (begun moment L)) P unit units L receipt came.0

pub receipts_one : (moment : ℕ) (caller : List ℕ) (event : Event) (P : Option UnitView → List UnitView → Ledger → Type 0)
    (unit : UnitView) (units : List UnitView) (L : Ledger) (maybe : Option UnitView) (place most : ℕ)
    (result : Result Receipt CommitFault) → Commits P unit units L maybe place most event (outcome moment caller event L) result
    → IfOk result (λ receipt. length receipt.replies.items ≡ 1)
receipts_one moment caller event P unit units L maybe place most (Ok receipt) done =
    let reply = receipt_one moment caller event P unit units L maybe place most receipt done in
    ap (λ (rs : List Reply). length rs) reply.1
receipts_one moment caller event P unit units L maybe place most (Err why) done = tt

-- a commit that failed is one of the disk's faults
pub told_fault : (result : Result Receipt CommitFault) (answered : Answered) (before now : ℕ) → IsToldOf result answered
    → before ≤ now → (result ≡ Err fault.Disk → Rose before now) → RoseBy (fault_count answered) before now
told_fault (Ok receipt) answered before now told later rose =
    subst (λ (a : Answered). RoseBy (fault_count a) before now) (sym told.2) (omega (arith, later))
told_fault (Err (fault.Refused index refusal)) answered before now told later rose =
    subst (λ (a : Answered). RoseBy (fault_count a) before now) (sym told) (omega (arith, later))
told_fault (Err fault.Memory) answered before now told later rose =
    subst (λ (a : Answered). RoseBy (fault_count a) before now) (sym told) (omega (arith, later))
told_fault (Err (fault.Full len need most)) answered before now told later rose =
    subst (λ (a : Answered). RoseBy (fault_count a) before now) (sym told) (omega (arith, later))
told_fault (Err fault.Disk) answered before now told later rose =
    subst (λ (a : Answered). RoseBy (fault_count a) before now) (sym told) (rose refl)
