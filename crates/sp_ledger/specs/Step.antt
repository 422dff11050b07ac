-- A step: what an event asks for, what it changes, and what it is answered.
use Rattle.sp_base.specs.declared.refusal.Kind.{Kind}
use Rattle.sp_base.specs.declared.refusal.Kind.TheVariants as kinds
use Rattle.sp_base.specs.declared.refusal.Refusal.{Refusal}
use Rattle.sp_base.specs.declared.refusal.Refusal.TheVariants.{IdsSpent}
use Rattle.sp_event.specs.declared.answer.Reply.{Reply}
use Rattle.sp_ledger.specs.Changes.{Change, all_changed}
use Rattle.sp_ledger.specs.Ledger.{Ledger}
use Rattle.sp_ledger.specs.Limits.{last_copy, spent}
use Rattle.std.specs.Prelude.{Bool, List, None, Option, Some, [], false, if◌then◌else◌, max, nat_le, nat_lt, true, ℕ}
use Rattle.std.specs.Prelude.{◌&&◌, ◌++◌, ◌+◌, ◌∷◌}

-- a rule, by whether it is broken, and the refusal
pub record Check : Type 0 where
  pub broken : Bool
  pub refusal : Refusal

-- a check, by its two parts
abbrev pub rule : Bool → Refusal → Check
rule broken refusal = record { broken = broken; refusal = refusal }

-- what an event asks for
pub data Step : Type 0 where
  -- what the event needs isn't there
  lacks : Refusal → Step
  -- checks by rising number of their rules, changes one after another, and the reply
  does : List Check → List Change → Reply → Step
  -- changes that nothing refuses, not the unit's number either, and the reply
  always : List Change → Reply → Step

-- the step on what has to be there
abbrev pub on_found : {X : Type 0} → Option X → Refusal → (X → Step) → Step
on_found None refusal step = lacks refusal
on_found (Some x) refusal step = step x

-- the step where a rule isn't broken that comes before all others
abbrev pub unless : Check → Step → Step
unless check step = if check.broken then lacks check.refusal else step

-- the refusal of the first rule that is broken
abbrev pub first_refusal : List Check → Option Refusal
first_refusal [] = None
first_refusal (check ∷ rest) = if check.broken then Some check.refusal else first_refusal rest

-- the next number of the kind isn't drawn any more
abbrev pub is_spent : ℕ → Kind → Check
is_spent next kind = rule (nat_le spent next) (IdsSpent kind)

-- the copy number before this one is above the last that is drawn
abbrev pub is_copy_spent : ℕ → Check
is_copy_spent next = rule (nat_lt (last_copy + 1) next) (IdsSpent kinds.Copy)

-- refused; accepted without a change; or accepted, with the ledger after it; and the replies
pub data Outcome : Type 0 where
  refused : Refusal → Outcome
  idle : List Reply → Outcome
  accepted : Ledger → List Reply → Outcome

-- one more unit, at the later of both moments: the ledger in which an event is decided and carried out
abbrev pub begun : ℕ → Ledger → Ledger
begun moment L = record L { next = record L.next { unit = L.next.unit + 1 }; now = max L.now moment }

-- what changes something is a unit, and takes a number
abbrev pub is_unit : List Change → Bool
is_unit [] = false
is_unit (change ∷ more) = true

-- a unit takes the next number, unless it isn't drawn any more
abbrev pub unit_check : Ledger → List Change → Check
unit_check L changes = rule (is_unit changes && nat_le spent L.next.unit) (IdsSpent kinds.Unit)

-- what changes nothing is idle
abbrev pub carried_out : List Change → Reply → Ledger → Outcome
carried_out [] reply L = idle (reply ∷ [])
carried_out (change ∷ more) reply L = accepted (all_changed (change ∷ more) L) (reply ∷ [])

-- a refusal, or else what was carried out
abbrev pub decided : Option Refusal → Outcome → Outcome
decided (Some refusal) outcome = refused refusal
decided None outcome = outcome

-- what a step comes to: L is the ledger before it, and B the one in which it begins
abbrev pub outcome_of : Ledger → Ledger → Step → Outcome
outcome_of L B (lacks refusal) = refused refusal
outcome_of L B (does checks changes reply) =
    decided (first_refusal (checks ++ unit_check L changes ∷ [])) (carried_out changes reply B)
outcome_of L B (always changes reply) = carried_out changes reply B

-- accepted without changing anything
abbrev pub is_idle : Outcome → Bool
is_idle (refused refusal) = false
is_idle (idle told) = true
is_idle (accepted M told) = false
