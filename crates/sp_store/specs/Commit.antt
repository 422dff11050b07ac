-- What committing a unit gives, and what it leaves.
use Rattle.std.specs.Prelude.{◌≡◌, ◌≢◌, ◌⊎◌, ◌≤◌, ◌<◌, ◌+◌, ◌-◌, ◌++◌, ⊤, ℕ, Bool, true, false, List, [], ◌∷◌, length}
use Rattle.std.specs.Prelude.{Option, Some, None, Result, Ok, Err}
use Rattle.sp_event.specs.declared.answer.Reply.{Reply}
use Rattle.sp_event.specs.declared.request.Event.{Event}
use Rattle.sp_event.specs.declared.request.Event.TheVariants.{Restart}
use Rattle.sp_journal.specs.Format.{HasUnits}
use Rattle.sp_journal.specs.Unsure.{HasUnitsMaybe}
use Rattle.sp_ledger.specs.Ledger.{Ledger}
use Rattle.sp_ledger.specs.Step.{Outcome, refused, idle, accepted}
use Rattle.sp_store.specs.declared.receipt.CommitFault.{CommitFault}
use Rattle.sp_store.specs.declared.receipt.CommitFault.TheVariants.{Refused, Memory, Full, Disk}
use Rattle.sp_store.specs.declared.receipt.Receipt.{Receipt}
use Rattle.sp_unit.specs.UnitBytes.{UnitView, unit_bytes}

-- how many bytes a unit takes from the last gate on: that gate, its length, its own bytes and the next gate
abbrev pub need_of : UnitView → ℕ
need_of unit = length (unit_bytes unit) + 6

-- a restart has no limit on the journal's bytes
abbrev pub is_limited : Event → Bool
is_limited Restart = false
is_limited event = true

-- the number of units, whether nothing changed, and the replies
pub record IsReceipt (units : ℕ) (is_idle : Bool) (told : List Reply) (receipt : Receipt) : Type 0 where
  pub unit : receipt.unit ≡ units
  pub idle : receipt.idle ≡ is_idle
  pub replies : receipt.replies.items ≡ told

-- the outcome is a ledger that was changed
abbrev pub IsAccepted : Outcome → Type 0
IsAccepted (refused refusal) = ⊥
IsAccepted (idle told) = ⊥
IsAccepted (accepted M told) = ⊤

-- the unit ends at or before the greatest length, by the place of the last gate
abbrev pub Fits : ℕ → ℕ → Event → UnitView → Type 0
Fits place max event unit = is_limited event ≡ true → place + need_of unit ≤ max

-- the unit would end behind the greatest length, and what is told of it
pub record IsFull (place max : ℕ) (event : Event) (unit : UnitView) (len need most : ℕ) : Type 0 where
  pub limited : is_limited event ≡ true
  pub above : max < place + need_of unit
  pub at : len ≡ place
  pub needed : need ≡ need_of unit
  pub greatest : most ≡ max

-- P tells of an unsure unit or none, of units and of a ledger whether the store then stands for them
module _ (P : Option UnitView → List UnitView → Ledger → Type 0) (unit : UnitView) (units : List UnitView) (L : Ledger) where
  -- the receipt of an outcome; one that changes nothing writes no unit
  abbrev pub Receives : Outcome → Receipt → Type 0
  Receives (refused refusal) receipt = ⊥
  Receives (idle told) receipt = IsReceipt (L.next.unit - 1) true told receipt × P None units L
  Receives (accepted M told) receipt =
      IsReceipt (M.next.unit - 1) false told receipt × P None (units ++ unit ∷ []) M

  -- what an outcome comes to where no gate is unsure, by the place of the last gate and the greatest length
  abbrev pub Comes : ℕ → ℕ → Event → Outcome → Result Receipt CommitFault → Type 0
  Comes place max event outcome (Ok receipt) =
      Receives outcome receipt × (receipt.idle ≡ false → Fits place max event unit)
  Comes place max event outcome (Err (Refused index refusal)) =
      (index ≡ 0) × (outcome ≡ refused refusal) × P None units L
  Comes place max event outcome (Err Memory) = P None units L
  Comes place max event outcome (Err (Full len need most)) =
      IsAccepted outcome × IsFull place max event unit len need most × P None units L
  Comes place max event outcome (Err Disk) =
      IsAccepted outcome × Fits place max event unit × P (Some unit) units L

  -- a gate that is unsure is healed first; where that fails, nothing else is done
  abbrev pub Commits : Option UnitView → ℕ → ℕ → Event → Outcome → Result Receipt CommitFault → Type 0
  Commits maybe place max event outcome result =
      ((result ≡ Err Disk) × (maybe ≢ None) × P maybe units L) ⊎ Comes place max event outcome result

-- these units, or where the outcome is a change these and the committed one
abbrev pub MayGrow : List UnitView → UnitView → Outcome → List ℕ → Type 0
MayGrow units unit outcome file = HasUnits units file ⊎ (IsAccepted outcome × HasUnits (units ++ unit ∷ []) file)

-- these units, where one is unsure these or these and that one, or where the outcome is a change these and the
-- committed one
abbrev pub MayHave : Option UnitView → List UnitView → UnitView → Outcome → List ℕ → Type 0
MayHave maybe units unit outcome file =
    HasUnitsMaybe maybe units file ⊎ (IsAccepted outcome × HasUnits (units ++ unit ∷ []) file)
