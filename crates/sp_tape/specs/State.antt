-- The state of a run: what is in the journal, and what is there maybe.
use Rattle.std.specs.Prelude.{◌≡◌, ◌⊎◌, ℕ, Bool, IsTrue, List, [], ◌∷◌, ◌++◌, Option, Some, None}
use Rattle.sp_journal.specs.Format.{HasUnits}
use Rattle.sp_ledger.specs.Ledger.{Ledger}
use Rattle.sp_ledger.specs.Sound.{IsLedger}
use Rattle.sp_store.specs.Opening.{Restarts, restarted}
use Rattle.sp_store.specs.Units.{IsLedgerOf, restart_unit}
use Rattle.sp_unit.specs.UnitBytes.{UnitView}

-- the journal's units, their ledger, and a further unit that a failing disk may have taken or not
pub record RunState : Type 0 where
  pub units : List UnitView
  pub ledger : Ledger
  pub unsure : Option UnitView

-- no unit is unsure
abbrev pub settled : List UnitView → Ledger → RunState
settled units ledger = record { units = units; ledger = ledger; unsure = None }

-- the units, and where one is unsure maybe that one
abbrev pub AreTaken : Option UnitView → List UnitView → List UnitView → Type 0
AreTaken None units taken = taken ≡ units
AreTaken (Some unit) units taken = (taken ≡ units) ⊎ (taken ≡ units ++ unit ∷ [])

-- units that were read lead to a sound ledger, and a restart follows where a flow is bound
pub record Opens (units : List UnitView) (S : RunState) : Type 0 where
  pub ledger : Ledger
  pub is_ledger : IsLedgerOf units ledger
  pub restarts : Restarts (λ us M. S ≡ settled us M) units ledger (restarted ledger)
  pub sound : IsLedger S.ledger

-- a run begins with the units that the journal has, where the disk tells them
abbrev pub Begins : Bool → List ℕ → RunState → Type 0
Begins trusted file S = (units : List UnitView) × (IsTrue trusted → HasUnits units file) × Opens units S

-- a restart begins with those of the state before it, where the disk tells them
abbrev pub BeginsAgain : Bool → RunState → RunState → Type 0
BeginsAgain trusted S T =
    (units : List UnitView) × (IsTrue trusted → AreTaken S.unsure S.units units) × Opens units T

-- what a crash may leave: the units of the state, where one is unsure maybe that one, and then at most one more, which
-- is one of these; and they lead to a ledger
pub record MayLeave (One : UnitView → Type 0) (S : RunState) (file : List ℕ) : Type 0 where
  pub taken : List UnitView
  pub are_taken : AreTaken S.unsure S.units taken
  pub units : List UnitView
  pub one_more : (units ≡ taken) ⊎ ((unit : UnitView) × One unit × (units ≡ taken ++ unit ∷ []))
  pub has : HasUnits units file
  pub leads : (L : Ledger) × IsLedgerOf units L

-- the restart that an opening writes
abbrev pub IsRestart : UnitView → Type 0
IsRestart unit = unit ≡ restart_unit
