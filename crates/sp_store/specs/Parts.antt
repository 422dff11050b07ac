-- What inner calls need.
use Rattle.std.specs.Prelude.{◌++◌, ⊤, ℕ, Bool, true, false, List, [], ◌∷◌, Option, Some, None, Result, Ok, Err}
use Rattle.sp_base.specs.declared.failure.Memory.{Memory}
use Rattle.sp_core.specs.Stands.{Stands}
use Rattle.sp_core.specs.State.{CoreState}
use Rattle.sp_event.specs.declared.request.Event.{Event}
use Rattle.sp_journal.specs.Format.{ComesTo, EndsAt}
use Rattle.sp_ledger.specs.Ledger.{Ledger}
use Rattle.sp_store.specs.Commit.{Fits, IsFull}
use Rattle.sp_store.specs.Units.{Accepts}
use Rattle.sp_store.specs.declared.receipt.CommitFault.{CommitFault}
use Rattle.sp_store.specs.declared.receipt.CommitFault.TheVariants as fault
use Rattle.sp_unit.specs.UnitBytes.{UnitView}

-- what is read at a gate: at the end nothing, else the unit behind it and the next gate's place
abbrev pub GivesOne : List UnitView → ℕ → List ℕ → Option (UnitView × ℕ) → Type 0
GivesOne units at file None = EndsAt units at file
GivesOne units at file (Some found) = ComesTo (units ++ found.0 ∷ []) found.1 file

-- whether a unit is accepted, and then the state machine stands for the ledger after it
abbrev pub TakesIn : UnitView → Ledger → CoreState → Result Bool Memory → Type 0
TakesIn unit L core (Ok true) = (M : Ledger) × Accepts unit L M × Stands core M
TakesIn unit L core (Ok false) = (M : Ledger) → ¬ Accepts unit L M
TakesIn unit L core (Err none) = ⊤

-- what writing a unit comes to; P tells of an unsure unit or none and of units whether the journal then stands for them
abbrev pub Writes : (Option UnitView → List UnitView → Type 0) → ℕ → ℕ → Event → UnitView → List UnitView
    → Result (Unit {0}) CommitFault → Type 0
Writes P place max event unit units (Ok done) = Fits place max event unit × P None (units ++ unit ∷ [])
Writes P place max event unit units (Err (fault.Refused index refusal)) = ⊥
Writes P place max event unit units (Err fault.Memory) = P None units
Writes P place max event unit units (Err (fault.Full len need most)) =
    IsFull place max event unit len need most × P None units
Writes P place max event unit units (Err fault.Disk) = Fits place max event unit × P (Some unit) units
