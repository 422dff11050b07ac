-- What opening a journal gives, and what it leaves.
use Rattle.std.specs.Prelude.{◌≡◌, ◌⊎◌, ◌++◌, ℕ, List, [], ◌∷◌, Result, Ok, Err, codes}
use Rattle.sp_event.specs.declared.request.Event.TheVariants.{Restart}
use Rattle.sp_journal.specs.Format.{HasUnits}
use Rattle.sp_journal.specs.declared.journal.OpenError.{OpenError}
use Rattle.sp_ledger.specs.Events.{outcome}
use Rattle.sp_ledger.specs.Ledger.{Ledger}
use Rattle.sp_ledger.specs.Step.{Outcome, refused, idle, accepted}
use Rattle.sp_store.specs.State.{StoreState}
use Rattle.sp_store.specs.Units.{IsLedgerOf, restart_unit}
use Rattle.sp_unit.specs.UnitBytes.{UnitView}

-- the restart's outcome on a ledger
abbrev pub restarted : Ledger → Outcome
restarted L = outcome 0 (codes "#system") Restart L

-- after a restart there is a further unit, unless nothing changed
abbrev pub Restarts : (List UnitView → Ledger → Type 0) → List UnitView → Ledger → Outcome → Type 0
Restarts P units L (refused refusal) = ⊥
Restarts P units L (idle told) = P units L
Restarts P units L (accepted M told) = P (units ++ restart_unit ∷ []) M

-- the disk that an opening leaves
abbrev pub disk_of : {D : Type 0} → Result (StoreState D) (D × OpenError) → D
disk_of (Ok store) = store.disk
disk_of (Err back) = back.0

-- a file stays, or has units that it had, or those that were read of this file and the restart, which lead to a ledger
abbrev pub MayOpen : List ℕ → List ℕ → List ℕ → Type 0
MayOpen file old new =
    (new ≡ old)
    ⊎ (((units : List UnitView) × HasUnits units old × HasUnits units new)
    ⊎ ((units : List UnitView) × (L : Ledger) × HasUnits units file × IsLedgerOf (units ++ restart_unit ∷ []) L
    × HasUnits (units ++ restart_unit ∷ []) new))
