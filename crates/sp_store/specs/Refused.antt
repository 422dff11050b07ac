-- Which bytes of a journal lead to no ledger.
use Rattle.std.specs.Prelude.{◌++◌, ℕ, List, [], ◌∷◌}
use Rattle.sp_journal.specs.Format.{ComesTo, HasUnits}
use Rattle.sp_ledger.specs.Ledger.{Ledger}
use Rattle.sp_store.specs.Units.{Accepts, IsLedgerOf}
use Rattle.sp_unit.specs.UnitBytes.{UnitView}

-- behind the gate at a place stands a unit whose event is refused, or changes nothing, on the ledger of those before it
pub record IsRefusedAt (place : ℕ) (file : List ℕ) : Type 0 where
  pub before : List UnitView
  pub unit : UnitView
  pub ledger : Ledger
  pub next : ℕ
  pub comes : ComesTo before place file
  pub follows : ComesTo (before ++ unit ∷ []) next file
  pub is_ledger : IsLedgerOf before ledger
  pub none : (after : Ledger) → ¬ Accepts unit ledger after

-- the units of a journal lead to a ledger
abbrev pub IsGood : List ℕ → Type 0
IsGood file = (units : List UnitView) × HasUnits units file × ((L : Ledger) × IsLedgerOf units L)
