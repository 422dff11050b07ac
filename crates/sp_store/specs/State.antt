-- What a store stands for.
use Rattle.std.specs.Prelude.{ℕ, List, Option}
use Rattle.sp_core.specs.Stands.{Stands}
use Rattle.sp_core.specs.State.{CoreState}
use Rattle.sp_disk.specs.Disk.{Folder, Telling}
use Rattle.sp_journal.specs.State as journals
use Rattle.sp_journal.specs.declared.journal.Journal.{Journal}
use Rattle.sp_ledger.specs.Ledger.{Ledger}
use Rattle.sp_store.specs.Units.{IsLedgerOf}
use Rattle.sp_unit.specs.UnitBytes.{UnitView}

-- what contracts see of a store: its disk, the journal on it, the state machine, and the journal's greatest length in
-- bytes
pub record StoreState (D : Type 0) : Type 0 where
  pub disk : D
  pub journal : Journal
  pub core : CoreState
  pub max : ℕ

-- the journal on the disk has these units, where a gate is unsure with one more that may be there, and their ledger is
-- one for which the state machine stands
pub record Holds {D : Type 0} (tells : D → Telling) (content : D → Folder) (may_leave : D → Folder → Type 0)
    (maybe : Option UnitView) (units : List UnitView) (L : Ledger) (journal : Journal) (core : CoreState) (disk : D)
    : Type 0 where
  pub on_disk : journals.StandsFor tells content may_leave maybe units journal disk
  pub is_ledger : IsLedgerOf units L
  pub stands : Stands core L

abbrev pub StandsFor : {D : Type 0} → (D → Telling) → (D → Folder) → (D → Folder → Type 0) → Option UnitView
    → List UnitView → Ledger → StoreState D → Type 0
StandsFor tells content may_leave maybe units L store =
    Holds tells content may_leave maybe units L store.journal store.core store.disk

-- there are units and a ledger for which it stands
abbrev pub IsStore : {D : Type 0} → (D → Telling) → (D → Folder) → (D → Folder → Type 0) → StoreState D → Type 0
IsStore tells content may_leave store =
    (maybe : Option UnitView) × (units : List UnitView) × (L : Ledger)
    × StandsFor tells content may_leave maybe units L store
