-- Whatever a commit comes to, the store stands for some ledger afterwards.
use Rattle.std.proofs.Common.{ℕ, List, [], ◌∷◌, ◌++◌, Option, Result, Some, None, Ok, Err, inl, inr}
use Rattle.sp_event.specs.declared.request.Event.{Event}
use Rattle.sp_ledger.specs.Ledger.{Ledger}
use Rattle.sp_ledger.specs.Step.{Outcome, refused, idle, accepted}
use Rattle.sp_store.specs.Commit.{Comes, Commits, Receives}
use Rattle.sp_store.specs.declared.receipt.CommitFault.{CommitFault}
use Rattle.sp_store.specs.declared.receipt.CommitFault.TheVariants as fault
use Rattle.sp_store.specs.declared.receipt.Receipt.{Receipt}
use Rattle.sp_unit.specs.UnitBytes.{UnitView}

module _ (P : Option UnitView → List UnitView → Ledger → Type 0) (unit : UnitView) (units : List UnitView) (L : Ledger) where
  abbrev Some_left : Type 0
  Some_left = (maybe : Option UnitView) × (us : List UnitView) × (M : Ledger) × P maybe us M

  receives_left : (o : Outcome) (receipt : Receipt) → Receives P unit units L o receipt → Some_left
  receives_left (refused refusal) receipt given = absurd given
  receives_left (idle told) receipt given = (None, units, L, given.1)
  receives_left (accepted M told) receipt given = (None, units ++ unit ∷ [], M, given.1)

  comes_left : (place max : ℕ) (event : Event) (o : Outcome) (result : Result Receipt CommitFault)
      → Comes P unit units L place max event o result → Some_left
  comes_left place max event o (Ok receipt) comes = receives_left o receipt comes.0
  comes_left place max event o (Err (fault.Refused index refusal)) comes = (None, units, L, comes.2)
  comes_left place max event o (Err fault.Memory) comes = (None, units, L, comes)
  comes_left place max event o (Err (fault.Full len need most)) comes = (None, units, L, comes.2)
  comes_left place max event o (Err fault.Disk) comes = (Some unit, units, L, comes.2)

  pub commits_left : (maybe : Option UnitView) (place max : ℕ) (event : Event) (o : Outcome)
      (result : Result Receipt CommitFault) → Commits P unit units L maybe place max event o result → Some_left
  commits_left maybe place max event o result (inl failed) = (maybe, units, L, failed.2)
  commits_left maybe place max event o result (inr comes) = comes_left place max event o result comes
