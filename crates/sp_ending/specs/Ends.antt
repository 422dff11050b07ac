-- Which copies may end one after another, and what that comes to.
pub use Rattle.sp_ledger.specs.MayEnd.{MayEnd, MayReturn}
use Rattle.sp_copies.specs.declared.made.MadeCopy.{MadeCopy}
use Rattle.sp_event.specs.declared.answer.CopyFate.{CopyFate}
use Rattle.sp_ledger.specs.Changes.{Change}
use Rattle.sp_ledger.specs.Ledger.{Ledger}
use Rattle.sp_ledger.specs.Sound.{IsSound}
use Rattle.std.specs.Prelude.{All, AllPairs, List, false, ◌==◌, ◌≡◌}

-- the changes one after another, and what is told of them
pub record EndedView : Type 0 where
  pub changes : List Change
  pub told : List CopyFate

-- on a sound ledger each copy of the list may end or be given back, and no two have one number
pub record MayAll (May : Ledger → MadeCopy → Type 0) (list : List MadeCopy) (L : Ledger) : Type 0 where
  pub sound : IsSound L
  pub each : All (May L) list
  pub apart : AllPairs (λ c d. (c.number == d.number) ≡ false) list
