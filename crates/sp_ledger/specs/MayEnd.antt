-- Which copies may end, and which may be given back.
use Rattle.sp_copies.specs.History.{is_held, is_spooled}
use Rattle.sp_copies.specs.declared.made.MadeCopy.{MadeCopy}
use Rattle.sp_ledger.specs.Ledger.{Ledger}
use Rattle.std.specs.Prelude.{All, true, ◌<◌, ◌==◌, ◌≡◌}

-- a spooled copy as it was made, under a number that was drawn
pub record MayEnd (K : Ledger) (c : MadeCopy) : Type 0 where
  pub own : All (λ d. (d.number == c.number) ≡ true → d ≡ c) K.copies.made
  pub below : c.number < K.copies.next
  pub spooled : is_spooled K.copies c.number ≡ true

-- a held copy as it was made
abbrev pub MayReturn : Ledger → MadeCopy → Type 0
MayReturn K c = MayEnd K c × (is_held K.copies.held c.number ≡ true)
