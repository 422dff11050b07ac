-- What a store of copies keeps, and which histories it stands for.
use Rattle.std.specs.Prelude.{◌≡◌, ◌==◌, ◌≤◌, ◌+◌, ◌^◌, ℕ, List, All, AllPairs, length, false}
use Rattle.sp_copies.specs.declared.made.MadeCopy.{MadeCopy}
use Rattle.sp_copies.specs.declared.made.Share.{Share}
use Rattle.sp_copies.specs.declared.closed.ClosedCopy.{ClosedCopy}
use Rattle.sp_copies.specs.declared.held.HeldCopy.{HeldCopy}
use Rattle.sp_copies.specs.declared.held.CopyAttempts.{CopyAttempts}
use Rattle.sp_copies.specs.History.{History, used_bytes}
use Rattle.sp_copies.specs.Sound.{IsSoundHistory}

-- the rows of copies, closings, held copies and attempts, the next copy's number, and how many more copies there is
-- room for
pub record Kept : Type 0 where
  pub made : List MadeCopy
  pub closed : List ClosedCopy
  pub held : List HeldCopy
  pub attempts : List CopyAttempts
  pub next : ℕ
  pub spare : ℕ

-- the store stands for this sound history
pub record Records (kept : Kept) (H : History) : Type 0 where
  pub made : kept.made ≡ H.made
  pub closed : kept.closed ≡ H.closed
  pub held : kept.held ≡ H.held
  pub attempts : kept.attempts ≡ H.attempts
  pub next : kept.next ≡ H.next
  pub sound : IsSoundHistory H

-- numbers are left for the shares, and each fits in its endpoint, which is no other share's
pub record MayBeShared (shares : List Share) (H : History) : Type 0 where
  pub numbers : H.next + length shares ≤ 2 ^ 62 + 1
  pub fit : All (λ s. used_bytes H s.copy.endpoint + s.copy.size ≤ 2 ^ 40) shares
  pub apart : AllPairs (λ s t. (s.copy.endpoint == t.copy.endpoint) ≡ false) shares
