-- What a crash at a moment might have left. A moment is a number of the disk's own clock.
use Rattle.std.specs.Prelude.{◌⊎◌, ℕ, ◌≤◌}
use Rattle.sp_disk.specs.Disk.{Folder}

-- Time goes on: a crash since t might have left what it might have left before, or what it may leave now.
pub record Elapses (before now : ℕ) (past since : ℕ → Folder → Type 0) (images : Folder → Type 0) : Type 0 where
  pub later : before ≤ now
  pub nothing_else : (t : ℕ) (image : Folder) → t ≤ before → since t image → past t image ⊎ images image
  pub keeps : (t : ℕ) (image : Folder) → t ≤ before → past t image → since t image

-- Time goes on over one call.
abbrev pub Passes : {D : Type 0} → (D → ℕ) → (D → ℕ → Folder → Type 0) → (D → Folder → Type 0) → D → D → Type 0
Passes moment left_since may_leave old new = Elapses (moment old) (moment new) (left_since old) (left_since new) (may_leave new)

-- A crash at any moment from the old disk to the new one leaves files that have P.
pub record LeavesOnly {D : Type 0} (moment : D → ℕ) (left_since : D → ℕ → Folder → Type 0) (old new : D) (P : Folder → Type 0) : Type 0 where
  pub later : moment old ≤ moment new
  pub each : (image : Folder) → left_since new (moment old) image → P image
  -- for a run that began earlier
  pub before : (t : ℕ) (image : Folder) → t ≤ moment old → left_since new t image → left_since old t image ⊎ P image
