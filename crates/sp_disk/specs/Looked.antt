-- What reading leaves of a disk.
use Rattle.std.specs.Prelude.{◌≡◌, ℕ}
use Rattle.sp_disk.specs.Disk.{Folder, Telling, SameImages}
use Rattle.sp_disk.specs.Moments.{LeavesOnly}

-- the disk is as it was, and at no moment was an image new
pub record Looked {D : Type 0} (tells : D → Telling) (content : D → Folder) (may_leave : D → Folder → Type 0)
    (moment : D → ℕ) (left_since : D → ℕ → Folder → Type 0) (old new : D) : Type 0 where
  pub same_content : content new ≡ content old
  pub same_telling : tells new ≡ tells old
  pub same_images : SameImages (may_leave old) (may_leave new)
  pub none_since : LeavesOnly moment left_since old new (may_leave old)
