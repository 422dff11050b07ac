-- What holds of a file's bytes as a read gives them and in every image.
use Rattle.std.specs.Prelude.{ℕ, List, IsTrue}
use Rattle.sp_disk.specs.Disk.{Folder, Telling, SameElsewhere}
use Rattle.sp_disk.specs.declared.disk.File.{File}

-- the disk's images say something of its files: it tells its content and is honest
pub record Vouches (telling : Telling) : Type 0 where
  pub content : IsTrue telling.content
  pub honest : IsTrue telling.honest

-- the bytes of a file have P, as a read gives them and as a crash may leave them
pub record Everywhere {D : Type 0} (tells : D → Telling) (content : D → Folder) (may_leave : D → Folder → Type 0)
    (file : File) (disk : D) (P : List ℕ → Type 0) : Type 0 where
  pub reads : IsTrue (tells disk).content → P (content disk file)
  pub images : Vouches (tells disk) → (image : Folder) → may_leave disk image → P (image file)

-- an image from before after this step on one file: the other files stay
abbrev pub Reached : File → (List ℕ → List ℕ → Type 0) → (Folder → Type 0) → Folder → Type 0
Reached file step old image = (before : Folder) × old before × step (before file) (image file) × SameElsewhere file before image

-- an image from before in which one file became one that has P: the other files stay
abbrev pub Became : File → (List ℕ → Type 0) → (Folder → Type 0) → Folder → Type 0
Became file P = Reached file (λ before. P)
