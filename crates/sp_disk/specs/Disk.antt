-- What the calls of a disk do to its files, and what a crash may make of them between two syncs.
use Rattle.std.specs.Prelude.{◌≡◌, ◌≢◌, ℕ, ◌+◌, ◌≤◌, min, max, Bool, List, ◌++◌, length, take, drop}
use Rattle.sp_disk.specs.declared.disk.File.{File}

-- the bytes of each file
abbrev pub Folder : Type 0
Folder = File → List ℕ

-- what a disk lets others know of itself
pub record Telling : Type 0 where
  -- its content is what a read gives
  pub content : Bool
  -- its images are what a crash may leave
  pub images : Bool
  -- its images keep to the rules on writes, cuts and syncs
  pub honest : Bool

-- a file with these bytes at this offset, over what stood there and past its end
abbrev pub written : List ℕ → ℕ → List ℕ → List ℕ
written file at bytes = take at file ++ bytes ++ drop (at + length bytes) file

-- A read filled the front of a buffer with these bytes and left the rest of it.
pub record Fills (bytes old new : List ℕ) (count : ℕ) : Type 0 where
  pub as_many : count ≡ length bytes
  pub buffer : new ≡ bytes ++ drop (length bytes) old

-- A write of `count` bytes at `at` that is whole, half done or not done: its range and the part past
-- the old end may hold any bytes, every byte before and behind stays, the file gets no shorter, and it
-- gets no longer than up to the range's end.
pub record Torn (at count : ℕ) (old new : List ℕ) : Type 0 where
  pub before : take (min at (length old)) new ≡ take at old
  pub behind : drop (at + count) new ≡ drop (at + count) old
  pub no_shorter : length old ≤ length new
  pub no_longer : length new ≤ max (length old) (at + count)

-- A cut that is whole, half done or not done: the length lies between the new and the old one, and
-- every byte below it stays.
pub record Shortened (len : ℕ) (old new : List ℕ) : Type 0 where
  pub no_shorter : min len (length old) ≤ length new
  pub front : new ≡ take (length new) old

-- every other file stays
abbrev pub SameElsewhere : File → Folder → Folder → Type 0
SameElsewhere file old new = (other : File) → other ≢ file → new other ≡ old other

-- Each new image is an old image after this step on one file.
abbrev pub Follows : File → (List ℕ → List ℕ → Type 0) → (Folder → Type 0) → (Folder → Type 0) → Type 0
Follows file step old new =
    (image : Folder) → new image → (from : Folder) × old from × step (from file) (image file) × SameElsewhere file from image

-- no image is new
abbrev pub AddsNone : (Folder → Type 0) → (Folder → Type 0) → Type 0
AddsNone old new = (image : Folder) → new image → old image

-- the images are the same
pub record SameImages (old new : Folder → Type 0) : Type 0 where
  pub none_new : (image : Folder) → new image → old image
  pub none_gone : (image : Folder) → old image → new image

-- every image has these bytes in this file
abbrev pub HoldsOnly : File → List ℕ → (Folder → Type 0) → Type 0
HoldsOnly file bytes images = (image : Folder) → images image → image file ≡ bytes

-- every image is what the folder holds
abbrev pub Only : Folder → (Folder → Type 0) → Type 0
Only folder images = (image : Folder) → images image → (file : File) → image file ≡ folder file
