-- What a list of calls makes of a file: what a read gives, and what a crash may leave.
use Rattle.std.specs.Prelude.{◌≡◌, ◌⊎◌, ℕ, ◌-◌, ◌/◌, ◌≤◌, Bool, true, false, cond, List, [], ◌∷◌, length, take, MatchBool}
use Rattle.sp_disk.specs.Disk.{Folder, Torn, Shortened, written}
use Rattle.sp_disk.specs.declared.disk.File.{File}
use Rattle.sp_disk.specs.declared.disk.File.TheVariants.{Journal, Image}
use Rattle.sp_disk.specs.declared.call.Call.{Call}
use Rattle.sp_disk.specs.declared.call.Call.TheVariants.{Write, Cut, Sync}
use Rattle.sp_disk.specs.declared.call.Taken.{Taken}

-- whether both are one file
abbrev pub same_file : File → File → Bool
same_file Journal Journal = true
same_file Journal Image = false
same_file Image Journal = false
same_file Image Image = true

-- the first half of some bytes, the greater one
abbrev pub first_half : List ℕ → List ℕ
first_half bytes = take (length bytes - length bytes / 2) bytes

-- what a read gives after a call on the file: a write that fails does its first half, a cut that fails nothing
abbrev pub after_call : Call → Bool → List ℕ → List ℕ
after_call (Write at bytes) failed file = written file at (cond failed (first_half bytes) bytes)
after_call (Cut len) failed file = cond failed file (take len file)
after_call _ failed file = file

-- A call on the file is whole, half done or not done.
abbrev pub IsHalfDone : Call → List ℕ → List ℕ → Type 0
IsHalfDone (Write at bytes) old new = Torn at (length bytes) old new
IsHalfDone (Cut len) old new = Shortened len old new
IsHalfDone _ old new = new ≡ old

-- what a crash after a call on the file may leave, of what one before it might have left:
-- a sync that succeeds leaves what a read gives, and every other call is done, half done or not done
abbrev pub Leaves : Call → Bool → List ℕ → List ℕ → List ℕ → Type 0
Leaves Sync false reads old new = new ≡ reads
Leaves call failed reads old new = (new ≡ after_call call failed old) ⊎ IsHalfDone call old new

-- what a read of a file gives after a call, on that file or another
abbrev pub after_one : File → Taken → List ℕ → List ℕ
after_one file taken bytes = cond (same_file taken.file file) (after_call taken.call taken.failed bytes) bytes

-- what a crash after a call may leave of a file, on that file or another
abbrev pub LeavesOne : File → Taken → List ℕ → List ℕ → List ℕ → Type 0
LeavesOne file taken reads old new = MatchBool (same_file taken.file file) (Leaves taken.call taken.failed reads old new) (new ≡ old)

-- what a read of a file gives after these calls
abbrev pub after_all : File → List Taken → List ℕ → List ℕ
after_all file [] bytes = bytes
after_all file (taken ∷ calls) bytes = after_all file calls (after_one file taken bytes)

-- A crash after these calls may leave this of a file: from what it held at first there is a step for
-- each call, to something that a crash after that call may leave.
abbrev pub IsImage : File → List Taken → List ℕ → List ℕ → List ℕ → Type 0
IsImage file [] reads old image = image ≡ old
IsImage file (taken ∷ calls) reads old image = (next : List ℕ) × LeavesOne file taken reads old next × IsImage file calls (after_one file taken reads) next image

-- a crash after these calls may leave this of the files, all of which were synced at first
abbrev pub MayLeave : Folder → List Taken → Folder → Type 0
MayLeave first calls image = (file : File) → IsImage file calls (first file) (first file) (image file)

-- a crash after some of these calls, as many as a number or more, might have left this
abbrev pub MightHaveLeft : Folder → List Taken → ℕ → Folder → Type 0
MightHaveLeft first calls since image = (count : ℕ) × (since ≤ count) × (count ≤ length calls) × MayLeave first (take count calls) image
