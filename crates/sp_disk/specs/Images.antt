-- What holds of the images that a list of calls may leave.
use Rattle.std.specs.Prelude.{◌≡◌, ℕ, ◌≤◌, Bool, true, false, cond, List, [], ◌∷◌, length, MatchBool, refl}
use Rattle.std.proofs.Common.{inl, sym, subst}
use Rattle.std.proofs.Math.Nat.{le_refl, le_trans}
use Rattle.std.proofs.lemmas.List.{take_all}
use Rattle.sp_disk.specs.Disk.{Folder}
use Rattle.sp_disk.specs.declared.disk.File.{File}
use Rattle.sp_disk.specs.declared.call.Call.{Call}
use Rattle.sp_disk.specs.declared.call.Call.TheVariants.{Len, Read, Write, Cut, Sync}
use Rattle.sp_disk.specs.declared.call.Taken.{Taken}
use Rattle.sp_disk.specs.Calls.{same_file, after_call, after_one, after_all, Leaves, LeavesOne, IsImage, MayLeave, MightHaveLeft}

-- a call that is done leaves what a read gives
leaves_done : (call : Call) (failed : Bool) (reads : List ℕ) → Leaves call failed reads reads (after_call call failed reads)
leaves_done Len failed reads = inl refl
leaves_done (Read at count) failed reads = inl refl
leaves_done (Write at bytes) failed reads = inl refl
leaves_done (Cut len) failed reads = inl refl
leaves_done Sync true reads = inl refl
leaves_done Sync false reads = refl

leaves_one_done : (file : File) (taken : Taken) (reads : List ℕ) → LeavesOne file taken reads reads (after_one file taken reads)
leaves_one_done file taken reads =
    elim (same_file taken.file file) as (λ b. MatchBool b (Leaves taken.call taken.failed reads reads (cond b (after_call taken.call taken.failed reads) reads)) (cond b (after_call taken.call taken.failed reads) reads ≡ reads)) [
      | true ↦ leaves_done taken.call taken.failed reads
      | false ↦ refl
    ]

pub reads_image : (file : File) (calls : List Taken) (reads : List ℕ) → IsImage file calls reads reads (after_all file calls reads)
reads_image file [] reads = refl
reads_image file (taken ∷ calls) reads =
    (after_one file taken reads, leaves_one_done file taken reads, reads_image file calls (after_one file taken reads))

-- the files as they read are one of the images
pub reads_left : (first now : Folder) (calls : List Taken) → ((file : File) → now file ≡ after_all file calls (first file)) → MayLeave first calls now
reads_left first now calls replayed file =
    subst (λ (image : List ℕ). IsImage file calls (first file) (first file) image) (sym (replayed file)) (reads_image file calls (first file))

-- a crash now is one since any earlier moment
pub left_now : (first : Folder) (calls : List Taken) (since : ℕ) (image : Folder) → since ≤ length calls → MayLeave first calls image → MightHaveLeft first calls since image
left_now first calls since image earlier left =
    (length calls, earlier, le_refl (length calls), subst (λ (all : List Taken). MayLeave first all image) (sym (take_all (length calls) calls (le_refl (length calls)))) left)

-- since now there is no other
pub left_only_now : (first : Folder) (calls : List Taken) (image : Folder) → MightHaveLeft first calls (length calls) image → MayLeave first calls image
left_only_now first calls image left =
    subst (λ (all : List Taken). MayLeave first all image) (take_all left.0 calls left.1) left.3

-- what was left since a later moment was left since an earlier one
pub left_earlier : (first : Folder) (calls : List Taken) (earlier later : ℕ) (image : Folder) → earlier ≤ later → MightHaveLeft first calls later image → MightHaveLeft first calls earlier image
left_earlier first calls earlier later image le left = (left.0, le_trans le left.1, left.2, left.3)
