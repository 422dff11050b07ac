-- What one more call makes of a file, and of the images.
use Rattle.std.proofs.Common.{◌≡◌, ◌≢◌, ◌⊎◌, inl, inr, ⊎_elim, ℕ, ◌+◌, ◌<◌, ◌≤◌, Bool, true, false, List, [], ◌∷◌, ◌++◌, length, MatchBool, refl, sym, subst, arith, length-append}
use Rattle.std.proofs.lemmas.Bool.{cases_lt}
use Rattle.std.proofs.lemmas.List.{take-append-le, take_all}
use Rattle.sp_disk.specs.Disk.{Folder, Follows, AddsNone}
use Rattle.sp_disk.specs.Moments.{Elapses}
use Rattle.sp_disk.specs.declared.disk.File.{File}
use Rattle.sp_disk.specs.declared.disk.File.TheVariants.{Journal, Image}
use Rattle.sp_disk.specs.declared.call.Call.{Call}
use Rattle.sp_disk.specs.declared.call.Call.TheVariants.{Sync}
use Rattle.sp_disk.specs.declared.call.Taken.{Taken}
use Rattle.sp_disk.specs.Calls.{same_file, after_one, after_all, IsHalfDone, Leaves, LeavesOne, IsImage, MayLeave, MightHaveLeft}
use Rattle.sp_disk.specs.Images.{reads_image}
use Rattle.sp_disk.proofs.HalfDone.{half_done_of, leaves_same}

pub same_self : (file : File) → same_file file file ≡ true
same_self Journal = refl
same_self Image = refl

pub not_same : (file other : File) → other ≢ file → same_file file other ≡ false
not_same Journal Journal differ = absurd (differ refl)
not_same Journal Image differ = refl
not_same Image Journal differ = refl
not_same Image Image differ = absurd (differ refl)

pub after_push : (file : File) (calls : List Taken) (taken : Taken) (bytes : List ℕ) → after_all file (calls ++ taken ∷ []) bytes ≡ after_one file taken (after_all file calls bytes)
after_push file [] taken bytes = refl
after_push file (first ∷ calls) taken bytes = after_push file calls taken (after_one file first bytes)

-- the last of the steps to an image, apart
pub record Last (file : File) (calls : List Taken) (taken : Taken) (reads old image : List ℕ) : Type 0 where
  pub from : List ℕ
  pub is_image : IsImage file calls reads old from
  pub step : LeavesOne file taken (after_all file calls reads) from image

pub last : (file : File) (calls : List Taken) (taken : Taken) (reads old image : List ℕ) → IsImage file (calls ++ taken ∷ []) reads old image → Last file calls taken reads old image
last file [] taken reads old image steps = record {
  from = old;
  is_image = refl;
  step = subst (λ (l : List ℕ). LeavesOne file taken reads old l) (sym steps.2) steps.1;
}
last file (first ∷ calls) taken reads old image steps =
    let rest = last file calls taken (after_one file first reads) steps.0 image steps.2 in
    record { from = rest.from; is_image = (steps.0, steps.1, rest.is_image); step = rest.step }

pub one_more : (file : File) (calls : List Taken) (taken : Taken) (reads old from image : List ℕ) → IsImage file calls reads old from → LeavesOne file taken (after_all file calls reads) from image → IsImage file (calls ++ taken ∷ []) reads old image
one_more file [] taken reads old from image is step = (image, subst (λ (l : List ℕ). LeavesOne file taken reads l image) is step, refl)
one_more file (first ∷ calls) taken reads old from image steps step =
    (steps.0, steps.1, one_more file calls taken (after_one file first reads) steps.0 from image steps.2 step)

-- on the file itself, and on another one
here : (file : File) (call : Call) (failed : Bool) (reads old new : List ℕ) → LeavesOne file (record { file = file; call = call; failed = failed }) reads old new → Leaves call failed reads old new
here file call failed reads old new step = subst (λ (b : Bool). MatchBool b (Leaves call failed reads old new) (new ≡ old)) (same_self file) step

there : (file other : File) (call : Call) (failed : Bool) (reads old new : List ℕ) → other ≢ file → LeavesOne other (record { file = file; call = call; failed = failed }) reads old new → new ≡ old
there file other call failed reads old new differ step = subst (λ (b : Bool). MatchBool b (Leaves call failed reads old new) (new ≡ old)) (not_same file other differ) step

module _ (first : Folder) (calls : List Taken) (file : File) (call : Call) (failed : Bool) where
  abbrev pub taken : Taken
  taken = record { file = file; call = call; failed = failed }

  -- the image before the call that each file's last step began at
  abbrev pub origin : (image : Folder) → MayLeave first (calls ++ taken ∷ []) image → Folder
  origin image left other = (last other calls taken (first other) (first other) (image other) (left other)).from

  pub grown_images : call ≢ Sync → Follows file (IsHalfDone call) (MayLeave first calls) (MayLeave first (calls ++ taken ∷ []))
  grown_images other image left = (
    origin image left,
    λ f. (last f calls taken (first f) (first f) (image f) (left f)).is_image,
    half_done_of call failed (after_all file calls (first file)) (origin image left file) (image file) other
        (here file call failed (after_all file calls (first file)) (origin image left file) (image file) (last file calls taken (first file) (first file) (image file) (left file)).step),
    λ f differ. there file f call failed (after_all f calls (first f)) (origin image left f) (image f) differ
        (last f calls taken (first f) (first f) (image f) (left f)).step,
  )

  stays : (f : File) (reads bytes : List ℕ) → call ≢ Sync → LeavesOne f taken reads bytes bytes
  stays f reads bytes other =
      elim (same_file file f) as (λ b. MatchBool b (Leaves call failed reads bytes bytes) (bytes ≡ bytes)) [
        | true ↦ leaves_same call failed reads bytes other
        | false ↦ refl
      ]

  pub grown_kept : call ≢ Sync → (image : Folder) → MayLeave first calls image → MayLeave first (calls ++ taken ∷ []) image
  grown_kept other image left f =
      one_more f calls taken (first f) (first f) (image f) (image f) (left f) (stays f (after_all f calls (first f)) (image f) other)

-- a sync that succeeds leaves what a read gives
pub grown_durable : (first : Folder) (calls : List Taken) (file : File) (image : Folder) → MayLeave first (calls ++ (record { file = file; call = Sync; failed = false }) ∷ []) image → image file ≡ after_all file calls (first file)
grown_durable first calls file image left =
    let taken : Taken = record { file = file; call = Sync; failed = false } in
    let end : Last file calls taken (first file) (first file) (image file) = last file calls taken (first file) (first file) (image file) (left file) in
    here file Sync false (after_all file calls (first file)) end.from (image file) end.step

-- a sync adds no image of a file
sync_adds : (failed : Bool) (f : File) (calls : List Taken) (first old image : List ℕ) → IsImage f calls first first old → Leaves Sync failed (after_all f calls first) old image → IsImage f calls first first image
sync_adds true f calls first old image is left = subst (λ (l : List ℕ). IsImage f calls first first l) (sym (⊎_elim (λ e. e) (λ e. e) left)) is
sync_adds false f calls first old image is left = subst (λ (l : List ℕ). IsImage f calls first first l) (sym left) (reads_image f calls first)

pub grown_none : (first : Folder) (calls : List Taken) (file : File) (failed : Bool) → AddsNone (MayLeave first calls) (MayLeave first (calls ++ (record { file = file; call = Sync; failed = failed }) ∷ []))
grown_none first calls file failed image left f =
    let taken : Taken = record { file = file; call = Sync; failed = failed } in
    let end : Last f calls taken (first f) (first f) (image f) = last f calls taken (first f) (first f) (image f) (left f) in
    let by : (b : Bool) → MatchBool b (Leaves Sync failed (after_all f calls (first f)) end.from (image f)) (image f ≡ end.from) → IsImage f calls (first f) (first f) (image f) = elim [
      | true ↦ λ step. sync_adds failed f calls (first f) end.from (image f) end.is_image step
      | false ↦ λ step. subst (λ (l : List ℕ). IsImage f calls (first f) (first f) l) (sym step) end.is_image
    ] in
    by (same_file file f) end.step

-- time goes on by one call
pub grown_time : (first : Folder) (calls : List Taken) (taken : Taken) → Elapses (length calls) (length (calls ++ taken ∷ [])) (MightHaveLeft first calls) (MightHaveLeft first (calls ++ taken ∷ [])) (MayLeave first (calls ++ taken ∷ []))
grown_time first calls taken = record {
  later = omega (arith, longer);
  nothing_else = λ since image earlier left. was since image left (cases_lt (length calls) left.0);
  keeps = λ since image earlier left. (
    left.0,
    left.1,
    omega (arith, longer, left.2),
    subst (λ (l : List Taken). MayLeave first l image) (sym (take-append-le left.0 calls (taken ∷ []) left.2)) left.3,
  );
}
  where
    longer : length (calls ++ taken ∷ []) ≡ length calls + 1
    longer = length-append calls (taken ∷ [])

    was : (since : ℕ) (image : Folder) (left : MightHaveLeft first (calls ++ taken ∷ []) since image) → (length calls < left.0) ⊎ (left.0 ≤ length calls) → MightHaveLeft first calls since image ⊎ MayLeave first (calls ++ taken ∷ []) image
    was since image left (inl all) = inr (subst (λ (l : List Taken). MayLeave first l image) (take_all left.0 (calls ++ taken ∷ []) (omega (arith, longer))) left.3)
    was since image left (inr some) = inl (
      left.0,
      left.1,
      some,
      subst (λ (l : List Taken). MayLeave first l image) (take-append-le left.0 calls (taken ∷ []) some) left.3,
    )

pub same_time : (first : Folder) (calls : List Taken) → Elapses (length calls) (length calls) (MightHaveLeft first calls) (MightHaveLeft first calls) (MayLeave first calls)
same_time first calls = record { later = omega arith; nothing_else = λ since image earlier left. inl left; keeps = λ since image earlier left. left }
