-- A call of a disk in memory does what it is said to do.
use Rattle.std.proofs.Common.{◌≡◌, ℕ, Bool, false, cond, List, [], ◌∷◌, ◌++◌, length, Result, Ok, Err, OnOk, OnErr, IsOk, IsErr, refl, sym, ap, ◌∙◌, subst}
use Rattle.sp_base.specs.declared.failure.Failed.{Failed}
use Rattle.sp_disk.specs.Disk.{Folder, SameElsewhere, AddsNone, HoldsOnly}
use Rattle.sp_disk.specs.Moments.{Elapses}
use Rattle.sp_disk.specs.Contents.{held}
use Rattle.sp_disk.specs.declared.contents.Contents.{Contents}
use Rattle.sp_disk.specs.Acted.{Acted}
use Rattle.sp_disk.specs.declared.disk.File.{File}
use Rattle.sp_disk.specs.declared.call.Call.{Call}
use Rattle.sp_disk.specs.declared.call.Call.TheVariants.{Sync}
use Rattle.sp_disk.specs.declared.call.Taken.{Taken}
use Rattle.sp_disk.specs.Calls.{after_call, after_one, after_all, IsHalfDone, MayLeave, MightHaveLeft}
use Rattle.sp_disk.proofs.HalfDone.{half_done_same, half_done_done}
use Rattle.sp_disk.proofs.Grown.{same_self, not_same, grown_images, grown_kept, grown_durable, grown_none, grown_time, same_time, after_push}

-- a fact about the one outcome that there is
on_ok : {T E : Type 0} (result : Result T E) (P : Type 0) → (IsOk result → P) → OnOk result P
on_ok (Ok v) P is = is refl
on_ok (Err e) P is = tt

on_err : {T E : Type 0} (result : Result T E) (P : Type 0) → (IsErr result → P) → OnErr result P
on_err (Ok v) P is = tt
on_err (Err e) P is = is refl

module _ (file : File) (call : Call) (before after : Folder) where
  acted_refused : (images : Folder → Type 0) (e : Failed) → ((f : File) → after f ≡ before f) → Acted file call (Err e) before after images images
  acted_refused images e same = record {
    done = tt;
    half_done = subst (λ (l : List ℕ). IsHalfDone call (before file) l) (sym (same file)) (half_done_same call (before file));
    others = λ other differ. same other;
    images = λ other image left. (image, left, half_done_same call (image file), λ f differ. refl);
    kept = λ other image left. left;
    durable = λ is. tt;
    none_added = λ is image left. left;
  }

  module _ (failed : Bool) where
    abbrev taken : Taken
    taken = record { file = file; call = call; failed = failed }

    here : ((f : File) → after f ≡ after_one f taken (before f)) → after file ≡ after_call call failed (before file)
    here steps = steps file ∙ ap (λ (b : Bool). cond b (after_call call failed (before file)) (before file)) (same_self file)

    elsewhere : ((f : File) → after f ≡ after_one f taken (before f)) → SameElsewhere file before after
    elsewhere steps other differ = steps other ∙ ap (λ (b : Bool). cond b (after_call call failed (before other)) (before other)) (not_same file other differ)

acted_pushed : (first before after : Folder) (calls : List Taken) (file : File) (call : Call) (failed : Bool) (result : Result (Unit {0}) Failed)
    → ((f : File) → before f ≡ after_all f calls (first f)) → ((f : File) → after f ≡ after_one f (record { file = file; call = call; failed = failed }) (before f))
    → (IsOk result → failed ≡ false)
    → Acted file call result before after (MayLeave first calls) (MayLeave first (calls ++ (record { file = file; call = call; failed = failed }) ∷ []))
acted_pushed first before after calls file call failed result was steps succeeds = record {
  done = on_ok result _ (λ ok. here file call before after failed steps ∙ ap (λ (b : Bool). after_call call b (before file)) (succeeds ok));
  half_done = on_err result _ (λ err. subst (λ (l : List ℕ). IsHalfDone call (before file) l) (sym (here file call before after failed steps)) (half_done_done call failed (before file)));
  others = elsewhere file call before after failed steps;
  images = grown_images first calls file call failed;
  kept = grown_kept first calls file call failed;
  durable = λ is. on_ok result _ (λ ok image left. durable is (succeeds ok) image left);
  none_added = λ is. none is;
}
  where
    durable : call ≡ Sync → failed ≡ false → HoldsOnly file (before file) (MayLeave first (calls ++ (record { file = file; call = call; failed = failed }) ∷ []))
    durable is ok image left =
        grown_durable first calls file image (subst (λ (b : Bool). MayLeave first (calls ++ (record { file = file; call = Sync; failed = b }) ∷ []) image) ok (subst (λ (c : Call). MayLeave first (calls ++ (record { file = file; call = c; failed = failed }) ∷ []) image) is left))
        ∙ sym (was file)

    none : call ≡ Sync → AddsNone (MayLeave first calls) (MayLeave first (calls ++ (record { file = file; call = call; failed = failed }) ∷ []))
    none is image left =
        grown_none first calls file failed image (subst (λ (c : Call). MayLeave first (calls ++ (record { file = file; call = c; failed = failed }) ∷ []) image) is left)

module _ (file : File) (call : Call) (first first' before after : Contents) (calls calls' : List Taken) (kept : first' ≡ first) where
  -- a call that was refused changed nothing
  pub refuses : (e : Failed) → calls' ≡ calls → ((f : File) → held after f ≡ held before f)
      → Acted file call (Err e) (held before) (held after) (MayLeave (held first) calls) (MayLeave (held first') calls')
  refuses e none same =
      subst (λ (images : Folder → Type 0). Acted file call (Err e) (held before) (held after) (MayLeave (held first) calls) images)
      (ap (λ (l : List Taken). MayLeave (held first) l) (sym none) ∙ ap (λ (c : Contents). MayLeave (held c) calls') (sym kept))
      (acted_refused file call (held before) (held after) (MayLeave (held first) calls) e same)

  pub refuses_in_time : calls' ≡ calls
      → Elapses (length calls) (length calls') (MightHaveLeft (held first) calls) (MightHaveLeft (held first') calls') (MayLeave (held first') calls')
  refuses_in_time none =
      subst (λ (c : Contents). Elapses (length calls) (length calls') (MightHaveLeft (held first) calls) (MightHaveLeft (held c) calls') (MayLeave (held c) calls')) (sym kept)
      (subst (λ (l : List Taken). Elapses (length calls) (length l) (MightHaveLeft (held first) calls) (MightHaveLeft (held first) l) (MayLeave (held first) l)) (sym none)
      (same_time (held first) calls))

  module _ (failed : Bool) (pushed : calls' ≡ calls ++ (record { file = file; call = call; failed = failed }) ∷ []) where
    -- a call that was recorded did what such a call does
    pub acts : (result : Result (Unit {0}) Failed) → ((f : File) → held before f ≡ after_all f calls (held first f))
        → ((f : File) → held after f ≡ after_one f (record { file = file; call = call; failed = failed }) (held before f)) → (IsOk result → failed ≡ false)
        → Acted file call result (held before) (held after) (MayLeave (held first) calls) (MayLeave (held first') calls')
    acts result was steps succeeds =
        subst (λ (images : Folder → Type 0). Acted file call result (held before) (held after) (MayLeave (held first) calls) images)
        (ap (λ (l : List Taken). MayLeave (held first) l) (sym pushed) ∙ ap (λ (c : Contents). MayLeave (held c) calls') (sym kept))
        (acted_pushed (held first) (held before) (held after) calls file call failed result was steps succeeds)

    pub acts_in_time : Elapses (length calls) (length calls') (MightHaveLeft (held first) calls) (MightHaveLeft (held first') calls') (MayLeave (held first') calls')
    acts_in_time =
        subst (λ (c : Contents). Elapses (length calls) (length calls') (MightHaveLeft (held first) calls) (MightHaveLeft (held c) calls') (MayLeave (held c) calls')) (sym kept)
        (subst (λ (l : List Taken). Elapses (length calls) (length l) (MightHaveLeft (held first) calls) (MightHaveLeft (held first) l) (MayLeave (held first) l)) (sym pushed)
        (grown_time (held first) calls (record { file = file; call = call; failed = failed })))

    -- the files as they read are those that the calls make
    pub replayed : ((f : File) → held before f ≡ after_all f calls (held first f))
        → ((f : File) → held after f ≡ after_one f (record { file = file; call = call; failed = failed }) (held before f))
        → (f : File) → held after f ≡ after_all f calls' (held first f)
    replayed was steps f =
        let taken : Taken = record { file = file; call = call; failed = failed } in
        steps f ∙ ap (λ (l : List ℕ). after_one f taken l) (was f) ∙ sym (after_push f calls taken (held first f)) ∙ ap (λ (l : List Taken). after_all f l (held first f)) (sym pushed)
