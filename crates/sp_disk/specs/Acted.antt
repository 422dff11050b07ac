-- What a call does to a disk in memory, whether it succeeds or fails.
use Rattle.std.specs.Prelude.{◌≡◌, ◌≢◌, false, Result, OnOk, OnErr}
use Rattle.sp_base.specs.declared.failure.Failed.{Failed}
use Rattle.sp_disk.specs.Disk.{Folder, SameElsewhere, Follows, AddsNone, HoldsOnly}
use Rattle.sp_disk.specs.Calls.{after_call, IsHalfDone}
use Rattle.sp_disk.specs.declared.disk.File.{File}
use Rattle.sp_disk.specs.declared.call.Call.{Call}
use Rattle.sp_disk.specs.declared.call.Call.TheVariants.{Sync}

-- the files as they read before and after a call on one of them, and what a crash could and can leave
pub record Acted (file : File) (call : Call) (result : Result (Unit {0}) Failed) (before after : Folder) (could can : Folder → Type 0) : Type 0 where
  pub done : OnOk result (after file ≡ after_call call false (before file))
  pub half_done : OnErr result (IsHalfDone call (before file) (after file))
  pub others : SameElsewhere file before after
  pub images : call ≢ Sync → Follows file (IsHalfDone call) could can
  pub kept : call ≢ Sync → (image : Folder) → could image → can image
  pub durable : call ≡ Sync → OnOk result (HoldsOnly file (before file) can)
  pub none_added : call ≡ Sync → AddsNone could can
