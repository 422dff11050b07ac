-- What a disk in memory took, and what it is to do.
use Rattle.std.specs.Prelude.{◌≡◌, ◌⊎◌, ℕ, ◌+◌, Bool, true, List, [], ◌∷◌, ◌++◌, length, Option}
use Rattle.sp_disk.specs.Disk.{Folder}
use Rattle.sp_disk.specs.Contents.{held}
use Rattle.sp_disk.specs.Plan.{is_to_fail}
use Rattle.sp_disk.specs.declared.disk.File.{File}
use Rattle.sp_disk.specs.declared.call.Call.{Call}
use Rattle.sp_disk.specs.declared.call.Taken.{Taken}
use Rattle.sp_disk.specs.declared.memory.MemoryDisk.{MemoryDisk}

-- the files before the first call
abbrev pub first_of : MemoryDisk → Folder
first_of disk = held disk.first

-- the calls that it took, in order
abbrev pub taken_by : MemoryDisk → List Taken
taken_by disk = disk.calls.items

-- the numbers of the calls that are to fail
abbrev pub failing_calls : MemoryDisk → List ℕ
failing_calls disk = disk.plan.failing.items

-- the number of the call at which it is to stop
abbrev pub stop_of : MemoryDisk → Option ℕ
stop_of disk = disk.plan.stop

-- the next call is to fail
abbrev pub next_is_to_fail : MemoryDisk → Bool
next_is_to_fail disk = is_to_fail (failing_calls disk) (stop_of disk) (length (taken_by disk) + 1)

-- A call failed exactly where the plan says so, and is in the record.
pub record IsTaken (file : File) (call : Call) (failed : Bool) (old new : MemoryDisk) : Type 0 where
  pub by_plan : failed ≡ next_is_to_fail old
  pub recorded : taken_by new ≡ taken_by old ++ record { file = file; call = call; failed = failed } ∷ []

-- A call's growth was refused: it failed, did nothing and isn't in the record.
pub record IsRefused (failed : Bool) (old new : MemoryDisk) : Type 0 where
  pub fails : failed ≡ true
  pub nothing : (file : File) → held new.contents file ≡ held old.contents file
  pub unrecorded : taken_by new ≡ taken_by old

-- what a call that failed or not leaves of the record, and that it leaves the plan
pub record Recorded (file : File) (call : Call) (failed : Bool) (old new : MemoryDisk) : Type 0 where
  pub taken : IsTaken file call failed old new ⊎ IsRefused failed old new
  pub failing : failing_calls new ≡ failing_calls old
  pub stop : stop_of new ≡ stop_of old
