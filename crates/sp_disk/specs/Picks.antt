-- The images that a number picks. Each write and cut of a file since its last sync that succeeded takes one digit of
-- the number to the base 8, the last digit first, those of the journal before those of the image.
use Rattle.std.specs.Prelude.{ℕ, ◌+◌, ◌-◌, ◌/◌, ◌%◌, ◌==◌, min, Bool, false, cond, if◌then◌else◌, List, [], ◌∷◌, ◌++◌, length, take, replicate}
use Rattle.sp_disk.specs.Disk.{Folder, written}
use Rattle.sp_disk.specs.Calls.{same_file, first_half, after_one}
use Rattle.sp_disk.specs.declared.disk.File.{File}
use Rattle.sp_disk.specs.declared.disk.File.TheVariants.{Journal, Image}
use Rattle.sp_disk.specs.declared.call.Call.{Call}
use Rattle.sp_disk.specs.declared.call.Call.TheVariants.{Write, Cut, Sync}
use Rattle.sp_disk.specs.declared.call.Taken.{Taken}
use Rattle.sp_disk.specs.declared.crash.Way.{Way}
use Rattle.sp_disk.specs.declared.crash.Way.TheVariants.{Whole, Undone, Half, Other}

-- how much of a write or a cut has come to the disk, by a digit
abbrev pub way_of : ℕ → Way
way_of digit = if digit == 0 then Whole else if digit == 1 then Undone else if digit == 2 then Half else
    if digit == 3 then Other 0x00 else if digit == 4 then Other 0x01 else if digit == 5 then Other 0x5a else
    if digit == 6 then Other 0x80 else Other 0xff

-- an image with bytes at an offset, and with zeros before it where the image ends earlier
abbrev pub laid : ℕ → List ℕ → List ℕ → List ℕ
laid at bytes image = written (image ++ replicate (at - length image) 0) at bytes

-- a write that is whole, not done, half done, or that leaves one other byte throughout its range
abbrev pub torn_by : Way → ℕ → List ℕ → List ℕ → List ℕ
torn_by Whole at bytes image = laid at bytes image
torn_by Undone at bytes image = image
torn_by Half at bytes image = laid at (first_half bytes) image
torn_by (Other byte) at bytes image = laid at (replicate (length bytes) byte) image

-- the length of a file of this length after a cut to `len` that is half done
abbrev pub half_cut : ℕ → ℕ → ℕ
half_cut len old = min old len + (old - min old len) / 2

-- a cut that is whole, not done or half done
abbrev pub shortened_by : Way → ℕ → List ℕ → List ℕ
shortened_by Whole len image = take len image
shortened_by Undone len image = image
shortened_by _ len image = take (half_cut len (length image)) image

-- the image of a file, and what is left of the number
pub record Pick : Type 0 where
  pub image : List ℕ
  pub rest : ℕ

-- one call on the file, before which a read gave this: a sync that succeeds begins the number anew
abbrev pub pick_call : ℕ → Call → Bool → List ℕ → Pick → Pick
pick_call number (Write at bytes) failed reads pick = record { image = torn_by (way_of (pick.rest % 8)) at bytes pick.image; rest = pick.rest / 8 }
pick_call number (Cut len) failed reads pick = record { image = shortened_by (way_of (pick.rest % 8)) len pick.image; rest = pick.rest / 8 }
pick_call number Sync false reads pick = record { image = reads; rest = number }
pick_call number _ _ reads pick = pick

-- one call, on the file or another
abbrev pub pick_one : ℕ → File → Taken → List ℕ → Pick → Pick
pick_one number file taken reads pick = cond (same_file taken.file file) (pick_call number taken.call taken.failed reads pick) pick

-- all the calls
abbrev pub pick_all : ℕ → File → List Taken → List ℕ → Pick → Pick
pick_all number file [] reads pick = pick
pick_all number file (taken ∷ calls) reads pick =
    pick_all number file calls (after_one file taken reads) (pick_one number file taken reads pick)

-- what a number picks of a file that had these bytes before the calls
abbrev pub pick_of : ℕ → File → List Taken → List ℕ → Pick
pick_of number file calls first = pick_all number file calls first (record { image = first; rest = number })

-- what a number picks of both files
abbrev pub picked_by : ℕ → List Taken → Folder → Folder
picked_by number calls first Journal = (pick_of number Journal calls (first Journal)).image
picked_by number calls first Image = (pick_of (pick_of number Journal calls (first Journal)).rest Image calls (first Image)).image
