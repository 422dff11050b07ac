-- What is found of a file as its calls are gone through.
use Rattle.sp_disk.specs.Picks.{Pick}
use Rattle.sp_disk.specs.declared.crash.Replay.{Replay}

-- the image, and what is left of the number
abbrev pub picked_in : Replay → Pick
picked_in replay = record { image = replay.image.items; rest = replay.rest }
