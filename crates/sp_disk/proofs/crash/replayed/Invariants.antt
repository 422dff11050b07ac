use Rattle.std.proofs.Common.{◌≡◌, take, drop}
use Rattle.sp_disk.specs.Calls.{after_all, IsImage}
use Rattle.sp_disk.specs.Picks.{pick_all, pick_of}
use Rattle.sp_disk.specs.Replays.{picked_in}
use Rattle.sp_disk.proofs.crash.replayed.Given as goal

abbrev pub invariant-loop-taken : goal.invariant-loop-taken
invariant-loop-taken l = record {
  reads : l.replay.reads.items ≡ after_all l.file (take l.taken-index l.calls) l.first;
  image : IsImage l.file (take l.taken-index l.calls) l.first l.first l.replay.image.items;
  picked : pick_all l.number l.file (drop l.taken-index l.calls) l.replay.reads.items (picked_in l.replay) ≡ pick_of l.number l.file l.calls l.first;
}
