use Rattle.std.proofs.Common.{◌≢◌, List, ℕ, length, rules, subst}
use Rattle.sp_disk.specs.Contents.{held}
use Rattle.sp_disk.specs.Disk.{Follows, Torn}
use Rattle.sp_disk.specs.Calls.{MayLeave}
use Rattle.sp_disk.specs.declared.call.Call.{Call}
use Rattle.sp_disk.specs.declared.call.Call.TheVariants.{Write, Sync}
use Rattle.sp_disk.proofs.Acts.{refuses, refuses_in_time}
use Rattle.sp_disk.proofs.memory.MemoryDiskDisk.write.Goals as goal

no_sync : (at : ℕ) (bytes : List ℕ) → Write at bytes ≢ Sync
no_sync at bytes = λ is. cc

pub returns-in-Ok-clause-images : goal.returns-in-Ok-clause-images
returns-in-Ok-clause-images c =
    let disk = c.args.self.now in
    let new = c.act.new.self in
    λ honest. subst (λ (bytes : List ℕ). Follows c.args.file (Torn c.args.at (length bytes)) (MayLeave (held disk.first) disk.calls.items) (MayLeave (held new.first) new.calls.items))
    c.in-Ok.ensures (c.act.ensures.acted.images (no_sync c.args.at c.in-Ok.bytes))

pub returns-in-Err-clause-images : goal.returns-in-Err-clause-images
returns-in-Err-clause-images c =
    let disk = c.args.self.now in
    let new = c.fault.new.self in
    let call : Call = Write c.args.at c.args.bytes.now in
    λ honest. (refuses c.args.file call disk.first new.first disk.contents new.contents disk.calls.items new.calls.items c.fault.ensures.first c.fault.result
    (search rules) (λ file. search rules)).images (no_sync c.args.at c.args.bytes.now)

pub returns-in-Err-clause-time : goal.returns-in-Err-clause-time
returns-in-Err-clause-time c =
    let disk = c.args.self.now in
    let new = c.fault.new.self in
    let call : Call = Write c.args.at c.args.bytes.now in
    refuses_in_time c.args.file call disk.first new.first disk.contents new.contents disk.calls.items new.calls.items c.fault.ensures.first (search rules)
