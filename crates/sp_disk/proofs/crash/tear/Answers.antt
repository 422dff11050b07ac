use Rattle.std.proofs.Common.{length, Result, Ok, Err, OnOk}
use Rattle.std.specs.declared.alloc.AllocError.{AllocError}
use Rattle.sp_disk.proofs.HalfDone.{torn_more, first_half_le}
use Rattle.sp_disk.proofs.crash.tear.Goals as goal

where_ok : {P Q : Type 0} (result : Result (Unit {0}) AllocError) → (P → Q) → OnOk result P → OnOk result Q
where_ok (Ok v) go p = go p
where_ok (Err e) go p = tt

pub returns-in-Half-clause-torn : goal.returns-in-Half-clause-torn
returns-in-Half-clause-torn c =
    where_ok c.lay-in-Half.result (λ torn. torn_more c.args.at (length c.first_half.result.now) (length c.args.bytes.now) c.args.image.now.items c.lay-in-Half.new.image.items (rw c.first_half.ensures (first_half_le c.args.bytes.now)) torn) c.lay-in-Half.ensures.torn
