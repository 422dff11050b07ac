-- What is lent of the bytes that a disk in memory holds.
use Rattle.std.specs.Borrow.{Lends, MutBor, Fml, RattleType, u8}
use Rattle.std.specs.contracts.alloc.Global as global
use Rattle.std.specs.contracts.vec.Vec as vec
use Rattle.std.specs.contracts.impls.GlobalAllocator.TheImpl.{ghosts}
use Rattle.sp_disk.specs.declared.disk.File.{File}
use Rattle.sp_disk.specs.declared.disk.File.TheVariants.{Journal, Image}
use Rattle.sp_disk.specs.declared.contents.Contents.{Contents}
use Rattle.sp_disk.specs.contracts.contents.Contents.{the_row}

-- `Vec<u8>` as the logic holds it
abbrev pub bytes_row : RattleType
bytes_row = vec.the_row u8 global.the_row ghosts

-- with other bytes in a file
abbrev pub with_bytes : Contents → File → bytes_row.Denot → Contents
with_bytes contents Journal bytes = record contents { journal = bytes }
with_bytes contents Image bytes = record contents { image = bytes }

-- ends with what is left behind the reference in this file
abbrev pub LendsFile : MutBor Contents → File → MutBor bytes_row.Denot → Fml
LendsFile contents file bytes = Lends the_row bytes_row contents bytes (with_bytes contents.now file)
