-- The bytes that a disk in memory holds.
use Rattle.sp_disk.specs.Disk.{Folder}
use Rattle.sp_disk.specs.declared.disk.File.TheVariants.{Journal, Image}
use Rattle.sp_disk.specs.declared.contents.Contents.{Contents}

-- the bytes of each file
abbrev pub held : Contents → Folder
held contents Journal = contents.journal.items
held contents Image = contents.image.items
