-- How a run's end is told to whoever started the program.
use Rattle.std.specs.Prelude.{ℕ, List, ◌++◌, Option, Some, None, codes, decimal}
use Rattle.sp_journal.specs.declared.journal.OpenError.{OpenError}
use Rattle.sp_journal.specs.declared.journal.OpenError.TheVariants as errors
use Rattle.sp_tape.specs.declared.status.Status.{Status}
use Rattle.sp_tape.specs.declared.status.Status.TheVariants.{Done, Usage, BadTape, ReadFault, WriteFault, DiskFault, Damaged, Memory, OtherVersion}

-- the status of a journal that wasn't opened
abbrev pub status_of : OpenError → Status
status_of errors.DiskFault = DiskFault
status_of (errors.Damaged file at) = Damaged file at
status_of (errors.OtherVersion found) = OtherVersion found
status_of errors.Memory = Memory

-- the exit status
abbrev pub status_number : Status → ℕ
status_number Done = 0
status_number Usage = 2
status_number (BadTape entry offset) = 3
status_number ReadFault = 4
status_number WriteFault = 5
status_number DiskFault = 6
status_number (Damaged file at) = 7
status_number Memory = 8
status_number (OtherVersion found) = 9

-- the line on standard error, without its line feed
abbrev pub status_line : Status → Option (List ℕ)
status_line Done = None
status_line Usage = Some (codes "usage: spoolrun run [--max n] | check | drill seed n")
status_line (BadTape entry offset) = Some (codes "bad tape: entry " ++ (decimal entry ++ (codes " at byte " ++ decimal offset)))
status_line ReadFault = Some (codes "read fault")
status_line WriteFault = Some (codes "write fault")
status_line DiskFault = Some (codes "disk fault")
status_line (Damaged file at) = Some (codes "journal damaged: file " ++ (decimal file ++ (codes " at byte " ++ decimal at)))
status_line Memory = Some (codes "want of memory")
status_line (OtherVersion found) = Some (codes "journal version " ++ (decimal found ++ codes " is not known"))
