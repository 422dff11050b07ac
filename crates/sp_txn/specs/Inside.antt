-- How contracts see the fields of a sheet, and what is true of them.
use Rattle.std.specs.Prelude.{◌≤◌, ◌^◌}
use Rattle.sp_txn.specs.declared.sheet.Sheet.TheInside.{Inside}
use Rattle.sp_txn.specs.Notes.{SheetView, all_added, all_taken}

abbrev pub sheet_view : Inside → SheetView
sheet_view s = record { notes = s.notes.items; room = s.notes.room }

-- the sum added and the sum taken are each at most 2^50
pub record IsSheet (s : Inside) : Type 0 where
  pub added : all_added s.notes.items ≤ 2 ^ 50
  pub taken : all_taken s.notes.items ≤ 2 ^ 50
