-- The notes of a sheet, and what they make of used bytes and of copies.
use Rattle.std.specs.Prelude.{◌==◌, ◌+◌, ◌-◌, ℕ, Bool, false, List, sum_by, if◌then◌else◌}
use Rattle.std.specs.List.{list_any}
use Rattle.sp_txn.specs.declared.note.Note.{Note}
use Rattle.sp_txn.specs.declared.note.Note.TheVariants.{Added, Closed, Taken}

-- the notes in order, and the room that is reserved for more
pub record SheetView : Type 0 where
  pub notes : List Note
  pub room : ℕ

-- the bytes that a note adds to an endpoint
abbrev pub added_to : ℕ → Note → ℕ
added_to endpoint (Added at bytes) = if at == endpoint then bytes else 0
added_to endpoint (Taken at bytes) = 0
added_to endpoint (Closed copy) = 0

-- the bytes that it takes from an endpoint
abbrev pub taken_from : ℕ → Note → ℕ
taken_from endpoint (Added at bytes) = 0
taken_from endpoint (Taken at bytes) = if at == endpoint then bytes else 0
taken_from endpoint (Closed copy) = 0

-- the bytes that it adds anywhere
abbrev pub bytes_added : Note → ℕ
bytes_added (Added at bytes) = bytes
bytes_added (Taken at bytes) = 0
bytes_added (Closed copy) = 0

-- the bytes that it takes anywhere
abbrev pub bytes_taken : Note → ℕ
bytes_taken (Added at bytes) = 0
bytes_taken (Taken at bytes) = bytes
bytes_taken (Closed copy) = 0

-- whether it closes a copy
abbrev pub closes : ℕ → Note → Bool
closes copy (Added at bytes) = false
closes copy (Taken at bytes) = false
closes copy (Closed closed) = closed == copy

-- what notes add to an endpoint, and take from it
abbrev pub added_in : List Note → ℕ → ℕ
added_in notes endpoint = sum_by (added_to endpoint) notes

abbrev pub taken_in : List Note → ℕ → ℕ
taken_in notes endpoint = sum_by (taken_from endpoint) notes

-- what they add to all endpoints, and take from all
abbrev pub all_added : List Note → ℕ
all_added notes = sum_by bytes_added notes

abbrev pub all_taken : List Note → ℕ
all_taken notes = sum_by bytes_taken notes

-- the bytes that an endpoint uses after the notes
abbrev pub used_after : ℕ → List Note → ℕ → ℕ
used_after before notes endpoint = before + added_in notes endpoint - taken_in notes endpoint

-- the bytes that all endpoints use after the notes
abbrev pub all_after : ℕ → List Note → ℕ
all_after before notes = before + all_added notes - all_taken notes

-- whether a copy is noted as closed
abbrev pub is_closed : List Note → ℕ → Bool
is_closed notes copy = list_any (closes copy) notes
