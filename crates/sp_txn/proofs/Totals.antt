-- What notes add to one endpoint is at most what they add to all, and so with what they take.
use Rattle.std.proofs.Common.{◌≤◌, ◌==◌, ℕ, Bool, true, false, cond, List, arith}
use Rattle.std.proofs.lemmas.List.Sums.{sum_by-le-sum_by}
use Rattle.sp_txn.specs.declared.note.Note.{Note}
use Rattle.sp_txn.specs.declared.note.Note.TheVariants.{Added, Closed, Taken}
use Rattle.sp_txn.specs.Notes.{added_in, added_to, all_added, all_taken, bytes_added, bytes_taken, taken_from, taken_in}

part : (b : Bool) (bytes : ℕ) → cond b bytes 0 ≤ bytes
part true bytes = omega arith
part false bytes = omega arith

pub added_part : (endpoint : ℕ) (notes : List Note) → added_in notes endpoint ≤ all_added notes
added_part endpoint notes = sum_by-le-sum_by {X = Note} (added_to endpoint) bytes_added notes each
  where
    each : (n : Note) → added_to endpoint n ≤ bytes_added n
    each (Added at bytes) = part (at == endpoint) bytes
    each (Taken at bytes) = omega arith
    each (Closed copy) = omega arith

pub taken_part : (endpoint : ℕ) (notes : List Note) → taken_in notes endpoint ≤ all_taken notes
taken_part endpoint notes = sum_by-le-sum_by {X = Note} (taken_from endpoint) bytes_taken notes each
  where
    each : (n : Note) → taken_from endpoint n ≤ bytes_taken n
    each (Added at bytes) = omega arith
    each (Taken at bytes) = part (at == endpoint) bytes
    each (Closed copy) = omega arith
