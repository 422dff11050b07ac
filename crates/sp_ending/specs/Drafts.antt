-- What is decided so far of copies that end one after another, and what one end more adds.
use Rattle.sp_copies.specs.History.{attempts_of, used_bytes}
use Rattle.sp_copies.specs.declared.closed.Cause.TheVariants.{DmqMissing}
use Rattle.sp_copies.specs.declared.closed.Cause.{Cause}
use Rattle.sp_copies.specs.declared.closed.Closing.TheVariants.{Discarded}
use Rattle.sp_copies.specs.declared.closed.Fate.TheVariants as fates
use Rattle.sp_copies.specs.declared.made.MadeCopy.{MadeCopy}
use Rattle.sp_copies.specs.declared.made.NewCopy.{NewCopy}
use Rattle.sp_endpoint.specs.Endpoint.{EndpointView}
use Rattle.sp_event.specs.declared.answer.CopyFate.{CopyFate}
use Rattle.sp_ledger.specs.Changes.{Change, closes, frees, moves}
use Rattle.sp_ledger.specs.Endings.{dead_queue, end_by, has_had_last, moved_copy}
use Rattle.sp_ledger.specs.Ledger.{Ledger}
use Rattle.sp_ledger.specs.Sound.{IsSound}
use Rattle.sp_settle.specs.declared.questions.Ending.TheVariants.{Discard, Move}
use Rattle.sp_settle.specs.declared.questions.Ending.{Ending}
use Rattle.sp_settle.specs.declared.questions.Reason.TheVariants.{RedeliveryExceeded}
use Rattle.sp_settle.specs.declared.questions.Reason.{Reason}
use Rattle.sp_txn.specs.Notes.{added_in, all_added, all_taken, taken_in}
use Rattle.sp_txn.specs.declared.note.Note.TheVariants.{Added, Taken}
use Rattle.sp_txn.specs.declared.note.Note.{Note}
use Rattle.std.specs.Prelude.{List, None, Option, Some, [], if◌then◌else◌, ℕ, ◌++◌, ◌+◌, ◌^◌, ◌∷◌, ◌≡◌, ◌≤◌}

-- the changes, what is told of them, the notes of the bytes that come and go, and the next copy's number
pub record DraftView : Type 0 where
  pub changes : List Change
  pub told : List CopyFate
  pub notes : List Note
  pub next : ℕ

abbrev pub no_draft : ℕ → DraftView
no_draft next = record { changes = []; told = []; notes = []; next = next }

-- a copy is discarded
abbrev pub with_discarded : MadeCopy → Cause → DraftView → DraftView
with_discarded c cause d = record d {
  changes = d.changes ++ closes c.number (Discarded cause) ∷ [];
  told = d.told ++ record { copy = c.number; fate = fates.Discarded cause } ∷ [];
  notes = d.notes ++ Taken c.endpoint c.size ∷ [];
}

-- a copy is moved
abbrev pub with_moved : MadeCopy → NewCopy → DraftView → DraftView
with_moved c new d = record {
  changes = d.changes ++ moves c.number new ∷ [];
  told = d.told ++ record { copy = c.number; fate = fates.Moved d.next } ∷ [];
  notes = (d.notes ++ Taken c.endpoint c.size ∷ []) ++ Added new.endpoint new.size ∷ [];
  next = d.next + 1;
}

-- a copy is given back
abbrev pub with_freed : MadeCopy → DraftView → DraftView
with_freed c d = record d { changes = d.changes ++ frees c.number ∷ [] }

-- a copy ends so, on this ledger
abbrev pub with_ended : Ending → Option EndpointView → MadeCopy → Ledger → DraftView → DraftView
with_ended (Discard cause) queue c K d = with_discarded c cause d
with_ended Move None c K d = with_discarded c DmqMissing d
with_ended Move (Some queue) c K d = with_moved c (moved_copy K c queue) d

-- a copy ends, for a reason
abbrev pub and_ended : Reason → MadeCopy → Ledger → DraftView → DraftView
and_ended why c K d = with_ended (end_by why c K) (dead_queue K c) c K d

-- a copy is given back, or ends where it has had its last attempt
abbrev pub and_returned : MadeCopy → Ledger → DraftView → DraftView
and_returned c K d = if has_had_last K c then and_ended RedeliveryExceeded c K d else with_freed c d

-- its changes lead from L to K, of which it knows the bytes of each endpoint and the next number; what else decides how
-- a copy ends is as in L
pub record Reaches (L K : Ledger) (d : DraftView) : Type 0 where
  pub endpoints : K.endpoints ≡ L.endpoints
  pub messages : K.messages ≡ L.messages
  pub attempts : (copy : ℕ) → attempts_of K.copies.attempts copy ≡ attempts_of L.copies.attempts copy
  pub used :
      (endpoint : ℕ) →
      used_bytes K.copies endpoint + taken_in d.notes endpoint ≡ used_bytes L.copies endpoint
      + added_in d.notes endpoint
  pub next : d.next ≡ K.copies.next
  pub sound : IsSound K

-- a copy's bytes fit on the sheet, those that go and those that come
pub record HasPlace (c : MadeCopy) (d : DraftView) : Type 0 where
  pub taken : all_taken d.notes + c.size ≤ 2 ^ 50
  pub added : all_added d.notes ≤ all_taken d.notes
