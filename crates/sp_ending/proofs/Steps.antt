-- One end more, of either kind: what it adds to a draft.
use Rattle.sp_copies.specs.declared.made.MadeCopy.{MadeCopy}
use Rattle.sp_endpoint.specs.Endpoint.{EndpointView}
use Rattle.sp_ending.proofs.Reaching.{ended, returned}
use Rattle.sp_ending.specs.Drafts.{DraftView, Reaches, and_ended, and_returned, with_ended, with_freed}
use Rattle.sp_copies.proofs.Chosen.{Apart}
use Rattle.sp_ending.specs.Ends.{MayEnd, MayReturn}
use Rattle.sp_event.specs.declared.answer.CopyFate.{CopyFate}
use Rattle.sp_copies.specs.declared.closed.Fate.TheVariants as fates
use Rattle.sp_ledger.proofs.Ended.{still_where_ended, still_where_returned}
use Rattle.sp_ledger.specs.Changes.{Change, changed, frees}
use Rattle.sp_ledger.specs.Endings.{closed_by, dead_queue, end_by, ended_as, ending, has_had_last, returning}
use Rattle.sp_ledger.specs.Ledger.{Ledger}
use Rattle.sp_settle.specs.declared.questions.Ending.TheVariants.{Discard, Move}
use Rattle.sp_settle.specs.declared.questions.Ending.{Ending}
use Rattle.sp_settle.specs.declared.questions.Reason.TheVariants.{RedeliveryExceeded}
use Rattle.sp_settle.specs.declared.questions.Reason.{Reason}
use Rattle.sp_txn.specs.Notes.{all_added, all_taken, bytes_added, bytes_taken}
use Rattle.sp_txn.specs.declared.note.Note.TheVariants.{Added, Taken}
use Rattle.sp_txn.specs.declared.note.Note.{Note}
use Rattle.std.proofs.Common.{ap, arith, refl}
use Rattle.std.proofs.lemmas.List.Sums.{sum_by_push}
use Rattle.std.specs.List.{cons_option}
use Rattle.std.specs.Prelude.{Bool, List, None, Option, Some, [], cond, false, true, ◌++◌, ◌+◌, ◌∷◌, ◌≡◌, ◌≤◌}

-- the bytes that go grow by the copy's at most, and those that come stay no more
pub record Adds (c : MadeCopy) (old new : DraftView) : Type 0 where
  pub taken : all_taken new.notes ≤ all_taken old.notes + c.size
  pub added : all_added old.notes ≤ all_taken old.notes → all_added new.notes ≤ all_taken new.notes

-- a change of a copy, where it may be made, and what it adds to a draft
pub record IsStep (change : MadeCopy → Ledger → Change) (May : Ledger → MadeCopy → Type 0)
    (draft : MadeCopy → Ledger → DraftView → DraftView) : Type 0 where
  pub stays : (K : Ledger) (c d : MadeCopy) → Apart c d → May K d → May (changed (change c K) K) d
  pub reaches :
      (L K : Ledger) (d : DraftView) → Reaches L K d → (c : MadeCopy) → May K c →
      Reaches L (changed (change c K) K) (draft c K d)
  pub changes : (K : Ledger) (d : DraftView) (c : MadeCopy) → (draft c K d).changes ≡ d.changes ++ change c K ∷ []
  pub told :
      (K : Ledger) (d : DraftView) (c : MadeCopy) → d.next ≡ K.copies.next →
      (draft c K d).told ≡ d.told ++ cons_option (closed_by (change c K) K) []
  pub adds : (K : Ledger) (d : DraftView) (c : MadeCopy) → Adds c d (draft c K d)

module _ (K : Ledger) (d : DraftView) (c : MadeCopy) where
  changes_ended : (e : Ending) (queue : Option EndpointView) →
      (with_ended e queue c K d).changes ≡ d.changes ++ ended_as e c K queue ∷ []
  changes_ended (Discard cause) queue = refl
  changes_ended Move None = refl
  changes_ended Move (Some queue) = refl

  told_ended : d.next ≡ K.copies.next → (e : Ending) (queue : Option EndpointView) →
      (with_ended e queue c K d).told ≡ d.told ++ cons_option (closed_by (ended_as e c K queue) K) []
  told_ended next (Discard cause) queue = refl
  told_ended next Move None = refl
  told_ended next Move (Some queue) =
      ap (λ n. d.told ++ record { copy = c.number; fate = fates.Moved n } ∷ []) next

  taken_one : all_taken (d.notes ++ Taken c.endpoint c.size ∷ []) ≡ all_taken d.notes + c.size
  taken_one = sum_by_push {X = Note} bytes_taken d.notes (Taken c.endpoint c.size)

  added_none : all_added (d.notes ++ Taken c.endpoint c.size ∷ []) ≡ all_added d.notes
  added_none = let a = sum_by_push {X = Note} bytes_added d.notes (Taken c.endpoint c.size) in omega (arith, a)

  adds_ended : (e : Ending) (queue : Option EndpointView) → Adds c d (with_ended e queue c K d)
  adds_ended (Discard cause) queue = record {
    taken = let t = taken_one in omega (arith, t);
    added = λ less. let t = taken_one in let a = added_none in omega (arith, t, a, less);
  }
  adds_ended Move None = record {
    taken = let t = taken_one in omega (arith, t);
    added = λ less. let t = taken_one in let a = added_none in omega (arith, t, a, less);
  }
  adds_ended Move (Some queue) =
      let notes = d.notes ++ Taken c.endpoint c.size ∷ [] in
      let t2 : all_taken (notes ++ Added queue.number c.size ∷ []) ≡ all_taken notes + 0 =
      sum_by_push {X = Note} bytes_taken notes (Added queue.number c.size) in
      let a2 : all_added (notes ++ Added queue.number c.size ∷ []) ≡ all_added notes + c.size =
      sum_by_push {X = Note} bytes_added notes (Added queue.number c.size) in
      let t = taken_one in
      let a = added_none in
      record { taken = omega (arith, t, t2); added = λ less. omega (arith, t, a, t2, a2, less) }

pub ending_step : (why : Reason) → IsStep (ending why) MayEnd (and_ended why)
ending_step why = record {
  stays = λ K c d apart may. still_where_ended (end_by why c K) (dead_queue K c) K c d apart may;
  reaches = λ L K d r c may. ended L K d r c may why;
  changes = λ K d c. changes_ended K d c (end_by why c K) (dead_queue K c);
  told = λ K d c next. told_ended K d c next (end_by why c K) (dead_queue K c);
  adds = λ K d c. adds_ended K d c (end_by why c K) (dead_queue K c);
}

module _ (K : Ledger) (d : DraftView) (c : MadeCopy) where
  adds_nothing : Adds c d (with_freed c d)
  adds_nothing = record { taken = omega arith; added = λ less. less }

  changes_returned : (b : Bool) →
      (cond b (and_ended RedeliveryExceeded c K d) (with_freed c d)).changes
      ≡ d.changes ++ cond b (ending RedeliveryExceeded c K) (frees c.number) ∷ []
  changes_returned true = changes_ended K d c (end_by RedeliveryExceeded c K) (dead_queue K c)
  changes_returned false = refl

  told_returned : d.next ≡ K.copies.next → (b : Bool) →
      (cond b (and_ended RedeliveryExceeded c K d) (with_freed c d)).told
      ≡ d.told ++ cons_option (closed_by (cond b (ending RedeliveryExceeded c K) (frees c.number)) K) []
  told_returned next true = told_ended K d c next (end_by RedeliveryExceeded c K) (dead_queue K c)
  told_returned next false = nothing_more d.told
    where
      nothing_more : (xs : List CopyFate) → xs ≡ xs ++ []
      nothing_more [] = refl
      nothing_more (x ∷ xs) = ap (λ (ys : List CopyFate). x ∷ ys) (nothing_more xs)

  adds_returned : (b : Bool) → Adds c d (cond b (and_ended RedeliveryExceeded c K d) (with_freed c d))
  adds_returned true = adds_ended K d c (end_by RedeliveryExceeded c K) (dead_queue K c)
  adds_returned false = adds_nothing

pub returning_step : IsStep returning MayReturn and_returned
returning_step = record {
  stays = still_where_returned;
  reaches = returned;
  changes = λ K d c. changes_returned K d c (has_had_last K c);
  told = λ K d c next. told_returned K d c next (has_had_last K c);
  adds = λ K d c. adds_returned K d c (has_had_last K c);
}
