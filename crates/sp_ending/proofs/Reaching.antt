-- A draft that reaches a ledger reaches the one after one end more.
use Rattle.sp_copies.proofs.ClosedSound.{closed_sound}
use Rattle.sp_copies.proofs.Others.{attempts_made, used_closed, used_made}
use Rattle.sp_copies.specs.History.{History, copy_of, is_held, is_made, used_bytes, with_closed}
use Rattle.sp_copies.specs.Sound.{IsSoundHistory}
use Rattle.sp_copies.specs.declared.closed.Cause.TheVariants.{DmqMissing}
use Rattle.sp_copies.specs.declared.closed.Cause.{Cause}
use Rattle.sp_copies.specs.declared.closed.Closing.{Closing}
use Rattle.sp_copies.specs.declared.closed.Closing.TheVariants as closings
use Rattle.sp_copies.specs.declared.made.MadeCopy.{MadeCopy}
use Rattle.sp_copies.specs.declared.made.NewCopy.{NewCopy}
use Rattle.sp_endpoint.specs.Endpoint.{EndpointView}
use Rattle.sp_ending.specs.Drafts.{DraftView, Reaches, and_ended, and_returned, with_discarded, with_ended, with_freed}
use Rattle.sp_ending.specs.Drafts.{with_moved}
use Rattle.sp_ending.specs.Ends.{MayEnd, MayReturn}
use Rattle.sp_ledger.proofs.CopiesKept.{kept_of}
use Rattle.sp_ledger.proofs.EachKind.{change_sound}
use Rattle.sp_ledger.proofs.Ended.{ending_allowed}
use Rattle.sp_ledger.proofs.Listed.{and_left}
use Rattle.sp_ledger.specs.Allowed.{IsAllowed, MayMove}
use Rattle.sp_ledger.specs.Changes.{changed, closes, frees, moves}
use Rattle.sp_ledger.specs.Endings.{dead_queue, end_by, ended_as, ending, facts_of, has_had_last, moved_copy, returning}
use Rattle.sp_ledger.specs.Endings.{target_of}
use Rattle.sp_ledger.specs.Ledger.{Ledger}
use Rattle.sp_settle.specs.Questions.{end_of}
use Rattle.sp_settle.specs.declared.questions.Ending.TheVariants.{Discard, Move}
use Rattle.sp_settle.specs.declared.questions.Ending.{Ending}
use Rattle.sp_settle.specs.declared.questions.Reason.TheVariants.{RedeliveryExceeded}
use Rattle.sp_settle.specs.declared.questions.Reason.{Reason}
use Rattle.sp_settle.specs.Questions.{caused, is_by_move}
use Rattle.sp_txn.specs.Notes.{added_in, added_to, taken_from, taken_in, used_after}
use Rattle.sp_txn.specs.declared.note.Note.TheVariants.{Added, Taken}
use Rattle.sp_txn.specs.declared.note.Note.{Note}
use Rattle.std.proofs.Common.{ap, arith, refl, subst, ◌∙◌}
use Rattle.std.proofs.lemmas.List.Elements.{All-head, All-tail}
use Rattle.std.proofs.lemmas.List.Sums.{sum_by_push}
use Rattle.std.specs.Prelude.{All, Bool, List, None, Option, Some, [], cond, false, not, option_map, true, ℕ}
use Rattle.std.specs.Prelude.{◌++◌, ◌+◌, ◌==◌, ◌^◌, ◌||◌, ◌∷◌, ◌≡◌, ◌≤◌}

-- a copy that is made is found under its own number
found_own : (c : MadeCopy) (cs : List MadeCopy) → is_made cs c.number ≡ true →
    All (λ d. (d.number == c.number) ≡ true → d ≡ c) cs → copy_of cs c.number ≡ Some c
found_own c [] made own = absurd (cc)
found_own c (d ∷ ds) made own =
    one (d.number == c.number) refl made
    (λ k. found_own c ds k (All-tail (λ (y : MadeCopy). (y.number == c.number) ≡ true → y ≡ c) d ds own))
  where
    one : (b : Bool) → (d.number == c.number) ≡ b → (b || is_made ds c.number) ≡ true →
        (is_made ds c.number ≡ true → copy_of ds c.number ≡ Some c) → cond b (Some d) (copy_of ds c.number) ≡ Some c
    one true is k later =
        ap (λ (y : MadeCopy). Some y) (All-head (λ (y : MadeCopy). (y.number == c.number) ≡ true → y ≡ c) d ds own is)
    one false is k later = later k

-- what one note more comes to
taken_more : (e : ℕ) (notes : List Note) (at size : ℕ) →
    taken_in (notes ++ Taken at size ∷ []) e ≡ taken_in notes e + cond (at == e) size 0
taken_more e notes at size = sum_by_push {X = Note} (taken_from e) notes (Taken at size)

taken_same : (e : ℕ) (notes : List Note) (at size : ℕ) →
    taken_in (notes ++ Added at size ∷ []) e ≡ taken_in notes e
taken_same e notes at size = let t = sum_by_push {X = Note} (taken_from e) notes (Added at size) in omega (arith, t)

added_more : (e : ℕ) (notes : List Note) (at size : ℕ) →
    added_in (notes ++ Added at size ∷ []) e ≡ added_in notes e + cond (at == e) size 0
added_more e notes at size = sum_by_push {X = Note} (added_to e) notes (Added at size)

added_same : (e : ℕ) (notes : List Note) (at size : ℕ) →
    added_in (notes ++ Taken at size ∷ []) e ≡ added_in notes e
added_same e notes at size = let t = sum_by_push {X = Note} (added_to e) notes (Taken at size) in omega (arith, t)

module _ (L K : Ledger) (d : DraftView) (r : Reaches L K d) (c : MadeCopy) (may : MayEnd K c) where
  history : IsSoundHistory K.copies
  history = (kept_of K r.sound).history

  there : copy_of K.copies.made c.number ≡ Some c
  there = found_own c K.copies.made (and_left (is_made K.copies.made c.number) _ may.spooled) may.own

  -- its bytes go
  bytes_go : (how : Closing) (e : ℕ) →
      used_bytes (with_closed c.number how K.now K.copies) e + cond (c.endpoint == e) c.size 0 ≡ used_bytes K.copies e
  bytes_go how e = used_closed K.copies c.number c how K.now e history there may.spooled

  pub discarded : (cause : Cause) →
      Reaches L (changed (closes c.number (closings.Discarded cause)) K) (with_discarded c cause d)
  discarded cause = record {
    endpoints = r.endpoints;
    messages = r.messages;
    attempts = r.attempts;
    used = λ e.
        let exact = bytes_go (closings.Discarded cause) e in
        let before = r.used e in
        let taken = taken_more e d.notes c.endpoint c.size in
        let added = added_same e d.notes c.endpoint c.size in
        omega (arith, exact, before, taken, added);
    next = r.next;
    sound = change_sound (closes c.number (closings.Discarded cause)) K r.sound (may.spooled, refl);
  }

  pub moved : (new : NewCopy) → MayMove K c.number new →
      Reaches L (changed (moves c.number new) K) (with_moved c new d)
  moved new may_move = record {
    endpoints = r.endpoints;
    messages = r.messages;
    attempts = λ copy. attempts_made closed new copy ∙ r.attempts copy;
    used = λ e.
        let exact = bytes_go (closings.Moved K.copies.next) e in
        let made = used_made closed new e
        (closed_sound K.copies c.number (closings.Moved K.copies.next) K.now history may.spooled) in
        let before = r.used e in
        let taken = taken_more e d.notes c.endpoint c.size in
        let added = added_same e d.notes c.endpoint c.size in
        let taken2 = taken_same e (d.notes ++ Taken c.endpoint c.size ∷ []) new.endpoint new.size in
        let added2 = added_more e (d.notes ++ Taken c.endpoint c.size ∷ []) new.endpoint new.size in
        omega (arith, exact, made, before, taken, added, taken2, added2);
    next = ap (λ n. n + 1) r.next;
    sound = change_sound (moves c.number new) K r.sound may_move;
  }
    where
      closed : History
      closed = with_closed c.number (closings.Moved K.copies.next) K.now K.copies

  pub freed : is_held K.copies.held c.number ≡ true → Reaches L (changed (frees c.number) K) (with_freed c d)
  freed held = record {
    endpoints = r.endpoints;
    messages = r.messages;
    attempts = r.attempts;
    used = r.used;
    next = r.next;
    sound = change_sound (frees c.number) K r.sound held;
  }

  may_move : (why : Reason) (queue : EndpointView) → end_by why c K ≡ Move → dead_queue K c ≡ Some queue →
      MayMove K c.number (moved_copy K c queue)
  may_move why queue is found =
      subst (λ (q : Option EndpointView). IsAllowed (ended_as Move c K q) K) found
      (subst (λ (e : Ending). IsAllowed (ended_as e c K (dead_queue K c)) K) is (ending_allowed K r.sound c may why))

  pub ended : (why : Reason) → Reaches L (changed (ending why c K) K) (and_ended why c K d)
  ended why = one (end_by why c K) refl (dead_queue K c) refl
    where
      one : (e : Ending) → end_by why c K ≡ e → (queue : Option EndpointView) → dead_queue K c ≡ queue →
          Reaches L (changed (ended_as e c K queue) K) (with_ended e queue c K d)
      one (Discard cause) is queue found = discarded cause
      one Move is None found = discarded DmqMissing
      one Move is (Some queue) found = moved (moved_copy K c queue) (may_move why queue is found)

  -- where a copy is moved, a number is left
  pub number_left : (why : Reason) → end_by why c K ≡ Move → d.next ≤ 2 ^ 62
  number_left why is = one (dead_queue K c) refl
    where
      never : (a : Bool) → cond a (Discard (caused why)) (Discard DmqMissing) ≡ Move → d.next ≤ 2 ^ 62
      never true k = absurd (cc)
      never false k = absurd (cc)

      one : (queue : Option EndpointView) → dead_queue K c ≡ queue → d.next ≤ 2 ^ 62
      one None found =
          never (not (facts_of K c).eligible || is_by_move c.origin)
          (subst (λ (q : Option EndpointView). end_of why (facts_of K c) (option_map (target_of K) q) ≡ Move) found is)
      one (Some queue) found =
          let after = moved (moved_copy K c queue) (may_move why queue is found) in
          let most = after.sound.copies.next in
          let next = r.next in
          omega (arith, most, next)

-- the bytes that it gives for an endpoint are those of the ledger that it reaches
pub used_now : (L K : Ledger) (d : DraftView) → Reaches L K d → (e before : ℕ) → before ≡ used_bytes L.copies e →
    used_after before d.notes e ≡ used_bytes K.copies e
used_now L K d r e before is = let exact = r.used e in omega (arith, is, exact)

-- a copy that is given back
pub returned : (L K : Ledger) (d : DraftView) → Reaches L K d → (c : MadeCopy) → MayReturn K c →
    Reaches L (changed (returning c K) K) (and_returned c K d)
returned L K d r c may = one (has_had_last K c)
  where
    one : (b : Bool) → Reaches L (changed (cond b (ending RedeliveryExceeded c K) (frees c.number)) K)
        (cond b (and_ended RedeliveryExceeded c K d) (with_freed c d))
    one true = ended L K d r c may.0 RedeliveryExceeded
    one false = freed L K d r c may.0 may.1
