-- Every change keeps the copies' numbers without a gap.
use Rattle.sp_copies.specs.History.{History, empty_history, with_closed, with_made, numbered}
use Rattle.sp_copies.specs.declared.closed.Cause.TheVariants.{NotSpooled}
use Rattle.sp_copies.specs.declared.closed.Closing.TheVariants.{Discarded}
use Rattle.sp_copies.specs.declared.made.MadeCopy.{MadeCopy}
use Rattle.sp_copies.specs.declared.made.NewCopy.{NewCopy}
use Rattle.sp_event.specs.declared.answer.Reply.{Reply}
use Rattle.sp_event.specs.declared.request.Event.{Event}
use Rattle.sp_ledger.proofs.Decided.{left_by}
use Rattle.sp_ledger.specs.Changes.{Change, Share, all_changed, all_shared, becomes, binds, changed, closes, comes}
use Rattle.sp_ledger.specs.Changes.{ends, frees, goes, goes_on, holds, logs, moves, publishes, repeats, starts}
use Rattle.sp_ledger.specs.Changes.{unbinds, unbinds_all, with_share}
use Rattle.sp_ledger.specs.Events.{outcome, step}
use Rattle.sp_ledger.specs.Ledger.{Ledger}
use Rattle.sp_ledger.specs.Sound.{IsWhole}
use Rattle.sp_ledger.specs.Step.{accepted, begun}
use Rattle.std.proofs.Common.{ap, arith, subst, ◌∙◌}
use Rattle.std.proofs.lemmas.List.{map-append}
use Rattle.std.specs.List.{range_with_len}
use Rattle.std.specs.Prelude.{Bool, List, [], cond, false, suc, true, zero, ℕ, ◌++◌, ◌+◌, ◌-◌, ◌∷◌, ◌≡◌}

-- one number more stands last
one_longer : (a n : ℕ) → range_with_len a n ++ (a + n) ∷ [] ≡ range_with_len a (suc n)
one_longer a zero = let here : a + zero ≡ a = omega arith in ap (λ k. k ∷ []) here
one_longer a (suc n) =
    let next : a + suc n ≡ a + 1 + n = omega arith in
    ap (λ k. a ∷ (range_with_len (a + 1) n ++ k ∷ [])) next ∙ ap (λ ks. a ∷ ks) (one_longer (a + 1) n)

-- a copy is made
made_whole : (first : ℕ) (c : NewCopy) (H : History) → IsWhole first H → IsWhole first (with_made c H)
made_whole first c H w =
    let begun = w.begun in
    let last : H.next ≡ first + (H.next - first) = omega (arith, begun) in
    let longer : suc (H.next - first) ≡ (H.next + 1) - first = omega (arith, begun) in
    record {
      begun = omega (arith, begun);
      each =
          map-append (λ (x : MadeCopy). x.number) H.made (numbered H.next c ∷ [])
          ∙ (ap (λ ns. ns ++ H.next ∷ []) w.each
          ∙ (ap (λ n. range_with_len first (H.next - first) ++ n ∷ []) last
          ∙ (one_longer first (H.next - first) ∙ ap (range_with_len first) longer)));
    }

shared_whole : (first moment : ℕ) (s : Share) (H : History) → IsWhole first H → IsWhole first (with_share moment s H)
shared_whole first moment s H w = one s.is_spooled
  where
    made : IsWhole first (with_made s.copy H)
    made = made_whole first s.copy H w

    one : (b : Bool) → IsWhole first
        (cond b (with_made s.copy H) (with_closed H.next (Discarded NotSpooled) moment (with_made s.copy H)))
    one true = made
    one false = record { begun = made.begun; each = made.each }

all_whole : (first moment : ℕ) (shares : List Share) (H : History) → IsWhole first H →
    IsWhole first (all_shared moment shares H)
all_whole first moment [] H w = w
all_whole first moment (s ∷ ss) H w =
    all_whole first moment ss (with_share moment s H) (shared_whole first moment s H w)

change_whole : (first : ℕ) (c : Change) (L : Ledger) → IsWhole first L.copies → IsWhole first (changed c L).copies
change_whole first (comes e) L w = w
change_whole first (goes endpoint) L w = w
change_whole first (becomes e) L w = w
change_whole first (publishes m shares) L w = all_whole first L.now shares L.copies w
change_whole first (logs log) L w = w
change_whole first (repeats c) L w = made_whole first c L.copies w
change_whole first (closes copy how) L w = record { begun = w.begun; each = w.each }
change_whole first (moves copy new) L w =
    let closed = with_closed copy (Discarded NotSpooled) L.now L.copies in
    let made = made_whole first new closed (record { begun = w.begun; each = w.each }) in
    record { begun = made.begun; each = made.each }
change_whole first (holds copy flow) L w = record { begun = w.begun; each = w.each }
change_whole first (frees copy) L w = record { begun = w.begun; each = w.each }
change_whole first (binds f) L w = w
change_whole first (unbinds flow) L w = w
change_whole first unbinds_all L w = w
change_whole first (starts r) L w = w
change_whole first (goes_on r) L w = w
change_whole first (ends replay) L w = w

changes_whole : (first : ℕ) (changes : List Change) (L : Ledger) → IsWhole first L.copies →
    IsWhole first (all_changed changes L).copies
changes_whole first [] L w = w
changes_whole first (c ∷ cs) L w = changes_whole first cs (changed c L) (change_whole first c L w)

-- each accepted event
pub outcome_whole : (first : ℕ) (L : Ledger) → IsWhole first L.copies →
    (moment : ℕ) (caller : List ℕ) (event : Event) (M : Ledger) (told : List Reply) →
    outcome moment caller event L ≡ accepted M told → IsWhole first M.copies
outcome_whole first L w moment caller event M told e =
    let B = begun moment L in
    let by = left_by L B (step caller event B) M told e in
    subst (λ (N : Ledger). IsWhole first N.copies) by.1 (changes_whole first by.0 B w)

-- no copy was made yet
pub empty_whole : (first : ℕ) → IsWhole first (empty_history first)
empty_whole first = let none :
    0 ≡ first - first = omega arith in record { begun = omega arith; each = ap (range_with_len first) none }
