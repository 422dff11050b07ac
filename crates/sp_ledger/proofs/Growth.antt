-- Each change leaves what was made and closed, and what was told of copies stays.
use Rattle.sp_copies.specs.History.{closing_of, is_closed, is_made, with_closed, with_made}
use Rattle.sp_copies.specs.declared.closed.Cause.TheVariants.{NotSpooled}
use Rattle.sp_copies.specs.declared.closed.Closing.TheVariants as closings
use Rattle.sp_copies.specs.declared.closed.Fate.{Fate}
use Rattle.sp_copies.specs.declared.closed.Fate.TheVariants as fates
use Rattle.sp_copies.specs.declared.made.MadeCopy.{MadeCopy}
use Rattle.sp_event.specs.declared.answer.CopyFate.{CopyFate}
use Rattle.sp_event.specs.declared.answer.Reply.{Reply}
use Rattle.sp_event.specs.declared.request.Event.{Event}
use Rattle.sp_ledger.proofs.Closings.{still_closed, still_closing}
use Rattle.sp_ledger.proofs.Decided.{left_by}
use Rattle.sp_ledger.proofs.Listed.{any_grows}
use Rattle.sp_ledger.specs.Changes.{Change, Share, all_changed, all_shared, binds, becomes, changed, closes, comes}
use Rattle.sp_ledger.specs.Changes.{ends, frees, goes, goes_on, holds, logs, moves, publishes, repeats, starts}
use Rattle.sp_ledger.specs.Changes.{unbinds, unbinds_all, with_share}
use Rattle.sp_ledger.specs.Events.{outcome, step}
use Rattle.sp_ledger.specs.Ledger.{Ledger}
use Rattle.sp_ledger.specs.Step.{accepted, begun}
use Rattle.sp_ledger.specs.Told.{Extends, FateHolds, IsTold, told_fates}
use Rattle.std.proofs.Common.{ap, append-nil, append_assoc, refl, subst, sym, ◌∙◌}
use Rattle.std.proofs.lemmas.List.Elements.{All-weaker}
use Rattle.std.specs.Prelude.{Bool, List, Some, [], cond, false, true, ℕ, ◌++◌, ◌==◌, ◌∷◌, ◌≡◌}

pub Extends-refl : (L : Ledger) → Extends L L
Extends-refl L = record { made = ([], sym (append-nil L.copies.made)); closed = ([], sym (append-nil L.copies.closed)) }

pub Extends-trans : (L M N : Ledger) → Extends L M → Extends M N → Extends L N
Extends-trans L M N p q = record {
  made = (
    p.made.0 ++ q.made.0,
    q.made.1 ∙ (ap (λ cs. cs ++ q.made.0) p.made.1 ∙ append_assoc L.copies.made p.made.0 q.made.0),
  );
  closed = (
    p.closed.0 ++ q.closed.0,
    q.closed.1 ∙ (ap (λ xs. xs ++ q.closed.0) p.closed.1 ∙ append_assoc L.copies.closed p.closed.0 q.closed.0),
  );
}

-- copies that are made, and closed at once
share_extends : (moment : ℕ) (s : Share) (L : Ledger) → Extends L (record L { copies = with_share moment s L.copies })
share_extends moment s L = one s.is_spooled
  where
    one : (b : Bool) → Extends L
        (record L {
          copies = cond b (with_made s.copy L.copies)
              (with_closed L.copies.next (closings.Discarded NotSpooled) moment (with_made s.copy L.copies));
        })
    one true = record { made = (_, refl); closed = ([], sym (append-nil L.copies.closed)) }
    one false = record { made = (_, refl); closed = (_, refl) }

pub shares_extend : (moment : ℕ) (shares : List Share) (L : Ledger) →
    Extends L (record L { copies = all_shared moment shares L.copies })
shares_extend moment [] L = Extends-refl L
shares_extend moment (s ∷ ss) L =
    Extends-trans L (record L { copies = with_share moment s L.copies })
    (record L { copies = all_shared moment ss (with_share moment s L.copies) })
    (share_extends moment s L) (shares_extend moment ss (record L { copies = with_share moment s L.copies }))

same_extends : (L M : Ledger) → M.copies.made ≡ L.copies.made → M.copies.closed ≡ L.copies.closed → Extends L M
same_extends L M made closed =
    record {
      made = ([], made ∙ sym (append-nil L.copies.made));
      closed = ([], closed ∙ sym (append-nil L.copies.closed));
    }

change_extends : (c : Change) (L : Ledger) → Extends L (changed c L)
change_extends (comes e) L = same_extends L (changed (comes e) L) refl refl
change_extends (goes endpoint) L = same_extends L (changed (goes endpoint) L) refl refl
change_extends (becomes e) L = same_extends L (changed (becomes e) L) refl refl
change_extends (publishes m shares) L = let more = shares_extend L.now shares L in
    record { made = more.made; closed = more.closed }
change_extends (logs log) L = same_extends L (changed (logs log) L) refl refl
change_extends (repeats c) L = record { made = (_, refl); closed = ([], sym (append-nil L.copies.closed)) }
change_extends (closes copy how) L = record { made = ([], sym (append-nil L.copies.made)); closed = (_, refl) }
change_extends (moves copy new) L = record { made = (_, refl); closed = (_, refl) }
change_extends (holds copy flow) L = same_extends L (changed (holds copy flow) L) refl refl
change_extends (frees copy) L = same_extends L (changed (frees copy) L) refl refl
change_extends (binds f) L = same_extends L (changed (binds f) L) refl refl
change_extends (unbinds flow) L = same_extends L (changed (unbinds flow) L) refl refl
change_extends unbinds_all L = same_extends L (changed unbinds_all L) refl refl
change_extends (starts r) L = same_extends L (changed (starts r) L) refl refl
change_extends (goes_on r) L = same_extends L (changed (goes_on r) L) refl refl
change_extends (ends replay) L = same_extends L (changed (ends replay) L) refl refl

pub changes_extend : (changes : List Change) (L : Ledger) → Extends L (all_changed changes L)
changes_extend [] L = Extends-refl L
changes_extend (c ∷ cs) L =
    Extends-trans L (changed c L) (all_changed cs (changed c L)) (change_extends c L) (changes_extend cs (changed c L))

-- each accepted event extends the ledger
pub outcome_extends : (L : Ledger) (moment : ℕ) (caller : List ℕ) (event : Event) (M : Ledger) (told : List Reply) →
    outcome moment caller event L ≡ accepted M told → Extends L M
outcome_extends L moment caller event M told e =
    let B = begun moment L in
    let by = left_by L B (step caller event B) M told e in
    subst (Extends L) by.1 (Extends-trans L B (all_changed by.0 B) (same_extends L B refl refl) (changes_extend by.0 B))

-- a copy that was made stays made
pub still_made : (L M : Ledger) → Extends L M → (copy : ℕ) → is_made L.copies.made copy ≡ true →
    is_made M.copies.made copy ≡ true
still_made L M x copy h =
    subst (λ cs. is_made cs copy ≡ true) (sym x.made.1)
    (any_grows {X = MadeCopy} (λ c. c.number == copy) L.copies.made x.made.0 h)

-- what was told of a copy stays so
pub fate_stays : (L M : Ledger) → Extends L M → (copy : ℕ) (fate : Fate) → FateHolds L.copies copy fate →
    FateHolds M.copies copy fate
fate_stays L M x copy fates.Never h = tt
fate_stays L M x copy fates.Spooled h = still_made L M x copy h
fate_stays L M x copy fates.Accepted h =
    subst (λ xs. closing_of xs copy ≡ Some closings.Accepted) (sym x.closed.1)
    (still_closing L.copies.closed x.closed.0 copy closings.Accepted h)
fate_stays L M x copy (fates.Moved to) h =
    subst (λ xs. closing_of xs copy ≡ Some (closings.Moved to)) (sym x.closed.1)
    (still_closing L.copies.closed x.closed.0 copy (closings.Moved to) h)
fate_stays L M x copy (fates.Discarded cause) h =
    subst (λ xs. closing_of xs copy ≡ Some (closings.Discarded cause)) (sym x.closed.1)
    (still_closing L.copies.closed x.closed.0 copy (closings.Discarded cause) h)
fate_stays L M x copy fates.Earlier h =
    subst (λ xs. is_closed xs copy ≡ true) (sym x.closed.1) (still_closed L.copies.closed x.closed.0 copy h)

-- what a reply told holds in each later ledger too
pub still_told : (L M : Ledger) → Extends L M → (r : Reply) → IsTold L.copies r → IsTold M.copies r
still_told L M x r told =
    All-weaker (λ (t : CopyFate). FateHolds L.copies t.copy t.fate)
    (λ (t : CopyFate). FateHolds M.copies t.copy t.fate) (λ t k. fate_stays L M x t.copy t.fate k) (told_fates r) told
