-- A closing keeps the history sound, and no endpoint uses more bytes.
use Rattle.std.proofs.Common.{◌≡◌, ◌≤◌, ◌==◌, ℕ, ◌+◌, Bool, true, false, not, ◌&&◌, cond, List, [], ◌∷◌, ◌++◌, refl, ap, sym, ◌∙◌, le_trans, arith, length, length-append, IsTrue}
use Rattle.std.proofs.lemmas.List.Elements.{All-push, filter-append}
use Rattle.std.proofs.lemmas.Bool.{and_parts, and_from, eqb-true, not-true, or_from}
use Rattle.sp_copies.specs.declared.held.HeldCopy.{HeldCopy}
use Rattle.sp_copies.specs.declared.closed.ClosedCopy.{ClosedCopy}
use Rattle.sp_copies.specs.declared.closed.Closing.{Closing}
use Rattle.sp_copies.specs.History.{History, is_made, is_closed, is_spooled, is_open_in, closings_of, used_bytes, with_closed}
use Rattle.sp_copies.specs.Sound.{IsSoundHistory}
use Rattle.sp_copies.proofs.Counting.{sum-weaker, filter-none, count-filter, All-kept}
use Rattle.sp_copies.proofs.Marks.{eqb-turned, is_closed-push, still-open}

-- no endpoint's spooled copies use more bytes after a closing
pub used-with_closed : (H : History) (copy : ℕ) (how : Closing) (moment : ℕ) (e : ℕ) → used_bytes (with_closed copy how moment H) e ≤ used_bytes H e
used-with_closed H copy how moment e =
    let x : ClosedCopy = record { copy = copy; how = how; moment = moment } in
    sum-weaker (λ c. c.size) (is_open_in (H.closed ++ x ∷ []) e) (is_open_in H.closed e)
    (λ c h. let p = and_parts (c.endpoint == e) (not (is_closed (H.closed ++ x ∷ []) c.number)) h in and_from (c.endpoint == e) (not (is_closed H.closed c.number)) p.0 (still-open H.closed x c.number p.1).0)
    H.made

-- a copy that was open has one closing afterwards, and the others have theirs
closed-once : (closed : List ClosedCopy) (x : ClosedCopy) → is_closed closed x.copy ≡ false → (k : ℕ) → length (closings_of closed k) ≤ 1 → length (closings_of (closed ++ x ∷ []) k) ≤ 1
closed-once closed x open_now k once = rw (filter-append {X = ClosedCopy} (λ y. y.copy == k) closed (x ∷ []), length-append) (one (x.copy == k) refl)
  where
    one : (b : Bool) → (x.copy == k) ≡ b → length (closings_of closed k) + length (cond b (x ∷ []) []) ≤ 1
    one true h =
        let none = ap length (filter-none {X = ClosedCopy} (λ y. y.copy == k) closed (ap (is_closed closed) (sym (eqb-true x.copy k h)) ∙ open_now)) in
        omega (arith, none)
    one false h = omega arith

-- another copy that was spooled still is
still-spooled : (H : History) (x : ClosedCopy) (copy : ℕ) → (x.copy == copy) ≡ false → is_spooled H copy ≡ true → (is_made H.made copy && not (is_closed (H.closed ++ x ∷ []) copy)) ≡ true
still-spooled H x copy ne h =
    let p = and_parts (is_made H.made copy) (not (is_closed H.closed copy)) h in
    and_from _ _ p.0 (ap not (is_closed-push H.closed x copy ∙ or_from _ _ (not-true _ p.1) ne))

pub closed_sound : (H : History) (copy : ℕ) (how : Closing) (moment : ℕ) → IsSoundHistory H → is_spooled H copy ≡ true → IsSoundHistory (with_closed copy how moment H)
closed_sound H copy how moment s open_now =
    let x : ClosedCopy = record { copy = copy; how = how; moment = moment } in
    let both = and_parts (is_made H.made copy) (not (is_closed H.closed copy)) open_now in
    record {
      next_above = s.next_above;
      rise = s.rise;
      above = s.above;
      below = s.below;
      closed_made = All-push (λ (y : ClosedCopy). IsTrue (is_made H.made y.copy)) H.closed x s.closed_made both.0;
      closed_once = λ k. closed-once H.closed x (not-true _ both.1) k (s.closed_once k);
      held_spooled = All-kept {X = HeldCopy} (λ h. not (h.copy == copy)) (λ h. IsTrue (is_spooled H h.copy)) (λ h. IsTrue (is_made H.made h.copy && not (is_closed (H.closed ++ x ∷ []) h.copy)))
          (λ h other spooled. still-spooled H x h.copy (eqb-turned copy h.copy ∙ not-true _ other) spooled) H.held s.held_spooled;
      held_once = λ k. le_trans (count-filter {X = HeldCopy} (λ h. h.copy == k) (λ h. not (h.copy == copy)) H.held) (s.held_once k);
      counted = s.counted;
      used = λ e. le_trans (used-with_closed H copy how moment e) (s.used e);
    }
