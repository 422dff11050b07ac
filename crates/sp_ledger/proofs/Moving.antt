-- A copy that is moved closes, and its copy is made elsewhere: that keeps what holds of a ledger.
use Rattle.sp_copies.proofs.ClosedSound.{closed_sound, used-with_closed}
use Rattle.sp_copies.proofs.Counting.{count-weaker}
use Rattle.sp_copies.proofs.MadeSound.{made_sound, used-with_made}
use Rattle.sp_copies.proofs.Marks.{eqb-turned, still-open}
use Rattle.sp_copies.specs.Counts.{is_moved}
use Rattle.sp_copies.specs.History.{History, closing_of, is_closed, is_made, numbered, used_bytes, with_closed}
use Rattle.sp_copies.specs.History.{with_made}
use Rattle.sp_copies.specs.Sound.{IsSoundHistory}
use Rattle.sp_copies.specs.declared.closed.ClosedCopy.{ClosedCopy}
use Rattle.sp_copies.specs.declared.closed.Closing.{Closing}
use Rattle.sp_copies.specs.declared.closed.Closing.TheVariants as closings
use Rattle.sp_copies.specs.declared.held.CopyAttempts.{CopyAttempts}
use Rattle.sp_copies.specs.declared.held.HeldCopy.{HeldCopy}
use Rattle.sp_copies.specs.declared.made.MadeCopy.{MadeCopy}
use Rattle.sp_copies.specs.declared.made.NewCopy.{NewCopy}
use Rattle.sp_copies.specs.declared.made.Origin.{Origin}
use Rattle.sp_ledger.proofs.Closings.{still_closed}
use Rattle.sp_ledger.proofs.CopiesKept.{AreKept, below_next, kept_of}
use Rattle.sp_ledger.proofs.Listed.{All-both, and_both, and_left, and_right, any_grows, any_last, not_true, or_both}
use Rattle.sp_ledger.proofs.Listed.{or_right, pairs_head, pairs_tail}
use Rattle.sp_ledger.proofs.OneKept.{bound-made, made_moved-closed, moved_made-made, there-closed, there-made}
use Rattle.sp_ledger.proofs.Shared.{next_open}
use Rattle.sp_ledger.specs.Allowed.{MayMove}
use Rattle.sp_ledger.specs.Ledger.{Ledger}
use Rattle.sp_ledger.specs.Limits.{greatest_quota}
use Rattle.sp_ledger.specs.One.{has_its_closing, has_its_copy, is_bound_for, is_by_move, is_move_of, is_move_to}
use Rattle.sp_ledger.specs.One.{is_of_message}
use Rattle.sp_ledger.specs.Sound.{IsSound, has_message, movable_count}
use Rattle.std.proofs.Common.{ap, arith, refl, subst, sym, ◌∙◌}
use Rattle.std.proofs.lemmas.Bool.{eq-eqb, eqb-true}
use Rattle.std.proofs.lemmas.List.Elements.{All-filter, All-head, All-push, All-tail, All-weaker}
use Rattle.std.proofs.lemmas.List.Sums.{count_by-le-length, sum_by-append, sum_by-cons}
use Rattle.std.specs.Prelude.{All, AllPairs, Bool, IsTrue, List, None, Some, [], cond, count_by, false, find, is_none}
use Rattle.std.specs.Prelude.{length, not, option_map, sum_by, true, ℕ, ◌&&◌, ◌++◌, ◌+◌, ◌<◌, ◌==◌, ◌||◌, ◌∷◌, ◌≡◌}
use Rattle.std.specs.Prelude.{◌≤◌}

-- where a copy isn't closed, it has no closing
pub no_closing : (closed : List ClosedCopy) (copy : ℕ) → is_closed closed copy ≡ false → closing_of closed copy ≡ None
no_closing closed copy h = ap (option_map (λ (x : ClosedCopy). x.how)) (none_there closed h)
  where
    none_there : (closed : List ClosedCopy) → is_closed closed copy ≡ false →
        find (λ (x : ClosedCopy). x.copy == copy) closed ≡ None
    none_there [] h = refl
    none_there (x ∷ xs) h = one (none_there xs) (x.copy == copy) h
      where
        one : (is_closed xs copy ≡ false → find (λ (y : ClosedCopy). y.copy == copy) xs ≡ None) → (b : Bool) →
            (b || is_closed xs copy) ≡ false → cond b (Some x) (find (λ (y : ClosedCopy). y.copy == copy) xs) ≡ None
        one later true k = absurd (cc)
        one later false k = later k

-- the closing of another copy changes nothing
other_closing : (closed : List ClosedCopy) (x : ClosedCopy) (copy : ℕ) → (x.copy == copy) ≡ false →
    closing_of (closed ++ x ∷ []) copy ≡ closing_of closed copy
other_closing [] x copy h = ap (λ b. option_map (λ (y : ClosedCopy). y.how) (cond b (Some x) None)) h
other_closing (y ∷ ys) x copy h = one (other_closing ys x copy h) (y.copy == copy)
  where
    one : closing_of (ys ++ x ∷ []) copy ≡ closing_of ys copy → (b : Bool) →
        option_map (λ (z : ClosedCopy). z.how)
        (cond b (Some y) (find (λ (z : ClosedCopy). z.copy == copy) (ys ++ x ∷ []))) ≡ option_map
        (λ (z : ClosedCopy). z.how) (cond b (Some y) (find (λ (z : ClosedCopy). z.copy == copy) ys))
    one later true = refl
    one later false = later

-- rising numbers leave at least as many below the next one
pub fewer_than_next : (least next : ℕ) (cs : List MadeCopy) → least ≤ next →
    AllPairs (λ c d. c.number < d.number) cs → All (λ c. least ≤ c.number) cs → All (λ c. c.number < next) cs →
    least + length cs ≤ next
fewer_than_next least next [] le rise above below = omega arith
fewer_than_next least next (c ∷ cs) le rise above below =
    let here = All-head (λ (d : MadeCopy). least ≤ d.number) c cs above in
    let lt = All-head (λ (d : MadeCopy). d.number < next) c cs below in
    let later = fewer_than_next (c.number + 1) next cs (omega (arith, lt))
    (pairs_tail (λ (a b : MadeCopy). a.number < b.number) c cs rise)
    (All-weaker (λ (d : MadeCopy). c.number < d.number) (λ (d : MadeCopy). c.number + 1 ≤ d.number)
    (λ d more. omega (arith, more)) cs (pairs_head (λ (a b : MadeCopy). a.number < b.number) c cs rise))
    (All-tail (λ (d : MadeCopy). d.number < next) c cs below) in
    omega (arith, here, later)

-- so where the next number is low, one is left for each copy that may be moved
pub enough_left : (H : History) → IsSoundHistory H → 1 + movable_count H ≤ H.next
enough_left H s =
    let most = fewer_than_next 1 H.next H.made s.next_above s.rise
    (All-weaker (λ (c : MadeCopy). 0 < c.number) (λ (c : MadeCopy). 1 ≤ c.number) (λ c lt. omega (arith, lt))
    H.made s.above) s.below in
    let less = count_by-le-length {X = MadeCopy}
    (λ c. not (is_by_move c.origin) && not (is_closed H.closed c.number)) H.made in
    omega (arith, most, less)

-- fewer may be moved where one is closed
pub fewer_movable : (H : History) (copy : ℕ) (how : Closing) (moment : ℕ) →
    movable_count (with_closed copy how moment H) ≤ movable_count H
fewer_movable H copy how moment =
    let x : ClosedCopy = record { copy = copy; how = how; moment = moment } in
    count-weaker (λ c. not (is_by_move c.origin) && not (is_closed (H.closed ++ x ∷ []) c.number))
    (λ c. not (is_by_move c.origin) && not (is_closed H.closed c.number))
    (λ c is. and_both (not (is_by_move c.origin)) _ (and_left (not (is_by_move c.origin)) _ is)
    (still-open H.closed x c.number (and_right (not (is_by_move c.origin)) _ is)).0) H.made

abbrev one_of : Bool → ℕ
one_of b = cond b 1 0

-- and one fewer where it was one of them
one_fewer : (p q : MadeCopy → Bool) (copy : ℕ) → ((c : MadeCopy) → q c ≡ true → p c ≡ true) →
    ((c : MadeCopy) → (c.number == copy) ≡ true → q c ≡ false) → (cs : List MadeCopy) →
    All (λ c. (c.number == copy) ≡ true → p c ≡ true) cs → is_made cs copy ≡ true → count_by q cs + 1 ≤ count_by p cs
one_fewer p q copy w lost [] all made = absurd (cc)
one_fewer p q copy w lost (c ∷ cs) all made =
    one (c.number == copy) refl
    (one_fewer p q copy w lost cs (All-tail (λ (d : MadeCopy). (d.number == copy) ≡ true → p d ≡ true) c cs all)) made
  where
    counted : (r : MadeCopy → Bool) → count_by r (c ∷ cs) ≡ one_of (r c) + count_by r cs
    counted r = sum_by-cons {X = MadeCopy} (λ d. one_of (r d)) c cs

    at_most : (a b : Bool) → (b ≡ true → a ≡ true) → one_of b ≤ one_of a
    at_most true true h = omega arith
    at_most true false h = omega arith
    at_most false true h = absurd (let no_way = h refl in cc)
    at_most false false h = omega arith

    one : (b : Bool) → (c.number == copy) ≡ b → (is_made cs copy ≡ true → count_by q cs + 1 ≤ count_by p cs) →
        (b || is_made cs copy) ≡ true → count_by q (c ∷ cs) + 1 ≤ count_by p (c ∷ cs)
    one true is later k =
        let more : one_of (p c) ≡ 1 =
        ap one_of (All-head (λ (d : MadeCopy). (d.number == copy) ≡ true → p d ≡ true) c cs all is) in
        let less : one_of (q c) ≡ 0 = ap one_of (lost c is) in
        let rest = count-weaker q p w cs in
        let a = counted p in
        let b = counted q in
        omega (arith, more, less, rest, a, b)
    one false is later k =
        let rest = later k in
        let here = at_most (p c) (q c) (w c) in
        let a = counted p in
        let b = counted q in
        omega (arith, rest, here, a, b)

module _ (L : Ledger) (copy : ℕ) (new : NewCopy) (s : IsSound L) (may : MayMove L copy new) where
  abbrev moving : ClosedCopy
  moving = record { copy = copy; how = closings.Moved L.copies.next; moment = L.now }

  abbrev left : History
  left = with_closed copy (closings.Moved L.copies.next) L.now L.copies

  abbrev made_new : MadeCopy
  made_new = numbered L.copies.next new

  not_closed : is_closed L.copies.closed copy ≡ false
  not_closed = not_true (is_closed L.copies.closed copy) (and_right (is_made L.copies.made copy) _ may.spooled)

  closing_is : (closed : List ClosedCopy) → is_closed closed copy ≡ false →
      closing_of (closed ++ moving ∷ []) copy ≡ Some (closings.Moved L.copies.next)
  closing_is [] h = ap (λ b. option_map (λ (y : ClosedCopy). y.how) (cond b (Some moving) None)) (eq-eqb copy copy refl)
  closing_is (y ∷ ys) h = one (closing_is ys) (y.copy == copy) h
    where
      one : (is_closed ys copy ≡ false →
          closing_of (ys ++ moving ∷ []) copy ≡ Some (closings.Moved L.copies.next)) → (b : Bool) →
          (b || is_closed ys copy) ≡ false →
          option_map (λ (z : ClosedCopy). z.how)
          (cond b (Some y) (find (λ (z : ClosedCopy). z.copy == copy) (ys ++ moving ∷ []))) ≡ Some
          (closings.Moved L.copies.next)
      one later true k = absurd (cc)
      one later false k = later k

  pub moved_kept : AreKept greatest_quota L.flows L.endpoints L.messages L.next.endpoint L.next.unit
      (with_made new left)
  moved_kept =
      let k = kept_of L s in
      let fits = may.fits in
      let less = used-with_closed L.copies copy (closings.Moved L.copies.next) L.now in
      let here : used_bytes left new.endpoint + new.size ≤ greatest_quota = omega (arith, fits, less new.endpoint) in
      let closed = closed_sound L.copies copy (closings.Moved L.copies.next) L.now k.history may.spooled in
      record {
        history = made_sound left new closed (omega (arith, here));
        quota = used-with_made left new greatest_quota (λ e. let most = k.quota e in omega (arith, most, less e)) here;
        bound = bound-made L.flows L.copies.made made_new left.held
            (All-filter (λ (h : HeldCopy). not (h.copy == copy))
            (λ (h : HeldCopy). IsTrue (is_bound_for L.flows L.copies.made h)) L.copies.held k.bound);
        there = there-made L.endpoints left.closed L.copies.made made_new may.there
            (there-closed L.endpoints L.copies.closed moving L.copies.made k.there);
        moved_made = All-push
            (λ (y : ClosedCopy). IsTrue (has_its_copy (L.copies.made ++ made_new ∷ []) y.copy y.how))
            L.copies.closed moving (moved_made-made L.copies.made made_new L.copies.closed k.moved_made) its_copy;
        made_moved = All-push (λ (c : MadeCopy). IsTrue (has_its_closing left.closed c.number c.origin))
            L.copies.made made_new (made_moved-closed L.copies.closed moving L.copies.made k.made_moved)
            (subst (λ o. has_its_closing left.closed L.copies.next o ≡ true) (sym may.origin)
            (ap (is_move_to L.copies.next) (closing_is L.copies.closed not_closed) ∙ eq-eqb L.copies.next
            L.copies.next refl));
        moved_once = All-push
            (λ (c : MadeCopy). IsTrue (not (is_by_move c.origin && is_moved (closing_of left.closed c.number))))
            L.copies.made made_new old_once
            (subst (λ o. not (is_by_move new.origin && is_moved o) ≡ true)
            (sym (no_closing left.closed L.copies.next (next_open left closed))) (neither (is_by_move new.origin)));
        numbered = All-push (λ (c : MadeCopy). c.endpoint < L.next.endpoint) L.copies.made made_new k.numbered
            (below_next L new.endpoint s may.there);
        open_messages =
            All-push (λ (c : MadeCopy). IsTrue (is_closed left.closed c.number || has_message L.messages c))
            L.copies.made made_new
            (All-weaker (λ (c : MadeCopy). IsTrue (is_closed L.copies.closed c.number || has_message L.messages c))
            (λ (c : MadeCopy). IsTrue (is_closed left.closed c.number || has_message L.messages c))
            (λ c is. or_both (is_closed L.copies.closed c.number) (has_message L.messages c)
            (is_closed left.closed c.number) (has_message L.messages c)
            (still_closed L.copies.closed (moving ∷ []) c.number) (λ k. k) is) L.copies.made k.open_messages)
            (or_right (is_closed left.closed L.copies.next) (has_message L.messages made_new) may.message);
        attempts = All-push (λ (a : CopyAttempts). a.count < L.next.unit) L.copies.attempts
            (record { copy = L.copies.next; count = 0 }) k.attempts s.next.unit;
      }
    where
      neither : (b : Bool) → not (b && false) ≡ true
      neither true = refl
      neither false = refl

      its_copy : has_its_copy (L.copies.made ++ made_new ∷ []) copy (closings.Moved L.copies.next) ≡ true
      its_copy =
          any_last {X = MadeCopy}
          (λ c. (c.number == L.copies.next) && is_move_of copy c.origin && is_none c.deadline && is_of_message
          (L.copies.made ++ made_new ∷ []) copy c.message) L.copies.made made_new
          (and_both ((L.copies.next == L.copies.next) && is_move_of copy new.origin && is_none new.deadline) _
          (and_both ((L.copies.next == L.copies.next) && is_move_of copy new.origin) _
          (and_both (L.copies.next == L.copies.next) _ (eq-eqb L.copies.next L.copies.next refl)
          (subst (λ o. is_move_of copy o ≡ true) (sym may.origin) (eq-eqb copy copy refl)))
          (ap is_none may.deadline))
          (any_grows {X = MadeCopy} (λ c. (c.number == copy) && (c.message == new.message)) L.copies.made
          (made_new ∷ []) may.same))

      old_once : All (λ c. IsTrue (not (is_by_move c.origin && is_moved (closing_of left.closed c.number))))
          L.copies.made
      old_once =
          All-weaker (λ (c : MadeCopy). ((c.number == copy) ≡ true → is_by_move c.origin ≡ false) × IsTrue
          (not (is_by_move c.origin && is_moved (closing_of L.copies.closed c.number))))
          (λ (c : MadeCopy). IsTrue (not (is_by_move c.origin && is_moved (closing_of left.closed c.number))))
          (λ c both. one c both.0 both.1 (c.number == copy) refl) L.copies.made
          (All-both (λ (c : MadeCopy). (c.number == copy) ≡ true → is_by_move c.origin ≡ false)
          (λ (c : MadeCopy). IsTrue
          (not (is_by_move c.origin && is_moved (closing_of L.copies.closed c.number)))) L.copies.made may.first
          s.one.moved_once)
        where
          one : (c : MadeCopy) → ((c.number == copy) ≡ true → is_by_move c.origin ≡ false) →
              IsTrue (not (is_by_move c.origin && is_moved (closing_of L.copies.closed c.number))) → (b : Bool) →
              (c.number == copy) ≡ b → IsTrue (not (is_by_move c.origin && is_moved (closing_of left.closed c.number)))
          one c first once true is = ap (λ b. not (b && is_moved (closing_of left.closed c.number))) (first is)
          one c first once false is =
              subst (λ o. not (is_by_move c.origin && is_moved o) ≡ true)
              (sym (other_closing L.copies.closed moving c.number (eqb-turned copy c.number ∙ is))) once

  -- the number drawn is made up for by the copy that may be moved no more
  pub move_counts : (with_made new left).next + movable_count (with_made new left) ≤ L.copies.next + movable_count
      L.copies
  move_counts =
      let p : MadeCopy → Bool = λ c. not (is_by_move c.origin) && not (is_closed L.copies.closed c.number) in
      let q : MadeCopy → Bool = λ c. not (is_by_move c.origin) && not (is_closed left.closed c.number) in
      let fewer = one_fewer p q copy
      (λ c is. and_both (not (is_by_move c.origin)) _ (and_left (not (is_by_move c.origin)) _ is)
      (still-open L.copies.closed moving c.number (and_right (not (is_by_move c.origin)) _ is)).0)
      (λ c is. gone (not (is_by_move c.origin)) (is_closed left.closed c.number)
      (any_last {X = ClosedCopy} (λ x. x.copy == c.number) L.copies.closed moving (eqb-turned copy c.number ∙ is)))
      L.copies.made
      (All-weaker (λ (c : MadeCopy). (c.number == copy) ≡ true → is_by_move c.origin ≡ false)
      (λ (c : MadeCopy). (c.number == copy) ≡ true → p c ≡ true)
      (λ c first is. and_both (not (is_by_move c.origin)) _ (ap not (first is))
      (ap not (subst (λ n. is_closed L.copies.closed n ≡ false) (sym (eqb-true _ _ is)) not_closed)))
      L.copies.made may.first)
      (and_left (is_made L.copies.made copy) _ may.spooled) in
      let all = sum_by-append {X = MadeCopy} (λ c. one_of (q c)) L.copies.made (made_new ∷ []) in
      let last : one_of (q made_new) ≡ 0 =
      ap (λ (o : Origin). one_of (not (is_by_move o) && not (is_closed left.closed L.copies.next))) may.origin in
      let alone = sum_by-cons {X = MadeCopy} (λ c. one_of (q c)) made_new [] in
      let none : sum_by (λ (c : MadeCopy). one_of (q c)) [] ≡ 0 = refl in
      omega (arith, fewer, all, last, alone, none)
    where
      gone : (a closed : Bool) → closed ≡ true → (a && not closed) ≡ false
      gone true closed is = ap not is
      gone false closed is = refl
