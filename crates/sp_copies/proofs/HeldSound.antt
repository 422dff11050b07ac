-- A copy that is handed out keeps the history sound, and the used bytes as they were.
use Rattle.std.proofs.Common.{◌≡◌, ◌≤◌, ◌==◌, ℕ, ◌+◌, ◌-◌, ◌^◌, min, Bool, true, false, not, cond, List, [], ◌∷◌, ◌++◌, map, take, drop, length, append-nil, refl, ap, sym, ◌∙◌, arith, count_by, if◌then◌else◌, IsTrue}
use Rattle.std.proofs.lemmas.List.{length-map, take_all, drop_all}
use Rattle.std.proofs.lemmas.List.Elements.{All-push}
use Rattle.std.proofs.lemmas.List.Sums.{sum_by_push}
use Rattle.std.proofs.lemmas.Bool.{and_parts, eqb-true, not-true}
use Rattle.sp_copies.specs.declared.held.HeldCopy.{HeldCopy}
use Rattle.sp_copies.specs.declared.held.CopyAttempts.{CopyAttempts}
use Rattle.sp_copies.specs.History.{History, is_held, is_spooled, is_free, used_bytes, attempted, once_more, with_held}
use Rattle.sp_copies.specs.Sound.{IsSoundHistory}
use Rattle.sp_copies.proofs.Counting.{count-none}

pub used-with_held : (H : History) (copy flow : ℕ) (e : ℕ) → used_bytes (with_held copy flow H) e ≡ used_bytes H e
used-with_held H copy flow e = refl

-- one more attempt is counted at the copy that it is of
pub attempted-copies : (copy : ℕ) (attempts : List CopyAttempts) → map (λ a. a.copy) (attempted copy attempts) ≡ map
    (λ a. a.copy) attempts
attempted-copies copy [] = refl
attempted-copies copy (a ∷ rest) = one (a.copy == copy) (attempted-copies copy rest)
  where
    one : (b : Bool) → map (λ (x : CopyAttempts). x.copy) (attempted copy rest) ≡ map
        (λ (x : CopyAttempts). x.copy) rest → map (λ (x : CopyAttempts). x.copy)
        ((if b then record a { count = min (a.count + 1) (2 ^ 64 - 1) } else a) ∷ attempted copy rest) ≡ map
        (λ (x : CopyAttempts). x.copy) (a ∷ rest)
    one true same = ap (λ ns. a.copy ∷ ns) same
    one false same = ap (λ ns. a.copy ∷ ns) same

-- rows that are lent and all counted come back counted
pub lent-attempts : (copy : ℕ) (rows written : List CopyAttempts) → written ≡ attempted copy rows → take (length rows)
    (written ++ drop (length written) rows) ≡ attempted copy rows
lent-attempts copy rows written e =
    let same : length (attempted copy rows) ≡ length rows = length-map rows
    (λ (a : CopyAttempts). if a.copy == copy then once_more a else a) in
    rw (e, drop_all (length (attempted copy rows)) rows (omega (arith, same)), append-nil (attempted copy rows))
    (take_all (length rows) (attempted copy rows) (omega (arith, same)))

held-once : (held : List HeldCopy) (x : HeldCopy) → is_held held x.copy ≡ false → (k : ℕ) → count_by
    (λ (h : HeldCopy). h.copy == k) held ≤ 1 → count_by (λ (h : HeldCopy). h.copy == k) (held ++ x ∷ []) ≤ 1
held-once held x free_now k once = rw (sum_by_push {X = HeldCopy} (λ h. cond (h.copy == k) 1 0) held x)
    (one (x.copy == k) refl)
  where
    one : (b : Bool) → (x.copy == k) ≡ b → count_by (λ (h : HeldCopy). h.copy == k) held + cond b 1 0 ≤ 1
    one true h = omega (
      arith,
      count-none {X = HeldCopy} (λ h. h.copy == k) held
          (ap (is_held held) (sym (eqb-true x.copy k h)) ∙ free_now),
    )
    one false h = omega arith

pub held_sound : (H : History) (copy flow : ℕ) → IsSoundHistory H → is_free H copy ≡ true → IsSoundHistory
    (with_held copy flow H)
held_sound H copy flow s free_now =
    let x : HeldCopy = record { copy = copy; flow = flow } in
    let both = and_parts (is_spooled H copy) (not (is_held H.held copy)) free_now in
    record {
      next_above = s.next_above;
      rise = s.rise;
      above = s.above;
      below = s.below;
      closed_made = s.closed_made;
      closed_once = s.closed_once;
      held_spooled = All-push (λ (h : HeldCopy). IsTrue (is_spooled H h.copy)) H.held x s.held_spooled both.0;
      held_once = λ k. held-once H.held x (not-true _ both.1) k (s.held_once k);
      counted = attempted-copies copy H.attempts ∙ s.counted;
      used = s.used;
    }
