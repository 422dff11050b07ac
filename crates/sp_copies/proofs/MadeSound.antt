-- A new copy keeps the history sound.
use Rattle.std.proofs.Common.{◌≡◌, ◌≤◌, ◌<◌, ◌==◌, ℕ, ◌+◌, ◌^◌, Bool, true, false, not, ◌&&◌, ◌||◌, cond, List, [], ◌∷◌, ◌++◌, refl, ap, sym, ◌∙◌, subst, arith, filter, sum_by, IsTrue}
use Rattle.std.proofs.lemmas.List.{map-append}
use Rattle.std.proofs.lemmas.List.Elements.{All-push, All-weaker, filter-append}
use Rattle.std.proofs.lemmas.List.Sums.{sum_by-append}
use Rattle.std.proofs.lemmas.List.Quantifiers.{all_pairs_push}
use Rattle.std.proofs.lemmas.List.Folds.{list_any-append}
use Rattle.std.proofs.lemmas.Bool.{eqb-true, and_parts, and_from}
use Rattle.sp_copies.specs.declared.made.NewCopy.{NewCopy}
use Rattle.sp_copies.specs.declared.made.MadeCopy.{MadeCopy}
use Rattle.sp_copies.specs.declared.held.HeldCopy.{HeldCopy}
use Rattle.sp_copies.specs.declared.held.CopyAttempts.{CopyAttempts}
use Rattle.sp_copies.specs.declared.closed.ClosedCopy.{ClosedCopy}
use Rattle.sp_copies.specs.History.{History, is_made, is_closed, is_spooled, is_open_in, used_bytes, numbered, with_made}
use Rattle.sp_copies.specs.Sound.{IsSoundHistory}

-- one more copy in an endpoint's used bytes
pub used-push : (made : List MadeCopy) (closed : List ClosedCopy) (e : ℕ) (c : MadeCopy) → sum_by (λ c. c.size) (filter (is_open_in closed e) (made ++ c ∷ [])) ≡ sum_by (λ c. c.size) (filter (is_open_in closed e) made) + cond (is_open_in closed e c) c.size 0
used-push made closed e c = rw (filter-append {X = MadeCopy} (is_open_in closed e) made (c ∷ []), sum_by-append {X = MadeCopy} (λ c. c.size) (filter (is_open_in closed e) made) (filter (is_open_in closed e) (c ∷ []))) (tail (is_open_in closed e c))
  where
    tail : (b : Bool) → sum_by (λ (c : MadeCopy). c.size) (filter (is_open_in closed e) made) + sum_by (λ (c : MadeCopy). c.size) (cond b (c ∷ []) []) ≡ sum_by (λ (c : MadeCopy). c.size) (filter (is_open_in closed e) made) + cond b c.size 0
    tail true = omega arith
    tail false = refl

-- a bound on used bytes stands, wherever the copy goes
within : (most : ℕ) (used : ℕ → ℕ) (e at size : ℕ) (open_now : Bool) → ((x : ℕ) → used x ≤ most) → used at + size ≤ most → used e + cond ((at == e) && open_now) size 0 ≤ most
within most used e at size open_now all fits = one (at == e) refl
  where
    one : (b : Bool) → (at == e) ≡ b → used e + cond (b && open_now) size 0 ≤ most
    one false h = omega (arith, all e)
    one true h = two open_now
      where
        two : (b : Bool) → used e + cond b size 0 ≤ most
        two false = omega (arith, all e)
        two true = let same : at ≡ e = eqb-true _ _ h in subst (λ x. used x + size ≤ most) same fits

-- a bound that holds of each endpoint's used bytes holds after a copy that keeps it where it goes
pub used-with_made : (H : History) (c : NewCopy) (most : ℕ) → ((e : ℕ) → used_bytes H e ≤ most) → used_bytes H c.endpoint + c.size ≤ most → (e : ℕ) → used_bytes (with_made c H) e ≤ most
used-with_made H c most all fits e = rw (used-push H.made H.closed e (numbered H.next c)) (within most (used_bytes H) e c.endpoint c.size _ all fits)

pub made_sound : (H : History) (c : NewCopy) → IsSoundHistory H → used_bytes H c.endpoint + c.size ≤ 2 ^ 40 → IsSoundHistory (with_made c H)
made_sound H c s fits =
    let new : MadeCopy = numbered H.next c in
    record {
      next_above = let p = s.next_above in omega arith;
      rise = all_pairs_push (λ (c d : MadeCopy). c.number < d.number) H.made new s.rise (λ k d lt. s.below k d lt);
      above = All-push (λ (c : MadeCopy). 0 < c.number) H.made new s.above s.next_above;
      below = All-push (λ (c : MadeCopy). c.number < H.next + 1) H.made new (All-weaker (λ (c : MadeCopy). c.number < H.next) (λ (c : MadeCopy). c.number < H.next + 1) (λ c lt. omega arith) H.made s.below) (omega arith);
      closed_made = All-weaker (λ (x : ClosedCopy). IsTrue (is_made H.made x.copy)) (λ (x : ClosedCopy). IsTrue (is_made (H.made ++ new ∷ []) x.copy)) (λ x t. still x.copy H.made new t) H.closed s.closed_made;
      closed_once = s.closed_once;
      held_spooled = All-weaker (λ (h : HeldCopy). IsTrue (is_spooled H h.copy)) (λ (h : HeldCopy). IsTrue (is_made (H.made ++ new ∷ []) h.copy && not (is_closed H.closed h.copy)))
          (λ h t. let p = and_parts (is_made H.made h.copy) (not (is_closed H.closed h.copy)) t in and_from _ _ (still h.copy H.made new p.0) p.1) H.held s.held_spooled;
      held_once = s.held_once;
      counted = map-append (λ (a : CopyAttempts). a.copy) H.attempts (record { copy = H.next; count = 0 } ∷ []) ∙ (ap (λ ns. ns ++ H.next ∷ []) s.counted ∙ sym (map-append (λ (c : MadeCopy). c.number) H.made (new ∷ [])));
      used = used-with_made H c (2 ^ 40) s.used fits;
    }
  where
    or_left : (a b : Bool) → IsTrue a → IsTrue (a || b)
    or_left true b t = t
    or_left false b t = absurd (cc)

    still : (copy : ℕ) (made : List MadeCopy) (new : MadeCopy) → IsTrue (is_made made copy) → IsTrue (is_made (made ++ new ∷ []) copy)
    still copy made new t = rw (list_any-append {X = MadeCopy} (λ c. c.number == copy) made (new ∷ [])) (or_left _ _ t)
