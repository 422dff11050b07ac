-- A copy that is given back keeps the history sound, and the used bytes as they were.
use Rattle.std.proofs.Common.{◌≡◌, ◌==◌, ℕ, not, refl, le_trans, IsTrue}
use Rattle.std.proofs.lemmas.List.Elements.{All-filter}
use Rattle.sp_copies.specs.declared.held.HeldCopy.{HeldCopy}
use Rattle.sp_copies.specs.History.{History, is_spooled, used_bytes, with_given_back}
use Rattle.sp_copies.specs.Sound.{IsSoundHistory}
use Rattle.sp_copies.proofs.Counting.{count-filter}

pub used-with_given_back : (H : History) (copy : ℕ) (e : ℕ) → used_bytes (with_given_back copy H) e ≡ used_bytes H e
used-with_given_back H copy e = refl

-- whether a flow holds it or not
pub given_back_sound : (H : History) (copy : ℕ) → IsSoundHistory H → IsSoundHistory (with_given_back copy H)
given_back_sound H copy s = record {
  next_above = s.next_above;
  rise = s.rise;
  above = s.above;
  below = s.below;
  closed_made = s.closed_made;
  closed_once = s.closed_once;
  held_spooled = All-filter {X = HeldCopy} (λ h. not (h.copy == copy))
      (λ h. IsTrue (is_spooled H h.copy)) H.held s.held_spooled;
  held_once = λ k. le_trans (count-filter {X = HeldCopy} (λ h. h.copy == k) (λ h. not (h.copy == copy)) H.held)
      (s.held_once k);
  counted = s.counted;
  used = s.used;
}
