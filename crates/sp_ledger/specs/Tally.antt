-- Copies and closings, counted.
pub use Rattle.sp_copies.specs.Counts.{causes_in, closing_count, is_made_in}
use Rattle.sp_copies.specs.Counts.{is_accepted, is_discarded, is_moved}
use Rattle.sp_copies.specs.Counts.{made_count, spooled_count, used_in}
use Rattle.sp_copies.specs.History.{History}
use Rattle.sp_event.specs.declared.answer.Reply.{Reply}
use Rattle.sp_event.specs.declared.answer.Reply.TheVariants as replies
use Rattle.sp_event.specs.declared.answer.Tally.{Tally}
use Rattle.sp_ledger.specs.Limits.{greatest_quota, most_endpoints, spent}
use Rattle.std.specs.Prelude.{None, Option, Some, sum_by, ℕ, ◌*◌}
use Rattle.std.specs.Prelude.{◌+◌, ◌≡◌, ◌≤◌}

-- the copies of an endpoint, or of all that ever were, counted by fate
abbrev pub tally_in : History → Option ℕ → Tally
tally_in H e = record {
  accepted = closing_count H e (λ how. is_accepted (Some how));
  causes = causes_in H e;
  discarded = closing_count H e (λ how. is_discarded (Some how));
  made = made_count H e;
  moved = closing_count H e (λ how. is_moved (Some how));
  spooled = spooled_count H e;
  used = used_in H e;
}

-- made is spooled, accepted, moved and discarded together, and discarded is what the causes did
pub record IsBalanced (t : Tally) : Type 0 where
  pub made : t.made ≡ t.spooled + t.accepted + t.moved + t.discarded
  pub discarded : t.discarded ≡ sum_by (λ k. k.count) t.causes

-- the tally that a reply tells, if any
abbrev pub told_tally : Reply → Option Tally
told_tally (replies.Tally tally) = Some tally
told_tally reply = None

-- a tally that a reply tells is balanced
abbrev pub TellsBalanced : Reply → Type 0
TellsBalanced reply = (t : Tally) → told_tally reply ≡ Some t → IsBalanced t

-- every count is at most 2^62, and the bytes are at most those of 1,000 endpoints that are full
pub record IsSmall (t : Tally) : Type 0 where
  pub made : t.made ≤ spent
  pub used : t.used ≤ most_endpoints * greatest_quota
