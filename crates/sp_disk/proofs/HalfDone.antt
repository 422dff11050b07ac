-- A call that is done, or does nothing, is one that may be half done.
use Rattle.std.proofs.Common.{◌≡◌, ℕ, ◌+◌, ◌-◌, ◌≤◌, Bool, true, false, List, length, take, drop, refl, sym, ap, ◌∙◌, subst, inl, inr, ⊎_elim, ◌≢◌, arith, drop-drop}
use Rattle.std.proofs.lemmas.Grind.{common_steps}
use Rattle.sp_disk.specs.Disk.{Torn, Shortened, written}
use Rattle.sp_disk.specs.declared.call.Call.{Call}
use Rattle.sp_disk.specs.declared.call.Call.TheVariants.{Len, Read, Write, Cut, Sync}
use Rattle.sp_disk.proofs.Tears.{torn_same, torn_written}
use Rattle.sp_disk.specs.Calls.{first_half, after_call, IsHalfDone, Leaves}

-- lists that are equal from some place on are equal from a later one on
drop_later : (place more later : ℕ) (old new : List ℕ) → place + more ≡ later → drop place new ≡ drop place old → drop later new ≡ drop later old
drop_later place more later old new is same =
    subst (λ (n : ℕ). drop n new ≡ drop n old) is (sym (drop-drop more place new) ∙ ap (λ (l : List ℕ). drop more l) same ∙ drop-drop more place old)

-- a shorter write is a longer one that is half done
pub torn_more : (at less more : ℕ) (old new : List ℕ) → less ≤ more → Torn at less old new → Torn at more old new
torn_more at less more old new le torn = record {
  before = torn.before;
  behind = drop_later (at + less) (more - less) (at + more) old new (omega arith) torn.behind;
  no_shorter = torn.no_shorter;
  no_longer = omega (arith, torn.no_longer);
}

pub first_half_le : (bytes : List ℕ) → length (first_half bytes) ≤ length bytes
first_half_le bytes = grind (arith, common_steps)

pub shortened_same : (len : ℕ) (file : List ℕ) → Shortened len file file
shortened_same len file = record { no_shorter = omega arith; front = grind (arith, common_steps) }

pub shortened_cut : (len : ℕ) (file : List ℕ) → Shortened len file (take len file)
shortened_cut len file = record { no_shorter = grind (arith, common_steps); front = grind (arith, common_steps) }

-- a call that does nothing may be half done
pub half_done_same : (call : Call) (file : List ℕ) → IsHalfDone call file file
half_done_same Len file = refl
half_done_same (Read at count) file = refl
half_done_same (Write at bytes) file = torn_same at (length bytes) file
half_done_same (Cut len) file = shortened_same len file
half_done_same Sync file = refl

-- so may one that is done, or does what it does where it fails
pub half_done_done : (call : Call) (failed : Bool) (file : List ℕ) → IsHalfDone call file (after_call call failed file)
half_done_done Len failed file = refl
half_done_done (Read at count) failed file = refl
half_done_done (Write at bytes) true file =
    torn_more at (length (first_half bytes)) (length bytes) file (written file at (first_half bytes)) (first_half_le bytes) (torn_written at (first_half bytes) file)
half_done_done (Write at bytes) false file = torn_written at bytes file
half_done_done (Cut len) true file = shortened_same len file
half_done_done (Cut len) false file = shortened_cut len file
half_done_done Sync failed file = refl

-- what a call other than a sync may leave is a call that may be half done
pub half_done_of : (call : Call) (failed : Bool) (reads old new : List ℕ) → call ≢ Sync → Leaves call failed reads old new → IsHalfDone call old new
half_done_of Len failed reads old new other left = ⊎_elim (λ e. e) (λ e. e) left
half_done_of (Read at count) failed reads old new other left = ⊎_elim (λ e. e) (λ e. e) left
half_done_of (Write at bytes) failed reads old new other left =
    ⊎_elim (λ e. subst (λ (l : List ℕ). Torn at (length bytes) old l) (sym e) (half_done_done (Write at bytes) failed old)) (λ torn. torn) left
half_done_of (Cut len) failed reads old new other left =
    ⊎_elim (λ e. subst (λ (l : List ℕ). Shortened len old l) (sym e) (half_done_done (Cut len) failed old)) (λ cut. cut) left
half_done_of Sync failed reads old new other left = absurd (other refl)

-- a call other than a sync may have left what was there
pub leaves_same : (call : Call) (failed : Bool) (reads file : List ℕ) → call ≢ Sync → Leaves call failed reads file file
leaves_same Len failed reads file other = inl refl
leaves_same (Read at count) failed reads file other = inl refl
leaves_same (Write at bytes) failed reads file other = inr (torn_same at (length bytes) file)
leaves_same (Cut len) failed reads file other = inr (shortened_same len file)
leaves_same Sync failed reads file other = absurd (other refl)
