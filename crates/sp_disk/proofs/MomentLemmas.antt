-- How a run of calls on a disk goes on, moment by moment.
use Rattle.std.proofs.Common.{inl, inr, ⊎_elim, ℕ, arith}
use Rattle.sp_disk.specs.Disk.{Folder}
use Rattle.sp_disk.specs.Moments.{Elapses, LeavesOnly}

module _ {D : Type 0} (moment : D → ℕ) (left_since : D → ℕ → Folder → Type 0) where
  -- before the first call
  pub started : (old : D) (P : Folder → Type 0) → ((c : Folder) → left_since old (moment old) c → P c) → LeavesOnly moment left_since old old P
  started old P here = record { later = omega arith; each = here; before = λ t c le left. inl left }

  -- one call more, after which a crash leaves what has P
  pub goes_on : (old mid new : D) (P images : Folder → Type 0) → LeavesOnly moment left_since old mid P → Elapses (moment mid) (moment new) (left_since mid) (left_since new) images
      → ((c : Folder) → images c → P c) → LeavesOnly moment left_since old new P
  goes_on old mid new P images so_far time here = record {
    later = omega (arith, so_far.later, time.later);
    each = λ c left. ⊎_elim (so_far.each c) (here c) (time.nothing_else (moment old) c so_far.later left);
    before = λ t c le left. ⊎_elim (so_far.before t c le) (λ now. inr (here c now)) (time.nothing_else t c (omega (arith, le, so_far.later)) left);
  }

  -- one run after another
  pub joined : (old mid new : D) (P : Folder → Type 0) → LeavesOnly moment left_since old mid P → LeavesOnly moment left_since mid new P → LeavesOnly moment left_since old new P
  joined old mid new P first second = record {
    later = omega (arith, first.later, second.later);
    each = λ c left. ⊎_elim (first.each c) (λ p. p) (second.before (moment old) c first.later left);
    before = λ t c le left. ⊎_elim (first.before t c le) (λ p. inr p) (second.before t c (omega (arith, le, first.later)) left);
  }

  -- what has P has Q
  pub weakened : (old new : D) (P Q : Folder → Type 0) → ((image : Folder) → P image → Q image)
      → LeavesOnly moment left_since old new P → LeavesOnly moment left_since old new Q
  weakened old new P Q then only = record {
    later = only.later;
    each = λ image left. then image (only.each image left);
    before = λ t image le left. ⊎_elim (λ was. inl was) (λ now. inr (then image now)) (only.before t image le left);
  }
