-- How a run of reading calls goes on.
use Rattle.std.proofs.Common.{◌≡◌, ◌∙◌, refl, sym, ap, subst, ℕ, IsTrue}
use Rattle.sp_disk.specs.Disk.{Folder, Telling, AddsNone, SameImages}
use Rattle.sp_disk.specs.Looked.{Looked}
use Rattle.sp_disk.specs.Moments.{LeavesOnly, Passes}
use Rattle.sp_disk.specs.declared.disk.File.{File}
use Rattle.sp_disk.proofs.MomentLemmas.{started, goes_on, joined, weakened}

module _ {D : Type 0} (tells : D → Telling) (content : D → Folder) (may_leave : D → Folder → Type 0) (moment : D → ℕ)
    (left_since : D → ℕ → Folder → Type 0) where
  -- two runs, one after the other
  pub then : (old mid new : D) → Looked tells content may_leave moment left_since old mid
      → Looked tells content may_leave moment left_since mid new → Looked tells content may_leave moment left_since old new
  then old mid new first second = record {
    same_content = second.same_content ∙ first.same_content;
    same_telling = second.same_telling ∙ first.same_telling;
    same_images = record {
      none_new = λ image left. first.same_images.none_new image (second.same_images.none_new image left);
      none_gone = λ image left. second.same_images.none_gone image (first.same_images.none_gone image left);
    };
    none_since = joined moment left_since old mid new (may_leave old) first.none_since
        (weakened moment left_since mid new (may_leave mid) (may_leave old) first.same_images.none_new second.none_since);
  }

  -- a file reads as before, and is told where it was told
  module _ (old new : D) (looked : Looked tells content may_leave moment left_since old new) where
    pub reads_same : (file : File) → content new file ≡ content old file
    reads_same file = ap (λ (f : Folder). f file) looked.same_content

    pub told_still : IsTrue (tells old).content → IsTrue (tells new).content
    told_still told = subst (λ (t : Telling). IsTrue t.content) (sym looked.same_telling) told

  module _ (only_now : (disk : D) (image : Folder) → left_since disk (moment disk) image → may_leave disk image) where
    pub looked_not : (disk : D) → Looked tells content may_leave moment left_since disk disk
    looked_not disk = record {
      same_content = refl;
      same_telling = refl;
      same_images = record { none_new = λ image left. left; none_gone = λ image left. left };
      none_since = started moment left_since disk (may_leave disk) (only_now disk);
    }

    -- one call that adds no image
    pub adds_none : (old new : D) → AddsNone (may_leave old) (may_leave new) → Passes moment left_since may_leave old new
        → LeavesOnly moment left_since old new (may_leave old)
    adds_none old new none time =
        goes_on moment left_since old old new (may_leave old) (may_leave new)
        (started moment left_since old (may_leave old) (only_now old)) time none

    -- one call that reads
    pub once : (old new : D) → content new ≡ content old → tells new ≡ tells old → SameImages (may_leave old) (may_leave new)
        → Passes moment left_since may_leave old new → Looked tells content may_leave moment left_since old new
    once old new same telling images time = record {
      same_content = same;
      same_telling = telling;
      same_images = images;
      none_since = adds_none old new images.none_new time;
    }

    -- such a call, and then a run that reads
    pub adds_none_and_looks : (old mid new : D) → AddsNone (may_leave old) (may_leave mid)
        → Passes moment left_since may_leave old mid → Looked tells content may_leave moment left_since mid new
        → LeavesOnly moment left_since old new (may_leave old)
    adds_none_and_looks old mid new none time looked =
        joined moment left_since old mid new (may_leave old) (adds_none old mid none time)
        (weakened moment left_since mid new (may_leave mid) (may_leave old) none looked.none_since)
