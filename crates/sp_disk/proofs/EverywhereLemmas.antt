-- What calls leave of a file as a read gives it and in every image, at each moment and afterwards.
use Rattle.std.proofs.Common.{◌≡◌, ◌∙◌, refl, sym, subst, ℕ, ◌≤◌, List, IsTrue}
use Rattle.sp_disk.specs.Disk.{AddsNone, Folder, Follows, Telling, HoldsOnly}
use Rattle.sp_disk.specs.Everywhere.{Everywhere, Reached, Vouches}
use Rattle.sp_disk.specs.Moments.{LeavesOnly, Passes}
use Rattle.sp_disk.specs.declared.disk.File.{File}
use Rattle.sp_disk.proofs.MomentLemmas.{goes_on, joined, started, weakened}

pub told_before : (old new : Telling) → new ≡ old → IsTrue new.content → IsTrue old.content
told_before old new same told = subst (λ (t : Telling). IsTrue t.content) same told

module _ {D : Type 0} (tells : D → Telling) (content : D → Folder) (may_leave : D → Folder → Type 0) (file : File) where
  -- a file that has P has Q
  pub widened : (disk : D) (P Q : List ℕ → Type 0) → ((bytes : List ℕ) → P bytes → Q bytes)
      → Everywhere tells content may_leave file disk P → Everywhere tells content may_leave file disk Q
  widened disk P Q then was = record {
    reads = λ told. then (content disk file) (was.reads told);
    images = λ vouches image left. then (image file) (was.images vouches image left);
  }

  -- what a read gives after a sync is what a crash leaves
  pub settles : (old new : D) (P : List ℕ → Type 0) → tells new ≡ tells old → (IsTrue (tells old).content → P (content new file))
      → (IsTrue (tells old).honest → HoldsOnly file (content new file) (may_leave new))
      → Everywhere tells content may_leave file new P
  settles old new P same reads durable = record {
    reads = λ told. reads (told_before (tells old) (tells new) same told);
    images = λ vouches image left.
        let before : Vouches (tells old) = subst Vouches same vouches in
        subst P (sym (durable before.honest image left)) (reads before.content);
  }

module _ {D : Type 0} (moment : D → ℕ) (left_since : D → ℕ → Folder → Type 0) (file : File) (old new : D) where
  -- over images that have P a step is another one too
  pub reaches : (images : Folder → Type 0) (P : List ℕ → Type 0) (step other : List ℕ → List ℕ → Type 0)
      → ((image : Folder) → images image → P (image file)) → ((a b : List ℕ) → P a → step a b → other a b)
      → LeavesOnly moment left_since old new (Reached file step images)
      → LeavesOnly moment left_since old new (Reached file other images)
  reaches images P step other had leads only =
      weakened moment left_since old new (Reached file step images) (Reached file other images)
      (λ image reached. (
        reached.0,
        reached.1,
        leads (reached.0 file) (image file) (had reached.0 reached.1) reached.2,
        reached.3,
      )) only

  -- a step is another one too
  pub stepped : (images : Folder → Type 0) (step other : List ℕ → List ℕ → Type 0) → ((a b : List ℕ) → step a b → other a b)
      → LeavesOnly moment left_since old new (Reached file step images)
      → LeavesOnly moment left_since old new (Reached file other images)
  stepped images step other then only =
      weakened moment left_since old new (Reached file step images) (Reached file other images)
      (λ image reached. (reached.0, reached.1, then (reached.0 file) (image file) reached.2, reached.3)) only

  -- where no image is new, each was reached by no step
  pub reaches_none : (images : Folder → Type 0) (step : List ℕ → List ℕ → Type 0) → ((bytes : List ℕ) → step bytes bytes)
      → LeavesOnly moment left_since old new images → LeavesOnly moment left_since old new (Reached file step images)
  reaches_none images step none only =
      weakened moment left_since old new images (Reached file step images)
      (λ image left. (image, left, none (image file), λ other differ. refl)) only

  -- a step from P to Q that may be half done
  pub stays : (tells : D → Telling) (content : D → Folder) (may_leave : D → Folder → Type 0) → tells new ≡ tells old
      → ((disk : D) (since : ℕ) (image : Folder) → since ≤ moment disk → may_leave disk image → left_since disk since image)
      → (step : List ℕ → List ℕ → Type 0) (P Q : List ℕ → Type 0)
      → (IsTrue (tells old).content → step (content old file) (content new file))
      → (Vouches (tells old) → LeavesOnly moment left_since old new (Reached file step (may_leave old)))
      → ((a b : List ℕ) → P a → step a b → Q b)
      → Everywhere tells content may_leave file old P → Everywhere tells content may_leave file new Q
  stays tells content may_leave same counts_now step P Q reads moments leads was = record {
    reads = λ told.
        let before = told_before (tells old) (tells new) same told in
        leads (content old file) (content new file) (was.reads before) (reads before);
    images = λ vouches image left.
        let before : Vouches (tells old) = subst Vouches same vouches in
        let only = moments before in
        let reached = only.each image (counts_now new (moment old) image only.later left) in
        leads (reached.0 file) (image file) (was.images before reached.0 reached.1) reached.2;
  }

module _ {D : Type 0} (moment : D → ℕ) (left_since : D → ℕ → Folder → Type 0) (may_leave : D → Folder → Type 0) (file : File)
    (counts_now : (disk : D) (since : ℕ) (image : Folder) → since ≤ moment disk → may_leave disk image → left_since disk since image) where
  -- one run after another, each a step from the images before it
  pub followed : (old mid new : D) (first second both : List ℕ → List ℕ → Type 0)
      → ((a b : List ℕ) → first a b → both a b) → ((a b c : List ℕ) → first a b → second b c → both a c)
      → LeavesOnly moment left_since old mid (Reached file first (may_leave old))
      → LeavesOnly moment left_since mid new (Reached file second (may_leave mid))
      → LeavesOnly moment left_since old new (Reached file both (may_leave old))
  followed old mid new first second both alone together before after =
      joined moment left_since old mid new (Reached file both (may_leave old))
      (weakened moment left_since old mid (Reached file first (may_leave old)) (Reached file both (may_leave old))
      (λ image reached. (reached.0, reached.1, alone (reached.0 file) (image file) reached.2, reached.3)) before)
      (weakened moment left_since mid new (Reached file second (may_leave mid)) (Reached file both (may_leave old))
      (λ image reached.
      let earlier = before.each reached.0 (counts_now mid (moment old) reached.0 before.later reached.1) in (
        earlier.0,
        earlier.1,
        together (earlier.0 file) (reached.0 file) (image file) earlier.2 reached.2,
        λ other differ. reached.3 other differ ∙ earlier.3 other differ,
      )) after)

module _ {D : Type 0} (moment : D → ℕ) (left_since : D → ℕ → Folder → Type 0) (may_leave : D → Folder → Type 0) (file : File)
    (step : List ℕ → List ℕ → Type 0) where
  -- one call that makes a step
  pub makes : ((disk : D) (image : Folder) → left_since disk (moment disk) image → may_leave disk image)
      → ((bytes : List ℕ) → step bytes bytes) → (old new : D) → Follows file step (may_leave old) (may_leave new)
      → Passes moment left_since may_leave old new → LeavesOnly moment left_since old new (Reached file step (may_leave old))
  makes only_now none old new follows time =
      goes_on moment left_since old old new (Reached file step (may_leave old)) (may_leave new)
      (started moment left_since old (Reached file step (may_leave old))
      (λ image left. (image, only_now old image left, none (image file), λ other differ. refl)))
      time follows

  -- and then one that adds no image
  pub makes_and_syncs : (old mid new : D) → LeavesOnly moment left_since old mid (Reached file step (may_leave old))
      → Follows file step (may_leave old) (may_leave mid) → AddsNone (may_leave mid) (may_leave new)
      → Passes moment left_since may_leave mid new → LeavesOnly moment left_since old new (Reached file step (may_leave old))
  makes_and_syncs old mid new made follows none time =
      goes_on moment left_since old mid new (Reached file step (may_leave old)) (may_leave new) made time
      (λ image left. follows image (none image left))
