-- What opening a journal leaves.
use Rattle.std.proofs.Common.{◌≡◌, ◌∙◌, Bool, true, false, IsTrue, List, ℕ, [], refl, sym, ap, subst}
use Rattle.sp_disk.specs.Disk.{Folder, Telling, HoldsOnly}
use Rattle.sp_disk.specs.Everywhere.{Everywhere}
use Rattle.sp_disk.specs.Looked.{Looked}
use Rattle.sp_disk.specs.declared.disk.File.TheVariants.{Journal}
use Rattle.sp_disk.proofs.EverywhereLemmas.{settles}
use Rattle.sp_unit.specs.UnitBytes.{UnitView}

-- what there is where the content is told, or else no units
pub where_told : (told : Bool) (P : List UnitView → Type 0) → (IsTrue told → (units : List UnitView) × P units)
    → (units : List UnitView) × (IsTrue told → P units)
where_told true P found = let it = found refl in (it.0, λ told. it.1)
where_told false P found = ([], λ told. absurd (cc told))

-- after a sync and a look every image is what a read gave before
pub all_as_read : {D : Type 0} (tells : D → Telling) (content : D → Folder) (may_leave : D → Folder → Type 0)
    (moment : D → ℕ)
    (left_since : D → ℕ → Folder → Type 0) (old synced new : D) → content synced ≡ content old
    → tells synced ≡ tells old
    → (IsTrue (tells old).honest → HoldsOnly Journal (content old Journal) (may_leave synced))
    → Looked tells content may_leave moment left_since synced new
    → (P : List ℕ → Type 0) → (IsTrue (tells old).content → P (content old Journal))
    → Everywhere tells content may_leave Journal new P
all_as_read tells content may_leave moment left_since old synced new same telling durable looked P reads =
    let now : content new Journal ≡ content old Journal = ap (λ (f : Folder). f Journal) (looked.same_content ∙ same) in
    settles tells content may_leave Journal old new P (looked.same_telling ∙ telling)
    (λ told. subst P (sym now) (reads told))
    (λ honest image left. durable honest image (looked.same_images.none_new image left) ∙ sym now)
