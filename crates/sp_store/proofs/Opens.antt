-- What opening a journal and folding it leave together.
use Rattle.std.proofs.Common.{◌≡◌, ◌⊎◌, ℕ, List, [], ◌∷◌, ◌++◌, length, Option, None, Result, Err, IsTrue}
use Rattle.std.proofs.Common.{⊎_elim, refl, sym, ap, subst, inl, inr, arith, length-append}
use Rattle.sp_disk.specs.Disk.{Folder, Telling}
use Rattle.sp_disk.specs.Everywhere.{Vouches}
use Rattle.sp_disk.specs.declared.disk.File.TheVariants.{Journal as JournalFile}
use Rattle.sp_disk.specs.Looked.{Looked}
use Rattle.sp_event.specs.declared.request.Event.TheVariants.{Restart}
use Rattle.sp_journal.specs.Damage.{IsDamaged, StopsAt}
use Rattle.sp_journal.specs.Format.{EndsAt, HasUnits, IsUnborn}
use Rattle.sp_journal.specs.State.{Rests, place_of}
use Rattle.sp_journal.specs.Unsure.{KeepsUnits}
use Rattle.sp_journal.specs.declared.journal.Journal.{Journal}
use Rattle.sp_journal.specs.declared.journal.OpenError.{OpenError}
use Rattle.sp_journal.specs.declared.journal.OpenError.TheVariants.{Damaged, DiskFault, Memory, OtherVersion}
use Rattle.sp_journal.proofs.OneFate.{ends_sound}
use Rattle.sp_journal.proofs.OneReading.{one_history, unborn_ends}
use Rattle.sp_journal.proofs.Prefixes.{first_units}
use Rattle.sp_ledger.specs.Ledger.{Ledger}
use Rattle.sp_ledger.specs.Step.{Outcome, refused, idle, accepted}
use Rattle.sp_store.proofs.Ledgers.{leads_on}
use Rattle.sp_store.specs.Commit.{IsAccepted, Receives}
use Rattle.sp_store.specs.Opening.{MayOpen, Restarts, restarted}
use Rattle.sp_store.specs.Refused.{IsRefusedAt}
use Rattle.sp_store.specs.Units.{IsLedgerOf, restart_unit}
use Rattle.sp_store.specs.declared.receipt.Receipt.{Receipt}
use Rattle.sp_unit.specs.UnitBytes.{UnitView}

-- a journal that rests at some units rests at those that were read, where they are told, and at any where none are
pub rests_read : {D : Type 0} (tells : D → Telling) (content : D → Folder) (may_leave : D → Folder → Type 0)
    (units read : List UnitView) (journal : Journal) (disk : D) → Rests tells content may_leave units journal disk
    → (IsTrue (tells disk).content → HasUnits read (content disk JournalFile))
    → Rests tells content may_leave read journal disk
rests_read tells content may_leave units read journal disk rests has =
    let same : IsTrue (tells disk).content → units ≡ read =
    λ told. one_history units read (content disk JournalFile) (inr (place_of journal, rests.ends.reads told)) (has told) in
    record {
      sure = rests.sure;
      ends = record {
        reads = λ told. subst (λ (us : List UnitView). EndsAt us (place_of journal) (content disk JournalFile)) (same told)
            (rests.ends.reads told);
        images = λ vouches image left.
            subst (λ (us : List UnitView). EndsAt us (place_of journal) (image JournalFile)) (same vouches.content)
            (rests.ends.images vouches image left);
      };
    }

-- what keeps its units stays, or has units that it had
pub kept_open : (file old new : List ℕ) → KeepsUnits old new → MayOpen file old new
kept_open file old new (inl same) = inl same
kept_open file old new (inr none) = inr (inl ([], inl (refl, none.0), none.1))

-- what rests still does after reads
pub rests_looked : {D : Type 0} (tells : D → Telling) (content : D → Folder) (may_leave : D → Folder → Type 0)
    (moment : D → ℕ) (left_since : D → ℕ → Folder → Type 0) (units : List UnitView) (journal : Journal) (old new : D)
    → Looked tells content may_leave moment left_since old new → Rests tells content may_leave units journal old
    → Rests tells content may_leave units journal new
rests_looked tells content may_leave moment left_since units journal old new looked rests = record {
  sure = rests.sure;
  ends = record {
    reads = λ told. subst (λ (f : Folder). EndsAt units (place_of journal) (f JournalFile)) (sym looked.same_content)
        (rests.ends.reads (subst (λ (t : Telling). IsTrue t.content) looked.same_telling told));
    images = λ vouches image left.
        rests.ends.images (subst Vouches looked.same_telling vouches) image (looked.same_images.none_new image left);
  };
}

-- no unit follows on none
no_more : (before units more : List UnitView) (unit : UnitView) → units ≡ [] → units ≡ (before ++ unit ∷ []) ++ more → ⊥
no_more before units more unit none some =
    omega (
      arith,
      ap length none,
      ap length some,
      length-append (before ++ unit ∷ []) more,
      length-append before (unit ∷ []),
    )

-- a journal as it read before its opening, and afterwards
module _ (units : List UnitView) (place : ℕ) (old new : List ℕ) (had : HasUnits units old) (ends : EndsAt units place new)
    (born : (IsUnborn old → ⊥) → new ≡ old) where
  refused_before : (at : ℕ) → HasUnits units old → IsRefusedAt at new → IsRefusedAt at old
  refused_before at (inl none) there =
      let more = first_units (there.before ++ there.unit ∷ []) units there.next new there.follows
      (inr (place, ends)) in
      absurd (no_more there.before units more.0 there.unit none.0 more.1)
  refused_before at (inr was) there =
      subst (IsRefusedAt at) (born (λ unborn. unborn_ends units was.0 old unborn was.1)) there

  pub damaged_before : (f at : ℕ) → (f ≡ 0) × (((us : List UnitView) × StopsAt us at new) ⊎ IsRefusedAt at new)
      → (f ≡ 0) × (IsDamaged at old ⊎ IsRefusedAt at old)
  damaged_before f at found = (
    found.0,
    ⊎_elim (λ stops. absurd (ends_sound units place at new ends (inr (inr stops))))
        (λ there. inr (refused_before at had there)) found.1,
  )

-- what is found of a journal that was only read
pub damaged_as_read : (f at : ℕ) (old : List ℕ) → (f ≡ 0) × (((us : List UnitView) × StopsAt us at old) ⊎ IsRefusedAt at old)
    → (f ≡ 0) × (IsDamaged at old ⊎ IsRefusedAt at old)
damaged_as_read f at old found =
    (found.0, ⊎_elim (λ stops. inl (inr (inr stops))) (λ there. inr there) found.1)

-- a restart that was committed
pub restarts_received : (P : Option UnitView → List UnitView → Ledger → Type 0) (unit : UnitView) (units : List UnitView)
    (L : Ledger) (o : Outcome) (receipt : Receipt) → unit ≡ restart_unit → Receives P unit units L o receipt
    → Restarts (λ us M. P None us M) units L o
restarts_received P unit units L (refused refusal) receipt same given = absurd given
restarts_received P unit units L (idle told) receipt same given = given.1
restarts_received P unit units L (accepted M told) receipt same given =
    subst (λ (u : UnitView). P None (units ++ u ∷ []) M) same given.1

-- where a restart changes something, the units and its own lead to a ledger
pub restart_leads : (units : List UnitView) (L : Ledger) → IsLedgerOf units L → (o : Outcome) → o ≡ restarted L
    → IsAccepted o → (M : Ledger) × IsLedgerOf (units ++ restart_unit ∷ []) M
restart_leads units L leads (refused refusal) same is = absurd is
restart_leads units L leads (idle told) same is = absurd is
restart_leads units L leads (accepted M told) same is =
    (M, leads_on units restart_unit _ L M leads (record { event = Restart; told = told; one = refl; step = sym same }))

-- what an error that is told is
pub error_is : {T : Type 0} (error : OpenError) (file at : ℕ) → ◌≡◌ {A = Result T OpenError} (Err error) (Err (Damaged file at))
    → error ≡ Damaged file at
error_is error file at same = cc

-- a restart finds no other version
pub no_version : {T : Type 0} (error : OpenError) (found : ℕ) → (error ≡ DiskFault) ⊎ (error ≡ Memory)
    → ◌≡◌ {A = Result T OpenError} (Err error) (Err (OtherVersion found)) → ⊥
no_version error found (inl is) same = absurd cc
no_version error found (inr is) same = absurd cc
