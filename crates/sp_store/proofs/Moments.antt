-- What a healing, a writing and an opening may leave, each alone and together.
use Rattle.std.proofs.Common.{◌≡◌, ◌≤◌, ◌++◌, ◌∷◌, [], List, ℕ, length, Option, Some, None}
use Rattle.std.proofs.Common.{inl, inr, refl, sym, ap, subst, arith, length-append}
use Rattle.sp_disk.specs.Disk.{Folder}
use Rattle.sp_disk.specs.Everywhere.{Became, Reached}
use Rattle.sp_disk.specs.Moments.{LeavesOnly}
use Rattle.sp_disk.specs.declared.disk.File.TheVariants.{Journal as JournalFile}
use Rattle.sp_disk.proofs.EverywhereLemmas.{followed, reaches, reaches_none, stepped}
use Rattle.sp_disk.proofs.MomentLemmas.{started}
use Rattle.sp_journal.specs.Format.{HasUnits}
use Rattle.sp_journal.specs.Unsure.{HasUnitsMaybe, HasUnitsOr, KeepsUnits}
use Rattle.sp_journal.proofs.OneReading.{one_history}
use Rattle.sp_ledger.specs.Ledger.{Ledger}
use Rattle.sp_ledger.specs.Step.{Outcome}
use Rattle.sp_store.specs.Commit.{IsAccepted, MayGrow, MayHave}
use Rattle.sp_store.specs.Opening.{MayOpen}
use Rattle.sp_store.specs.Units.{IsLedgerOf, restart_unit}
use Rattle.sp_store.proofs.Opens.{kept_open}
use Rattle.sp_unit.specs.UnitBytes.{UnitView}

sure_has : (maybe : Option UnitView) (units : List UnitView) (file : List ℕ) → HasUnits units file
    → HasUnitsMaybe maybe units file
sure_has None units file has = has
sure_has (Some unit) units file has = inl has

pub grown_has : (maybe : Option UnitView) (units : List UnitView) (unit : UnitView) (o : Outcome) (file : List ℕ)
    → MayGrow units unit o file → MayHave maybe units unit o file
grown_has maybe units unit o file (inl has) = inl (sure_has maybe units file has)
grown_has maybe units unit o file (inr more) = inr more

pub or_grows : (units : List UnitView) (unit : UnitView) (o : Outcome) → IsAccepted o → (file : List ℕ)
    → HasUnitsOr units unit file → MayGrow units unit o file
or_grows units unit o is file (inl has) = inl has
or_grows units unit o is file (inr more) = inr (is, more)

-- more than nothing
longer : (units us : List UnitView) → units ≡ us → units ≡ us ++ restart_unit ∷ [] → ⊥
longer units us same more = omega (arith, ap length same, ap length more, length-append us (restart_unit ∷ []))

-- a file that may be left by an opening and has these units, and then one that has them or these and the restart
pub opens_on : (file a b c : List ℕ) (units : List UnitView) (o : Outcome) → HasUnits units file
    → (IsAccepted o → (M : Ledger) × IsLedgerOf (units ++ restart_unit ∷ []) M) → MayOpen file a b → HasUnits units b
    → MayGrow units restart_unit o c → MayOpen file a c
opens_on file a b c units o in_file leads opens has (inr more) =
    let after = leads more.0 in inr (inr (units, after.0, in_file, after.1, more.1))
opens_on file a b c units o in_file leads (inl same) has (inl still) =
    inr (inl (units, subst (HasUnits units) same has, still))
opens_on file a b c units o in_file leads (inr (inl kept)) has (inl still) =
    let one : units ≡ kept.0 = one_history units kept.0 b has kept.2 in
    inr (inl (kept.0, kept.1, subst (λ (us : List UnitView). HasUnits us c) one still))
opens_on file a b c units o in_file leads (inr (inr more)) has (inl still) =
    absurd (longer units more.0 (one_history units more.0 file in_file more.2)
    (one_history units (more.0 ++ restart_unit ∷ []) b has more.4))

module _ {D : Type 0} (moment : D → ℕ) (left_since : D → ℕ → Folder → Type 0) (may_leave : D → Folder → Type 0) where
  -- nothing was called
  pub stays_put : ((disk : D) (image : Folder) → left_since disk (moment disk) image → may_leave disk image) → (disk : D)
      → (P : List ℕ → Type 0) → ((image : Folder) → may_leave disk image → P (image JournalFile))
      → LeavesOnly moment left_since disk disk (Became JournalFile P (may_leave disk))
  stays_put only_now disk P has =
      started moment left_since disk (Became JournalFile P (may_leave disk))
      (λ image left. (image, only_now disk image left, has image (only_now disk image left), λ other differ. refl))

  module _ (counts_now : (disk : D) (since : ℕ) (image : Folder) → since ≤ moment disk → may_leave disk image
      → left_since disk since image) (file : List ℕ) (old mid read : D)
      (opened : LeavesOnly moment left_since old mid (Reached JournalFile KeepsUnits (may_leave old)))
      (looked : LeavesOnly moment left_since mid read (may_leave mid)) where
    -- a journal was opened, and read
    pub opened_and_read : LeavesOnly moment left_since old read (Reached JournalFile (MayOpen file) (may_leave old))
    opened_and_read =
        followed moment left_since may_leave JournalFile counts_now old mid read (MayOpen file) (λ a b. b ≡ a) (MayOpen file)
        (λ a b opens. opens) (λ a b c opens same. subst (MayOpen file a) (sym same) opens)
        (stepped moment left_since JournalFile old mid (may_leave old) KeepsUnits (MayOpen file) (kept_open file) opened)
        (reaches_none moment left_since JournalFile mid read (may_leave mid) (λ a b. b ≡ a) (λ bytes. refl) looked)

    -- and then a restart was committed
    pub opened_and_restarted : (new : D) (units : List UnitView) (o : Outcome) → HasUnits units file
        → (IsAccepted o → (M : Ledger) × IsLedgerOf (units ++ restart_unit ∷ []) M)
        → ((image : Folder) → may_leave read image → HasUnits units (image JournalFile))
        → LeavesOnly moment left_since read new (Became JournalFile (MayGrow units restart_unit o) (may_leave read))
        → LeavesOnly moment left_since old new (Reached JournalFile (MayOpen file) (may_leave old))
    opened_and_restarted new units o in_file leads images restarted =
        followed moment left_since may_leave JournalFile counts_now old read new (MayOpen file)
        (λ b c. HasUnits units b × MayGrow units restart_unit o c) (MayOpen file) (λ a b opens. opens)
        (λ a b c opens both. opens_on file a b c units o in_file leads opens both.0 both.1) opened_and_read
        (reaches moment left_since JournalFile read new (may_leave read) (HasUnits units)
        (λ b. MayGrow units restart_unit o) (λ b c. HasUnits units b × MayGrow units restart_unit o c) images
        (λ b c has grows. (has, grows)) restarted)
