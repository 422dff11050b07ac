-- What a crash may leave of a state.
use Rattle.std.proofs.Common.{◌≡◌, ℕ, List, [], ◌∷◌, ◌++◌, Option, Some, None, IsTrue, inl, inr, refl, sym, subst}
use Rattle.sp_disk.specs.Disk.{Folder, Telling}
use Rattle.sp_disk.specs.Everywhere.{Vouches}
use Rattle.sp_disk.specs.declared.disk.File.TheVariants.{Journal as JournalFile}
use Rattle.sp_journal.specs.Format.{HasUnits}
use Rattle.sp_journal.specs.State as journals
use Rattle.sp_journal.specs.Unsure.{HasUnitsMaybe}
use Rattle.sp_journal.specs.declared.journal.Journal.{Journal}
use Rattle.sp_journal.proofs.OneReading.{one_history}
use Rattle.sp_journal.proofs.UnitSteps.{units_or}
use Rattle.sp_ledger.specs.Asked.{first_ledger}
use Rattle.sp_ledger.specs.Ledger.{Ledger}
use Rattle.sp_ledger.specs.Step.{Outcome, refused, idle, accepted}
use Rattle.sp_store.specs.Commit.{IsAccepted, MayHave}
use Rattle.sp_store.specs.Opening.{MayOpen}
use Rattle.sp_store.specs.Units.{Accepts, IsLedgerOf, restart_unit}
use Rattle.sp_store.proofs.Ledgers.{leads_on}
use Rattle.sp_store.specs.State.{StoreState}
use Rattle.sp_store.proofs.Moments.{stays_put}
use Rattle.sp_tape.specs.Serves.{IsIn, IsNext, KeepsTo}
use Rattle.sp_tape.specs.State.{AreTaken, IsRestart, MayLeave, RunState}
use Rattle.sp_unit.specs.UnitBytes.{UnitView}

-- a journal has the units for which it stands, in every image
pub stands_maybe : {D : Type 0} (tells : D → Telling) (content : D → Folder) (may_leave : D → Folder → Type 0)
    (maybe : Option UnitView) (units : List UnitView) (journal : Journal) (disk : D)
    → journals.StandsFor tells content may_leave maybe units journal disk → Vouches (tells disk) → (image : Folder)
    → may_leave disk image → HasUnitsMaybe maybe units (image JournalFile)
stands_maybe tells content may_leave None units journal disk was vouches image left =
    inr (journals.place_of journal, was.ends.images vouches image left)
stands_maybe tells content may_leave (Some unit) units journal disk was vouches image left =
    units_or units (journals.place_of journal) unit (image JournalFile) (was.gate.images vouches image left)

-- and as a read gives them
pub stands_read : {D : Type 0} (tells : D → Telling) (content : D → Folder) (may_leave : D → Folder → Type 0)
    (maybe : Option UnitView) (units : List UnitView) (journal : Journal) (disk : D)
    → journals.StandsFor tells content may_leave maybe units journal disk → IsTrue (tells disk).content
    → HasUnitsMaybe maybe units (content disk JournalFile)
stands_read tells content may_leave None units journal disk was told =
    inr (journals.place_of journal, was.ends.reads told)
stands_read tells content may_leave (Some unit) units journal disk was told =
    units_or units (journals.place_of journal) unit (content disk JournalFile) (was.gate.reads told)

taken_none : (maybe : Option UnitView) (units : List UnitView) → AreTaken maybe units units
taken_none None units = refl
taken_none (Some unit) units = inl refl

-- units that are read of such a file are those that were taken
pub taken_of : (maybe : Option UnitView) (units us : List UnitView) (file : List ℕ) → HasUnitsMaybe maybe units file
    → HasUnits us file → AreTaken maybe units us
taken_of None units us file has is = one_history us units file is has
taken_of (Some unit) units us file (inl has) is = inl (one_history us units file is has)
taken_of (Some unit) units us file (inr has) is = inr (one_history us (units ++ unit ∷ []) file is has)

-- a file with the same units is such a file
kept_maybe : (maybe : Option UnitView) (units us : List UnitView) (old new : List ℕ) → HasUnitsMaybe maybe units old
    → HasUnits us old → HasUnits us new → HasUnitsMaybe maybe units new
kept_maybe None units us old new has was is =
    subst (λ (vs : List UnitView). HasUnits vs new) (one_history us units old was has) is
kept_maybe (Some unit) units us old new (inl has) was is =
    inl (subst (λ (vs : List UnitView). HasUnits vs new) (one_history us units old was has) is)
kept_maybe (Some unit) units us old new (inr has) was is =
    inr (subst (λ (vs : List UnitView). HasUnits vs new) (one_history us (units ++ unit ∷ []) old was has) is)

module _ (One : UnitView → Type 0) (S : RunState) (leads : IsLedgerOf S.units S.ledger) where
  -- such a file is one that a crash may leave
  sure_left : (file : List ℕ) → HasUnits S.units file → MayLeave One S file
  sure_left file has = record {
    taken = S.units;
    are_taken = taken_none S.unsure S.units;
    units = S.units;
    one_more = inl refl;
    has = has;
    leads = (S.ledger, leads);
  }

  unsure_left : (unit : UnitView) → S.unsure ≡ Some unit → IsNext (Some unit) S.ledger → (file : List ℕ)
      → HasUnits (S.units ++ unit ∷ []) file → MayLeave One S file
  unsure_left unit is next file has = record {
    taken = S.units ++ unit ∷ [];
    are_taken = subst (λ (m : Option UnitView). AreTaken m S.units (S.units ++ unit ∷ [])) (sym is) (inr refl);
    units = S.units ++ unit ∷ [];
    one_more = inl refl;
    has = has;
    leads = (next.0, leads_on S.units unit first_ledger S.ledger next.0 leads next.1);
  }

  maybe_left : (maybe : Option UnitView) → S.unsure ≡ maybe → IsNext maybe S.ledger → (file : List ℕ)
      → HasUnitsMaybe maybe S.units file → MayLeave One S file
  maybe_left None is next file has = sure_left file has
  maybe_left (Some unit) is next file (inl has) = sure_left file has
  maybe_left (Some unit) is next file (inr has) = unsure_left unit is next file has

  pub has_left : IsNext S.unsure S.ledger → (file : List ℕ) → HasUnitsMaybe S.unsure S.units file → MayLeave One S file
  has_left next file has = maybe_left S.unsure refl next file has

  -- and so is one with a further unit
  pub more_left : (unit : UnitView) → One unit → (M : Ledger) → IsLedgerOf (S.units ++ unit ∷ []) M → (file : List ℕ)
      → HasUnits (S.units ++ unit ∷ []) file → MayLeave One S file
  more_left unit is M more file has = record {
    taken = S.units;
    are_taken = taken_none S.unsure S.units;
    units = S.units ++ unit ∷ [];
    one_more = inr (unit, is, refl);
    has = has;
    leads = (M, more);
  }

-- what a commit may leave is what the state may, with the committed unit
accepted_next : (unit : UnitView) (L : Ledger) (o : Outcome) → ((M : Ledger) (told : _) → o ≡ accepted M told → Accepts unit L M)
    → IsAccepted o → IsNext (Some unit) L
accepted_next unit L (refused refusal) is h = absurd h
accepted_next unit L (idle told) is h = absurd h
accepted_next unit L (accepted M told) is h = (M, is M told refl)

pub commit_left : (One : UnitView → Type 0) (S : RunState) → IsLedgerOf S.units S.ledger → IsNext S.unsure S.ledger
    → (unit : UnitView) → One unit → (o : Outcome) → (IsAccepted o → IsNext (Some unit) S.ledger) → (file : List ℕ)
    → MayHave S.unsure S.units unit o file → MayLeave One S file
commit_left One S leads next unit is o more file (inl has) = has_left One S leads next file has
commit_left One S leads next unit is o more file (inr grown) =
    let then = more grown.0 in
    more_left One S leads unit is then.0 (leads_on S.units unit first_ledger S.ledger then.0 leads then.1) file grown.1

-- what an opening may leave is what the state may, with the restart
pub open_left : (S : RunState) → IsLedgerOf S.units S.ledger → IsNext S.unsure S.ledger → (file old new : List ℕ)
    → HasUnitsMaybe S.unsure S.units file → HasUnitsMaybe S.unsure S.units old → MayOpen file old new
    → MayLeave IsRestart S new
open_left S leads next file old new read was (inl same) =
    has_left IsRestart S leads next new (subst (HasUnitsMaybe S.unsure S.units) (sym same) was)
open_left S leads next file old new read was (inr (inl kept)) =
    has_left IsRestart S leads next new (kept_maybe S.unsure S.units kept.0 old new was kept.1 kept.2)
open_left S leads next file old new read was (inr (inr more)) = record {
  taken = more.0;
  are_taken = taken_of S.unsure S.units more.0 file read more.2;
  units = more.0 ++ restart_unit ∷ [];
  one_more = inr (restart_unit, refl, refl);
  has = more.4;
  leads = (more.1, more.3);
}

-- a store's disk may leave what its state may
module _ {D : Type 0} (tells : D → Telling) (content : D → Folder) (may_leave : D → Folder → Type 0) where
  pub now_left : (One : UnitView → Type 0) (S : RunState) (store : StoreState D) → IsIn tells content may_leave S store
      → Vouches (tells store.disk) → (image : Folder) → may_leave store.disk image → MayLeave One S (image JournalFile)
  now_left One S store is vouches image left =
      has_left One S is.stands.is_ledger is.next (image JournalFile)
      (stands_maybe tells content may_leave S.unsure S.units store.journal store.disk is.stands.on_disk vouches image left)

  module _ (moment : D → ℕ) (left_since : D → ℕ → Folder → Type 0)
      (only_now : (disk : D) (image : Folder) → left_since disk (moment disk) image → may_leave disk image) where
    -- where nothing is called
    pub as_it_is : (One : UnitView → Type 0) (S : RunState) (store : StoreState D) → IsIn tells content may_leave S store
        → KeepsTo tells content may_leave moment left_since One S store.disk store.disk
    as_it_is One S store is vouches =
        stays_put moment left_since may_leave only_now store.disk (MayLeave One S)
        (λ image left. now_left One S store is vouches image left)
