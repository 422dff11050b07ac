-- What opening a journal gives a run.
use Rattle.std.proofs.Common.{◌≡◌, ◌⊎◌, ◌==◌, ◌≤◌, ◌∙◌, ℕ, Bool, true, false, List, [], ◌∷◌, ◌++◌, length, Option, Result, Some, None, Ok, Err, IsTrue, arith, inl, inr, refl, sym, subst}
use Rattle.std.proofs.lemmas.Bool.{eqb-true}
use Rattle.std.specs.Prelude.{IfOk, IfErr, codes}
use Rattle.sp_base.specs.Causes.{Rose}
use Rattle.sp_core.specs.Stands.{Stands}
use Rattle.sp_core.specs.State.{CoreState}
use Rattle.sp_disk.specs.Disk.{Folder, Telling}
use Rattle.sp_disk.specs.Everywhere.{Reached, Vouches}
use Rattle.sp_disk.specs.Moments.{LeavesOnly}
use Rattle.sp_disk.specs.declared.disk.File.TheVariants.{Journal as JournalFile}
use Rattle.sp_disk.proofs.EverywhereLemmas.{reaches}
use Rattle.sp_journal.specs.Damage.{IsDamaged, IsOtherVersion}
use Rattle.sp_journal.specs.Format.{HasUnits}
use Rattle.sp_journal.specs.Unsure.{HasUnitsMaybe}
use Rattle.sp_journal.specs.declared.journal.OpenError.{OpenError}
use Rattle.sp_journal.specs.declared.journal.OpenError.TheVariants as errors
use Rattle.sp_journal.proofs.OneFate.{born_not_unborn, damaged_unborn, ends_sound, ends_version}
use Rattle.sp_ledger.specs.Asked.{first_ledger}
use Rattle.sp_ledger.specs.Ledger.{Ledger}
use Rattle.sp_ledger.specs.Sound.{IsLedger}
use Rattle.sp_ledger.specs.Step.{Outcome, refused, idle, accepted}
use Rattle.sp_ledger.proofs.Numbered.{restart_accepted, restart_idle}
use Rattle.sp_store.specs.Opening.{MayOpen, Restarts, disk_of, restarted}
use Rattle.sp_store.specs.Refused.{IsGood, IsRefusedAt}
use Rattle.sp_store.specs.State.{StandsFor, StoreState}
use Rattle.sp_store.specs.Units.{IsLedgerOf, restart_unit}
use Rattle.sp_store.proofs.Ledgers.{good_not_refused, leads_on}
use Rattle.sp_tape.specs.declared.entry.Kind.{Kind}
use Rattle.sp_tape.specs.declared.entry.Kind.TheVariants.{Restart}
use Rattle.sp_tape.specs.Serves.{IsIn, IsNext, KeepsTo, Readies, ReadiesOrStops, Stops}
use Rattle.sp_tape.specs.State.{IsRestart, MayLeave, Opens, RunState, settled}
use Rattle.sp_tape.proofs.Left.{as_it_is, open_left, stands_maybe, stands_read, taken_of}
use Rattle.sp_unit.specs.UnitBytes.{UnitView}

no_flows : {X : Type 0} (flows : List X) → (length flows == 0) ≡ true → flows ≡ []
no_flows [] is = refl
no_flows (flow ∷ more) is = absurd (let none : length (flow ∷ more) ≡ 0 = eqb-true _ _ is in omega (arith, none))

-- a restart that changes nothing had no flow to unbind
still_unbound : (L : Ledger) (told : _) → restarted L ≡ idle told → L.flows ≡ []
still_unbound L told same = one (length L.flows == 0) refl
  where
    one : (b : Bool) → (length L.flows == 0) ≡ b → L.flows ≡ []
    one true is = no_flows L.flows is
    one false is = let other = restart_accepted L is 0 (codes "#system") in
        absurd (cc (sym same ∙ other.1))

-- and one that changes something leaves none
restarted_unbound : (L M : Ledger) (told : _) → restarted L ≡ accepted M told → M.flows ≡ []
restarted_unbound L M told same = one (length L.flows == 0) refl
  where
    one : (b : Bool) → (length L.flows == 0) ≡ b → M.flows ≡ []
    one true is = absurd (cc (sym same ∙ restart_idle L (no_flows L.flows is) 0 (codes "#system")))
    one false is =
        let other = restart_accepted L is 0 (codes "#system") in
        let both : accepted M told ≡ accepted other.0 _ = sym same ∙ other.1 in
        let ledger : other.0 ≡ M = cc (sym both) in
        subst (λ (K : Ledger). K.flows ≡ []) ledger other.2

unbound_ledger : (core : CoreState) (L : Ledger) → Stands core L → L.flows ≡ [] → IsLedger L
unbound_ledger core L s none = record { sound = s.ledger.sound; unit = s.ledger.unit; unbound = λ above. none }

-- units that lead to a ledger are those of a good journal
has_good : (units : List UnitView) (L : Ledger) → IsLedgerOf units L → (maybe : Option UnitView) → IsNext maybe L
    → (file : List ℕ) → HasUnitsMaybe maybe units file → IsGood file
has_good units L leads None next file has = (units, has, (L, leads))
has_good units L leads (Some unit) next file (inl has) = (units, has, (L, leads))
has_good units L leads (Some unit) next file (inr has) =
    (units ++ unit ∷ [], has, (next.0, leads_on units unit first_ledger L next.0 leads next.1))

pub good_not_damaged : (at : ℕ) (file : List ℕ) → IsGood file → IsDamaged at file → ⊥
good_not_damaged at file good damaged = elim good.1 [
  | inl none ↦ damaged_unborn at file damaged none.1
  | inr ends ↦ ends_sound good.0 ends.0 at file ends.1 damaged
]

pub good_not_other : (found : ℕ) (file : List ℕ) → IsGood file → IsOtherVersion found file → ⊥
good_not_other found file good other = elim good.1 [
  | inl none ↦ born_not_unborn file other.0 none.1
  | inr ends ↦ ends_version good.0 ends.0 found file ends.1 other
]

module _ {D : Type 0} (tells : D → Telling) (content : D → Folder) (may_leave : D → Folder → Type 0) (new : StoreState D) where
  -- the state that an opening leaves, by what the restart came to
  pub record Found (units : List UnitView) : Type 0 where
    pub state : RunState
    pub opens : Opens units state
    pub stands : IsIn tells content may_leave state new

  pub found_by : (units : List UnitView) (L : Ledger) → IsLedgerOf units L → (o : Outcome) → restarted L ≡ o
      → Restarts (λ us M. StandsFor tells content may_leave None us M new) units L o → Found units
  found_by units L leads (refused refusal) e h = absurd h
  found_by units L leads (idle told) e h = record {
    state = settled units L;
    opens = record {
      ledger = L;
      is_ledger = leads;
      restarts = subst (Restarts (λ us M. settled units L ≡ settled us M) units L) (sym e) refl;
      sound = unbound_ledger new.core L h.stands (still_unbound L told e);
    };
    stands = record { stands = h; next = tt };
  }
  found_by units L leads (accepted M told) e h = record {
    state = settled (units ++ restart_unit ∷ []) M;
    opens = record {
      ledger = L;
      is_ledger = leads;
      restarts = subst (Restarts (λ us K. settled (units ++ restart_unit ∷ []) M ≡ settled us K) units L) (sym e) refl;
      sound = unbound_ledger new.core M h.stands (restarted_unbound L M told e);
    };
    stands = record { stands = h; next = tt };
  }

module _ {D : Type 0} (tells : D → Telling) (content : D → Folder) (may_leave : D → Folder → Type 0) (moment : D → ℕ)
    (left_since : D → ℕ → Folder → Type 0) (faults : D → ℕ) (kind : Kind) (old : StoreState D) where
  -- what a store's disk has is good
  pub stays_good : (S : RunState) → IsIn tells content may_leave S old → IsTrue (tells old.disk).content
      → IsGood (content old.disk JournalFile)
  stays_good S is told =
      has_good S.units S.ledger is.stands.is_ledger S.unsure is.next (content old.disk JournalFile)
      (stands_read tells content may_leave S.unsure S.units old.journal old.disk is.stands.on_disk told)

  -- at each moment of the opening a crash leaves what the state may
  keeps : (S : RunState) → IsIn tells content may_leave S old → (new : D)
      → (Vouches (tells old.disk) → LeavesOnly moment left_since old.disk new
      (Reached JournalFile (MayOpen (content old.disk JournalFile)) (may_leave old.disk)))
      → KeepsTo tells content may_leave moment left_since IsRestart S old.disk new
  keeps S is new moments vouches =
      reaches moment left_since JournalFile old.disk new (may_leave old.disk) (HasUnitsMaybe S.unsure S.units)
      (MayOpen (content old.disk JournalFile)) (λ before. MayLeave IsRestart S)
      (λ image left. stands_maybe tells content may_leave S.unsure S.units old.journal old.disk is.stands.on_disk vouches image left)
      (λ before file has opens. open_left S is.stands.is_ledger is.next (content old.disk JournalFile) before file
      (stands_read tells content may_leave S.unsure S.units old.journal old.disk is.stands.on_disk vouches.content) has opens)
      (moments vouches)

  -- why it isn't opened
  honest : (S : RunState) → IsIn tells content may_leave S old → IsTrue (tells old.disk).content → (error : OpenError)
      → ((file : ℕ) (at : ℕ) → error ≡ errors.Damaged file at
      → (file ≡ 0) × (IsDamaged at (content old.disk JournalFile) ⊎ IsRefusedAt at (content old.disk JournalFile)))
      → ((found : ℕ) → error ≡ errors.OtherVersion found → IsOtherVersion found (content old.disk JournalFile))
      → (error ≡ errors.DiskFault) ⊎ (error ≡ errors.Memory)
  honest S is told errors.DiskFault damage version = inl refl
  honest S is told errors.Memory damage version = inr refl
  honest S is told (errors.Damaged file at) damage version =
      let good = stays_good S is told in
      absurd (elim (damage file at refl).1 [
        | inl broken ↦ good_not_damaged at (content old.disk JournalFile) good broken
        | inr wrong ↦ good_not_refused (content old.disk JournalFile) at good wrong
      ])
  honest S is told (errors.OtherVersion found) damage version =
      absurd (good_not_other found (content old.disk JournalFile) (stays_good S is told) (version found refl))

  -- it was opened again
  pub readied : (new : StoreState D) → kind ≡ Restart
      → ((units : List UnitView) × (L : Ledger) × IsLedgerOf units L
      × (IsTrue (tells old.disk).content → HasUnits units (content old.disk JournalFile))
      × Restarts (λ us M. StandsFor tells content may_leave None us M new) units L (restarted L))
      → new.max ≡ old.max
      → (Vouches (tells old.disk) → LeavesOnly moment left_since old.disk new.disk
      (Reached JournalFile (MayOpen (content old.disk JournalFile)) (may_leave old.disk)))
      → tells new.disk ≡ tells old.disk → faults old.disk ≤ faults new.disk
      → Readies tells content may_leave moment left_since faults kind old new
  readied new restart opened max moments telling later =
      let found = found_by tells content may_leave new opened.0 opened.1 opened.2 (restarted opened.1) refl opened.4 in
      record {
        state = λ S is. (
          found.state,
          found.stands,
          λ again. (
            opened.0,
            λ told. taken_of S.unsure S.units opened.0 (content old.disk JournalFile)
                (stands_read tells content may_leave S.unsure S.units old.journal old.disk is.stands.on_disk told)
                (opened.3 told),
            found.opens,
          ),
          λ not. absurd (not restart),
        );
        any_moment = λ S is. keeps S is new.disk moments;
        max = max;
        telling = telling;
        later = later;
      }

  -- it wasn't
  pub stopped : (new : D) (error : OpenError) → kind ≡ Restart
      → (IsTrue (tells old.disk).content → (file : ℕ) (at : ℕ) → error ≡ errors.Damaged file at
      → (file ≡ 0) × (IsDamaged at (content old.disk JournalFile) ⊎ IsRefusedAt at (content old.disk JournalFile)))
      → (IsTrue (tells old.disk).content → (found : ℕ) → error ≡ errors.OtherVersion found
      → IsOtherVersion found (content old.disk JournalFile))
      → (Vouches (tells old.disk) → LeavesOnly moment left_since old.disk new
      (Reached JournalFile (MayOpen (content old.disk JournalFile)) (may_leave old.disk)))
      → tells new ≡ tells old.disk → faults old.disk ≤ faults new
      → (error ≡ errors.DiskFault → Rose (faults old.disk) (faults new))
      → Stops tells content may_leave moment left_since faults kind old new error
  stopped new error restart damage version moments telling later cause = record {
    restart = restart;
    honest = λ S is told. honest S is told error (damage told) (version told);
    any_moment = λ S is. keeps S is new moments;
    telling = telling;
    later = later;
    cause = cause;
  }

  -- one or the other
  pub reopened : (result : Result (StoreState D) (D × OpenError)) → kind ≡ Restart
      → IfOk result (λ new. (units : List UnitView) × (L : Ledger) × IsLedgerOf units L
      × (IsTrue (tells old.disk).content → HasUnits units (content old.disk JournalFile))
      × Restarts (λ us M. StandsFor tells content may_leave None us M new) units L (restarted L))
      → IfOk result (λ new. new.max ≡ old.max)
      → (IsTrue (tells old.disk).content → IfErr result (λ back. (file : ℕ) (at : ℕ) → back.1 ≡ errors.Damaged file at
      → (file ≡ 0) × (IsDamaged at (content old.disk JournalFile) ⊎ IsRefusedAt at (content old.disk JournalFile))))
      → (IsTrue (tells old.disk).content → IfErr result (λ back. (found : ℕ) → back.1 ≡ errors.OtherVersion found
      → IsOtherVersion found (content old.disk JournalFile)))
      → (Vouches (tells old.disk) → LeavesOnly moment left_since old.disk (disk_of result)
      (Reached JournalFile (MayOpen (content old.disk JournalFile)) (may_leave old.disk)))
      → tells (disk_of result) ≡ tells old.disk → faults old.disk ≤ faults (disk_of result)
      → IfErr result (λ back. back.1 ≡ errors.DiskFault → Rose (faults old.disk) (faults back.0))
      → ReadiesOrStops tells content may_leave moment left_since faults kind old result
  reopened (Ok new) restart opened max damage version moments telling later cause =
      readied new restart opened max moments telling later
  reopened (Err back) restart opened max damage version moments telling later cause =
      stopped back.0 back.1 restart damage version moments telling later cause

  -- nothing was to be opened
  module _ (only_now : (disk : D) (image : Folder) → left_since disk (moment disk) image → may_leave disk image) where
    pub readied_as_is : (kind ≡ Restart → ⊥) → Readies tells content may_leave moment left_since faults kind old old
    readied_as_is not = record {
      state = λ S is. (S, is, λ restart. absurd (not restart), λ other. refl);
      any_moment = λ S is vouches. as_it_is tells content may_leave moment left_since only_now IsRestart S old is vouches;
      max = refl;
      telling = refl;
      later = omega arith;
    }
