-- How a run over a store ends.
use Rattle.std.proofs.Common.{◌≡◌, ◌⊎◌, ◌≤◌, ◌+◌, ◌-◌, ℕ, All, List, [], ◌∷◌, ◌++◌, Option, IsTrue, length, arith, inl, inr, refl, sym, subst}
use Rattle.std.specs.Option.{unwrap_or}
use Rattle.sp_base.specs.Causes.{Rose}
use Rattle.sp_disk.specs.Disk.{Folder, Telling}
use Rattle.sp_disk.specs.Everywhere.{Reached, Vouches}
use Rattle.sp_disk.specs.Moments.{LeavesOnly}
use Rattle.sp_disk.specs.declared.disk.File.TheVariants.{Journal as JournalFile}
use Rattle.sp_disk.proofs.EverywhereLemmas.{followed}
use Rattle.sp_journal.specs.declared.journal.OpenError.{OpenError}
use Rattle.sp_journal.specs.declared.journal.OpenError.TheVariants as errors
use Rattle.sp_store.specs.Opening.{MayOpen}
use Rattle.sp_store.specs.State.{StoreState}
use Rattle.sp_tape.specs.declared.status.Status.{Status}
use Rattle.sp_tape.specs.declared.status.Status.TheVariants.{Done, BadTape, ReadFault, WriteFault, DiskFault, Damaged, Memory, OtherVersion}
use Rattle.sp_tape.specs.declared.parse.Found.{Found}
use Rattle.sp_tape.specs.declared.reader.Next.TheVariants as next
use Rattle.sp_tape.specs.declared.turn.Served.{Served}
use Rattle.sp_tape.specs.declared.turn.Served.TheVariants as served
use Rattle.sp_tape.specs.Acts.{Acts, Told}
use Rattle.sp_tape.specs.Entry.{entry_text}
use Rattle.sp_tape.specs.Reading.{Comes}
use Rattle.sp_tape.specs.Status.{status_of}
use Rattle.sp_tape.specs.Fates.{AnswerHolds}
use Rattle.sp_tape.specs.Run.{IsRun, MightHaveLeft, Turn, answers_of, line_at, state_after, tape_of}
use Rattle.sp_tape.specs.Runs.{BeginsWithRestart, Ends, Goes, GoesFrom, GoesOn, IsOnTheWay, IsOpenError, RoseBy, Runs, RunsOrFails, Wrote, faults_told, longest_tape}
use Rattle.sp_ledger.specs.Sound.{IsLedger}
use Rattle.sp_tape.specs.Serves.{IsIn, KeepsTo, Readies, Serves, Stops, WritesLine}
use Rattle.sp_tape.specs.State.{Begins, IsRestart, MayLeave, RunState}
use Rattle.sp_tape.proofs.Left.{now_left}
use Rattle.sp_tape.proofs.SoFar.{Disked, SoFar, begins, ends_bad, ends_done, ends_memory, ends_read_fault, ends_stopped, ends_unwritten, ends_write_fault, goes_on, goes_on_turns, state_after-push, told_faults, turn_of}
use Rattle.sp_tape.proofs.Turned.{Going, OnTheWay, acts, at_first, t, turned, way_stopped}

module _ {D : Type 0} (tells : D → Telling) (content : D → Folder) (may_leave : D → Folder → Type 0) (moment : D → ℕ)
    (left_since : D → ℕ → Folder → Type 0) (faults : D → ℕ)
    (only_now : (disk : D) (image : Folder) → left_since disk (moment disk) image → may_leave disk image)
    (counts_now : (disk : D) (since : ℕ) (image : Folder) → since ≤ moment disk → may_leave disk image → left_since disk since image)
    (first : D) (most : ℕ) (start : RunState) where
  abbrev Goes_on : List Turn → StoreState D → Type 0
  Goes_on turns store = Going tells content may_leave moment left_since faults only_now counts_now first most start turns store

  abbrev Disk_at : D → List Turn → Status → Type 0
  Disk_at new turns status = Disked may_leave faults (tells first) (faults first) most start new turns status

  -- it ends with the store
  pub disked : (turns : List Turn) (store : StoreState D) → Goes_on turns store → (status : Status)
      → faults_told turns status ≡ told_faults turns → Disk_at store.disk turns status
  disked turns store going status same = record {
    fault = subst (λ (n : ℕ). RoseBy n (faults first) (faults store.disk)) (sym same) going.fault;
    crash = λ vouches image left.
        now_left tells content may_leave IsRestart (state_after start turns) store going.stands
        (subst Vouches (sym going.telling) vouches) image left;
  }

  -- it ends at a restart
  pub disked_stopped : (turns : List Turn) (old : StoreState D) (new : D) → Goes_on turns old
      → KeepsTo tells content may_leave moment left_since IsRestart (state_after start turns) old.disk new
      → (status : Status) → RoseBy (faults_told turns status) (faults first) (faults new) → Disk_at new turns status
  disked_stopped turns old new going keeps status fault = record {
    fault = fault;
    crash = λ vouches image left.
        let moments = keeps (subst Vouches (sym going.telling) vouches) in
        (moments.each image (counts_now new (moment old.disk) image moments.later left)).2;
  }

  pub gone : (turns : List Turn) (new : D) (status : Status) (lo ln wo wn : Option (List ℕ))
      → OnTheWay tells content may_leave moment left_since faults only_now counts_now first most start turns new
      → (g : Goes may_leave faults (tells first) (faults first) most start new lo ln wo wn status) × (g.turns ≡ turns)
      → GoesFrom tells content may_leave moment left_since faults first new most start lo ln wo wn status
  gone turns new status lo ln wo wn way (g, same) = record {
    goes = g;
    any_moment = subst (λ (ts : List Turn). OnTheWay tells content may_leave moment left_since faults only_now counts_now first most start ts new)
        (sym same) way;
  }

  abbrev pub From : D → Status → Option (List ℕ) → Option (List ℕ) → Option (List ℕ) → Option (List ℕ) → Type 0
  From new status lo ln wo wn =
      GoesFrom tells content may_leave moment left_since faults first new most start lo ln wo wn status

  -- between two entries
  pub record Between (lo ln wo wn : Option (List ℕ)) (waiting : List ℕ) (count offset : ℕ) (store : StoreState D) : Type 0 where
    pub so_far : SoFar (tells first).content most start lo ln wo wn waiting count offset
    pub going : Goes_on so_far.turns store

  pub begins_between : (left written : Option (List ℕ)) (store : StoreState D) → store.disk ≡ first → store.max ≡ most
      → IsIn tells content may_leave start store → IsLedger start.ledger → Between left left written written [] 0 0 store
  begins_between left written store same max is begun = record {
    so_far = begins (tells first).content most start left written begun is.stands.is_ledger;
    going = at_first tells content may_leave moment left_since faults only_now counts_now first most start store same max is;
  }

  module _ (lo ll ln wo wl wn : Option (List ℕ)) (waiting left : List ℕ) (n at : ℕ) (store : StoreState D)
      (b : Between lo ll wo wl waiting n at store) where
    abbrev here : List Turn
    here = b.so_far.turns

    ends_here : (status : Status) → faults_told here status ≡ told_faults here
        → (Disk_at store.disk here status → (g : Goes may_leave faults (tells first) (faults first) most start store.disk lo ln wo wl status) × (g.turns ≡ here))
        → From store.disk status lo ln wo wl
    ends_here status same ends =
        gone here store.disk status lo ln wo wl b.going.any_moment (ends (disked here store b.going status same))

    pub at_end : (room : ℕ) → Comes room ll ln waiting left next.End → From store.disk Done lo ln wo wl
    at_end room came =
        ends_here Done refl
        (ends_done may_leave faults (tells first) (faults first) most start store.disk lo ll ln wo wl wn waiting left n at b.so_far room came)

    pub at_bad : Comes (longest_tape - at) ll ln waiting left next.Bad → From store.disk (BadTape (n + 1) at) lo ln wo wl
    at_bad came =
        ends_here (BadTape (n + 1) at) refl
        (ends_bad may_leave faults (tells first) (faults first) most start store.disk lo ll ln wo wl wn waiting left n at b.so_far came)

    pub at_fault : From store.disk ReadFault lo ln wo wl
    at_fault =
        ends_here ReadFault refl
        (ends_read_fault may_leave faults (tells first) (faults first) most start store.disk lo ll ln wo wl wn waiting left n at b.so_far)

    pub at_memory : From store.disk Memory lo ln wo wl
    at_memory =
        ends_here Memory refl
        (ends_memory may_leave faults (tells first) (faults first) most start store.disk lo ll ln wo wl wn waiting left n at b.so_far)

    module _ (found : Found) (came : Comes (longest_tape - at) ll ln waiting left (next.Found found)) where
      -- a restart's journal wasn't opened
      module _ (new : D) (error : OpenError)
          (stops : Stops tells content may_leave moment left_since faults found.entry.kind store new error) where
        keeps : KeepsTo tells content may_leave moment left_since IsRestart (state_after start here) store.disk new
        keeps = stops.any_moment (state_after start here) b.going.stands

        stops_with : (status : Status)
            → (BeginsWithRestart (entry_text found.entry ++ left ++ unwrap_or ln []) →
            Ends (tells first).content ln (entry_text found.entry ++ left ++ unwrap_or ln []) (length here) (length (tape_of here)) status)
            → Wrote wo wl here status → RoseBy (faults_told here status) (faults first) (faults new)
            → From new status lo ln wo wl
        stops_with status ended wrote fault =
            gone here new status lo ln wo wl
            (way_stopped tells content may_leave moment left_since faults only_now counts_now first most start here store new b.going keeps)
            (ends_stopped may_leave faults (tells first) (faults first) most start new lo ll ln wo wl wn waiting left n at b.so_far found came
            status stops.restart ended wrote (disked_stopped here store new b.going keeps status fault))

        no_other : IsTrue (tells first).content → (error ≡ errors.DiskFault) ⊎ (error ≡ errors.Memory)
        no_other told =
            stops.honest (state_after start here) b.going.stands
            (subst (λ (t : Telling). IsTrue t.content) (sym b.going.telling) told)

        -- the count after a failed opening
        still : RoseBy (told_faults here) (faults first) (faults new)
        still = omega (arith, b.going.fault, stops.later)

      pub at_stop : (new : D) (error : OpenError)
          → Stops tells content may_leave moment left_since faults found.entry.kind store new error
          → From new (status_of error) lo ln wo wl
      at_stop new errors.DiskFault stops =
          stops_with new errors.DiskFault stops DiskFault (λ is. is) b.so_far.wrote
          (omega (arith, b.going.fault, stops.cause refl))
      at_stop new errors.Memory stops =
          stops_with new errors.Memory stops Memory (λ is. tt) (inl b.so_far.wrote) (still new errors.Memory stops)
      at_stop new (errors.Damaged file place) stops =
          stops_with new (errors.Damaged file place) stops (Damaged file place)
          (λ is. (is, λ told. neither (no_other new (errors.Damaged file place) stops told))) b.so_far.wrote
          (still new (errors.Damaged file place) stops)
        where
          neither : (errors.Damaged file place ≡ errors.DiskFault) ⊎ (errors.Damaged file place ≡ errors.Memory) → ⊥
          neither (inl is) = absurd cc
          neither (inr is) = absurd cc
      at_stop new (errors.OtherVersion version) stops =
          stops_with new (errors.OtherVersion version) stops (OtherVersion version)
          (λ is. (is, λ told. neither (no_other new (errors.OtherVersion version) stops told))) b.so_far.wrote
          (still new (errors.OtherVersion version) stops)
        where
          neither : (errors.OtherVersion version ≡ errors.DiskFault) ⊎ (errors.OtherVersion version ≡ errors.Memory) → ⊥
          neither (inl is) = absurd cc
          neither (inr is) = absurd cc

      -- the entry was answered
      module _ (ready new : StoreState D)
          (readies : Readies tells content may_leave moment left_since faults found.entry.kind store ready) where
        module _ (ended : Served) (serves : Serves tells content may_leave moment left_since faults found.entry ready new wl wn ended) where
          abbrev answered : Told
          answered = t tells content may_leave moment left_since faults only_now counts_now first most start here found.entry store ready new
              serves.answered b.going readies serves.leaves

          abbrev all : List Turn
          all = here ++ turn_of found.entry answered ∷ []

          went : Goes_on all new
          went = turned tells content may_leave moment left_since faults only_now counts_now first most start here found.entry store ready new
              serves.answered b.going readies serves.leaves

          does : Acts (tells first).content most found.entry (state_after start here) (answered ∷ [])
          does = acts tells content may_leave moment left_since faults only_now counts_now first most start here found.entry store ready new
              serves.answered b.going readies serves.leaves

          wrote : WritesLine wl wn (line_at answered) ended
          wrote = serves.wrote answered.after (subst (λ (U : RunState). IsIn tells content may_leave U new)
              (state_after-push start here (turn_of found.entry answered)) went.stands)

          finishes : (status : Status) → faults_told all status ≡ told_faults all
              → (Disk_at new.disk all status → (g : Goes may_leave faults (tells first) (faults first) most start new.disk lo ln wo wn status) × (g.turns ≡ all))
              → From new.disk status lo ln wo wn
          finishes status same ends = gone all new.disk status lo ln wo wn went.any_moment (ends (disked all new went status same))

        pub goes_between : Serves tells content may_leave moment left_since faults found.entry ready new wl wn served.Done
            → Between lo ln wo wn left (n + 1) (at + found.used) new
        goes_between serves = record {
          so_far = goes_on may_leave faults (tells first) (faults first) most start new.disk lo ll ln wo wl wn waiting left n at b.so_far
              found came (answered served.Done serves) (does served.Done serves) (wrote served.Done serves);
          going = subst (λ (ts : List Turn). Goes_on ts new) (sym (goes_on_turns may_leave faults (tells first) (faults first) most start
              new.disk lo ll ln wo wl wn waiting left n at b.so_far found came (answered served.Done serves)
              (does served.Done serves) (wrote served.Done serves))) (went served.Done serves);
        }

        pub at_write_fault : Serves tells content may_leave moment left_since faults found.entry ready new wl wn served.Fault
            → From new.disk WriteFault lo ln wo wn
        at_write_fault serves =
            finishes served.Fault serves WriteFault refl
            (ends_write_fault may_leave faults (tells first) (faults first) most start new.disk lo ll ln wo wl wn waiting left n at b.so_far
            found came (answered served.Fault serves) (does served.Fault serves) (wrote served.Fault serves))

        pub at_unwritten : Serves tells content may_leave moment left_since faults found.entry ready new wl wn served.Memory
            → From new.disk Memory lo ln wo wn
        at_unwritten serves =
            finishes served.Memory serves Memory refl
            (ends_unwritten may_leave faults (tells first) (faults first) most start new.disk lo ll ln wo wl wn waiting left n at b.so_far
            found came (answered served.Memory serves) (does served.Memory serves) (wrote served.Memory serves))

  -- a run of a store that was opened finds no damage where the disk tells its content
  pub from_no_damage : (new : D) (status : Status) (lo ln wo wn : Option (List ℕ)) (file at : ℕ) → status ≡ Damaged file at
      → IsTrue (tells first).content → From new status lo ln wo wn → ⊥
  from_no_damage new status lo ln wo wn file at is told from =
      (subst (λ (s : Status). Ends (tells first).content ln from.goes.rest (length from.goes.turns) (length (tape_of from.goes.turns)) s)
      is from.goes.ends).1 told

  pub from_no_version : (new : D) (status : Status) (lo ln wo wn : Option (List ℕ)) (found : ℕ) → status ≡ OtherVersion found
      → IsTrue (tells first).content → From new status lo ln wo wn → ⊥
  from_no_version new status lo ln wo wn found is told from =
      (subst (λ (s : Status). Ends (tells first).content ln from.goes.rest (length from.goes.turns) (length (tape_of from.goes.turns)) s)
      is from.goes.ends).1 told

  -- a run of an opened store is a run of the disk that was opened
  pub opened_run : (old new : D) (status : Status) (lo ln wo wn : Option (List ℕ)) → tells first ≡ tells old
      → faults old ≤ faults first
      → (Vouches (tells old) → LeavesOnly moment left_since old first
      (Reached JournalFile (MayOpen (content old JournalFile)) (may_leave old)))
      → Begins (tells old).content (content old JournalFile) start
      → GoesFrom tells content may_leave moment left_since faults first new most start lo ln wo wn status
      → Runs tells content may_leave moment left_since faults old new most lo ln wo wn status
  opened_run old new status lo ln wo wn telling later opened begins from =
      let g = from.goes in
      record {
        start = start;
        begins = begins;
        goes = record {
          turns = g.turns;
          run = subst (λ (t : Telling). IsRun t.content most start g.turns) telling g.run;
          sound = g.sound;
          holds = subst (λ (t : Telling). GoesOn t.content g.turns →
              All (λ t. AnswerHolds (state_after start g.turns).ledger t.answered) (answers_of g.turns)) telling g.holds;
          order = g.order;
          rest = g.rest;
          read = g.read;
          fits = g.fits;
          ends = subst (λ (t : Telling). Ends t.content ln g.rest (length g.turns) (length (tape_of g.turns)) status) telling g.ends;
          wrote = g.wrote;
          fault = omega (arith, g.fault, later);
          crash = subst (λ (t : Telling). Vouches t → (image : Folder) → may_leave new image →
              MayLeave IsRestart (state_after start g.turns) (image JournalFile)) telling g.crash;
        };
        any_moment = λ vouches.
            followed moment left_since may_leave JournalFile counts_now old first new (MayOpen (content old JournalFile))
            (λ a. MightHaveLeft start from.goes.turns) (IsOnTheWay (content old JournalFile) start g.turns)
            (λ a b opens. inl opens) (λ a b c opens left. inr left) (opened vouches)
            (from.any_moment (subst Vouches (sym telling) vouches));
      }

-- why a journal wasn't opened
pub is_open_error : (error : OpenError) → IsOpenError (status_of error)
is_open_error errors.DiskFault = tt
is_open_error (errors.Damaged file at) = tt
is_open_error (errors.OtherVersion found) = tt
is_open_error errors.Memory = tt

pub open_fault : (error : OpenError) (before now : ℕ) → before ≤ now → (error ≡ errors.DiskFault → Rose before now)
    → RoseBy (faults_told [] (status_of error)) before now
open_fault errors.DiskFault before now later rose = rose refl
open_fault (errors.Damaged file at) before now later rose = omega (arith, later)
open_fault (errors.OtherVersion found) before now later rose = omega (arith, later)
open_fault errors.Memory before now later rose = omega (arith, later)

pub told_damage : (error : OpenError) (file at : ℕ) → status_of error ≡ Damaged file at → error ≡ errors.Damaged file at
told_damage errors.DiskFault file at is = absurd cc
told_damage (errors.Damaged f a) file at is = cc
told_damage (errors.OtherVersion found) file at is = absurd cc
told_damage errors.Memory file at is = absurd cc

pub told_version : (error : OpenError) (found : ℕ) → status_of error ≡ OtherVersion found → error ≡ errors.OtherVersion found
told_version errors.DiskFault found is = absurd cc
told_version (errors.Damaged f a) found is = absurd cc
told_version (errors.OtherVersion f) found is = cc
told_version errors.Memory found is = absurd cc

-- a status that tells a fault of the disk comes where the count rose
pub fault_rose : {D : Type 0} (tells : D → Telling) (content : D → Folder) (may_leave : D → Folder → Type 0) (moment : D → ℕ)
    (left_since : D → ℕ → Folder → Type 0) (faults : D → ℕ) (old new : D) (most : ℕ) (lo ln wo wn : Option (List ℕ))
    (status : Status) → RunsOrFails tells content may_leave moment left_since faults old new most lo ln wo wn status
    → status ≡ DiskFault → Rose (faults old) (faults new)
fault_rose tells content may_leave moment left_since faults old new most lo ln wo wn status (inl r) is =
    let f = subst (λ (s : Status). RoseBy (faults_told r.goes.turns s) (faults old) (faults new)) is r.goes.fault in
    omega (arith, f)
fault_rose tells content may_leave moment left_since faults old new most lo ln wo wn status (inr r) is =
    let f = subst (λ (s : Status). RoseBy (faults_told [] s) (faults old) (faults new)) is r.fault in omega (arith, f)
