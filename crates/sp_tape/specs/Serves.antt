-- What the code knows of one turn.
use Rattle.std.specs.Prelude.{◌≡◌, ◌≢◌, ◌⊎◌, ◌≤◌, ⊤, ℕ, Bool, IsTrue, List, ◌++◌, Option, Some, None, Result, Ok, Err, if◌then◌else◌}
use Rattle.std.specs.Io.KnownBytes.{Appends}
use Rattle.sp_base.specs.Causes.{Rose}
use Rattle.sp_disk.specs.Disk.{Folder, Telling}
use Rattle.sp_disk.specs.Everywhere.{Became, Vouches}
use Rattle.sp_disk.specs.Moments.{LeavesOnly}
use Rattle.sp_disk.specs.declared.disk.File.TheVariants.{Journal as JournalFile}
use Rattle.sp_event.specs.declared.answer.Answered.{Answered}
use Rattle.sp_event.specs.declared.answer.Answered.TheVariants.{Gave}
use Rattle.sp_event.specs.declared.answer.Reply.TheVariants as replies
use Rattle.sp_event.specs.declared.request.Ask.{Ask}
use Rattle.sp_event.specs.declared.request.Ask.TheVariants.{Do}
use Rattle.sp_event.specs.declared.request.Event.{Event}
use Rattle.sp_journal.specs.declared.journal.OpenError.{OpenError}
use Rattle.sp_journal.specs.declared.journal.OpenError.TheVariants as errors
use Rattle.sp_ledger.specs.Ledger.{Ledger}
use Rattle.sp_store.specs.State.{StandsFor, StoreState}
use Rattle.sp_store.specs.Units.{Accepts}
use Rattle.sp_tape.specs.declared.entry.Entry.{Entry}
use Rattle.sp_tape.specs.declared.entry.Kind.{Kind}
use Rattle.sp_tape.specs.declared.entry.Kind.TheVariants as kinds
use Rattle.sp_tape.specs.declared.turn.Served.{Served}
use Rattle.sp_tape.specs.declared.turn.Served.TheVariants as served
use Rattle.sp_tape.specs.Acts.{ActsAs, AnswersAsk, IsUnitOf, LacksMemory, Told, unit_of}
use Rattle.sp_tape.specs.Run.{line_at}
use Rattle.sp_tape.specs.Runs.{RoseBy, is_fault}
use Rattle.sp_tape.specs.State.{RunState, BeginsAgain, IsRestart, MayLeave}
use Rattle.sp_unit.specs.UnitBytes.{UnitView}

-- some front of the text was written, and nothing else
abbrev pub WritesFront : Option (List ℕ) → Option (List ℕ) → List ℕ → Type 0
WritesFront old new text = (front : List ℕ) × (rest : List ℕ) × (text ≡ front ++ rest) × Appends old new front

-- what was written of a line, by how the turn ended
abbrev pub WritesLine : Option (List ℕ) → Option (List ℕ) → List ℕ → Served → Type 0
WritesLine old new line served.Done = Appends old new line
WritesLine old new line served.Fault = WritesFront old new line
WritesLine old new line served.Memory = new ≡ old

-- a request was answered, or memory was wanting
abbrev pub MayAnswer : Bool → ℕ → ℕ → List ℕ → Ask → RunState → Told → Type 0
MayAnswer trusted most moment caller ask S t = AnswersAsk trusted most moment caller ask S t ⊎ LacksMemory S t

-- an entry's answer; a restart's store was opened before
abbrev pub AnswersAs : Bool → ℕ → Kind → Entry → RunState → Told → Type 0
AnswersAs trusted most kinds.Restart e S t = (t.answered ≡ Gave replies.Restart) × (t.after ≡ S)
AnswersAs trusted most kind e S t = ActsAs trusted most kind e S t

-- the units that a request, and an entry, may write
abbrev pub IsUnitOfAsk : ℕ → List ℕ → Ask → UnitView → Type 0
IsUnitOfAsk moment caller ask unit = (event : Event) × (ask ≡ Do event) × (unit ≡ unit_of moment caller event)

abbrev pub IsUnitOfFlow : Entry → UnitView → Type 0
IsUnitOfFlow e unit = (e.kind ≢ kinds.Restart) × IsUnitOf e unit

-- an unsure unit is accepted on the ledger
abbrev pub IsNext : Option UnitView → Ledger → Type 0
IsNext None L = ⊤
IsNext (Some unit) L = (M : Ledger) × Accepts unit L M

-- one where a fault of the disk is told
abbrev pub fault_count : Answered → ℕ
fault_count answered = if is_fault answered then 1 else 0

module _ {D : Type 0} (tells : D → Telling) (content : D → Folder) (may_leave : D → Folder → Type 0) where
  -- the store stands for the state of a run
  pub record IsIn (S : RunState) (store : StoreState D) : Type 0 where
    pub stands : StandsFor tells content may_leave S.unsure S.units S.ledger store
    pub next : IsNext S.unsure S.ledger

  module _ (moment : D → ℕ) (left_since : D → ℕ → Folder → Type 0) where
    -- a crash at any moment leaves the units of the state, and maybe one of these
    abbrev pub KeepsTo : (UnitView → Type 0) → RunState → D → D → Type 0
    KeepsTo One S old new = Vouches (tells old) →
        LeavesOnly moment left_since old new (Became JournalFile (MayLeave One S) (may_leave old))

    -- an answer that has P, and the store after it
    pub record Leaves (faults : D → ℕ) (P : RunState → Told → Type 0) (One : UnitView → Type 0) (old new : StoreState D)
        (answered : Answered) : Type 0 where
      pub answers : (S : RunState) → IsIn S old →
          (T : RunState) × P S (record { answered = answered; after = T }) × IsIn T new
      pub any_moment : (S : RunState) → IsIn S old → KeepsTo One S old.disk new.disk
      pub max : new.max ≡ old.max
      pub telling : tells new.disk ≡ tells old.disk
      pub later : faults old.disk ≤ faults new.disk
      pub fault : RoseBy (fault_count answered) (faults old.disk) (faults new.disk)

    -- an answer was given, and its line was written as far as the turn's end says
    pub record Serves (faults : D → ℕ) (e : Entry) (old new : StoreState D) (wrote_old wrote_new : Option (List ℕ))
        (ended : Served) : Type 0 where
      pub answered : Answered
      pub leaves : Leaves faults (AnswersAs (tells old.disk).content old.max e.kind e) (IsUnitOfFlow e) old new answered
      pub wrote : (T : RunState) → IsIn T new →
          WritesLine wrote_old wrote_new (line_at (record { answered = answered; after = T })) ended

    -- the store in which an entry is carried out: a restart's is opened again
    pub record Readies (faults : D → ℕ) (kind : Kind) (old new : StoreState D) : Type 0 where
      pub state : (S : RunState) → IsIn S old → (T : RunState) × IsIn T new
          × (kind ≡ kinds.Restart → BeginsAgain (tells old.disk).content S T) × (kind ≢ kinds.Restart → T ≡ S)
      pub any_moment : (S : RunState) → IsIn S old → KeepsTo IsRestart S old.disk new.disk
      pub max : new.max ≡ old.max
      pub telling : tells new.disk ≡ tells old.disk
      pub later : faults old.disk ≤ faults new.disk

    -- a restart's store wasn't opened again
    pub record Stops (faults : D → ℕ) (kind : Kind) (old : StoreState D) (new : D) (error : OpenError) : Type 0 where
      pub restart : kind ≡ kinds.Restart
      pub honest : (S : RunState) → IsIn S old → IsTrue (tells old.disk).content →
          (error ≡ errors.DiskFault) ⊎ (error ≡ errors.Memory)
      pub any_moment : (S : RunState) → IsIn S old → KeepsTo IsRestart S old.disk new
      pub telling : tells new ≡ tells old.disk
      pub later : faults old.disk ≤ faults new
      pub cause : error ≡ errors.DiskFault → Rose (faults old.disk) (faults new)

    abbrev pub ReadiesOrStops : (D → ℕ) → Kind → StoreState D → Result (StoreState D) (D × OpenError) → Type 0
    ReadiesOrStops faults kind old (Ok new) = Readies faults kind old new
    ReadiesOrStops faults kind old (Err back) = Stops faults kind old back.0 back.1
