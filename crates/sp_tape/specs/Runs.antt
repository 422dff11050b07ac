-- How a run over a tape ends.
use Rattle.std.specs.Prelude.{◌≡◌, ◌≢◌, ◌≤◌, ◌⊎◌, ℕ, ◌+◌, ◌-◌, ◌^◌, Bool, true, false, IsTrue, List, [], ◌∷◌, ◌++◌, length, All, Option, count_by, min, unwrap_or, ⊤}
use Rattle.std.specs.Io.KnownBytes.{Appends, IsAtEnd}
use Rattle.sp_disk.specs.Disk.{Folder, Telling}
use Rattle.sp_disk.specs.Everywhere.{Became, Reached, Vouches}
use Rattle.sp_disk.specs.Moments.{LeavesOnly}
use Rattle.sp_disk.specs.declared.disk.File.TheVariants.{Journal as JournalFile}
use Rattle.sp_event.specs.declared.answer.Answered.{Answered}
use Rattle.sp_event.specs.declared.answer.Answered.TheVariants as answers
use Rattle.sp_ledger.specs.Sound.{IsLedger}
use Rattle.sp_store.specs.Opening.{MayOpen}
use Rattle.sp_tape.specs.declared.entry.Entry.{Entry}
use Rattle.sp_tape.specs.declared.entry.Kind.TheVariants.{Restart}
use Rattle.sp_tape.specs.declared.status.Status.{Status}
use Rattle.sp_tape.specs.declared.status.Status.TheVariants.{Done, Usage, BadTape, ReadFault, WriteFault, DiskFault, Damaged, Memory, OtherVersion}
use Rattle.sp_tape.specs.Entry.{entry_text, HasNoEntry, IsEntry}
use Rattle.sp_tape.specs.Fates.{AnswerHolds}
use Rattle.sp_tape.specs.Order.{IsInOrder}
use Rattle.sp_tape.specs.Reading.{Left, IsRefused, IsReadWhileUnfinished}
use Rattle.sp_tape.specs.Run.{Turn, IsRun, MightHaveLeft, answers_of, state_after, tape_of, output_of}
use Rattle.sp_tape.specs.State.{RunState, Begins, IsRestart, MayLeave}

-- where an entry must end: at or before this byte of the tape
abbrev pub longest_tape : ℕ
longest_tape = 2 ^ 40

-- bytes of which no prefix is an entry, and what was read of them, which tells it
pub record IsBad (room : ℕ) (left : Option (List ℕ)) (rest : List ℕ) : Type 0 where
  pub some : rest ≢ []
  pub none : HasNoEntry room rest
  -- they are what was read, and what the source still has
  pub read : List ℕ
  pub split : rest ≡ read ++ unwrap_or left []
  -- the source ended, or no continuation of what was read is an entry
  pub refused : IsRefused room left read
  -- and it was read no further than one read past an unfinished front
  pub no_further : IsReadWhileUnfinished room read

-- bytes that begin with a restart entry
pub record BeginsWithRestart (rest : List ℕ) : Type 0 where
  pub entry : Entry
  pub valid : IsEntry entry
  pub kind : entry.kind ≡ Restart
  pub behind : List ℕ
  pub bytes : rest ≡ entry_text entry ++ behind

-- what stands on the tape behind the entries that were answered: nothing, and the source is at its end; bytes of which
-- no prefix is an entry; a restart at which the journal wasn't opened; or anything. Where the disk tells its content, a
-- restart finds the journal as the run left it
abbrev pub Ends : Bool → Option (List ℕ) → List ℕ → ℕ → ℕ → Status → Type 0
Ends trusted left rest count offset Done = (rest ≡ []) × IsAtEnd left
Ends trusted left rest count offset Usage = ⊥
Ends trusted left rest count offset (BadTape entry at) =
    IsBad (longest_tape - offset) left rest × (entry ≡ count + 1) × (at ≡ offset)
Ends trusted left rest count offset ReadFault = Unit {0}
Ends trusted left rest count offset WriteFault = Unit {0}
Ends trusted left rest count offset DiskFault = BeginsWithRestart rest
Ends trusted left rest count offset (Damaged file at) = BeginsWithRestart rest × (IsTrue trusted → ⊥)
Ends trusted left rest count offset Memory = Unit {0}
Ends trusted left rest count offset (OtherVersion found) = BeginsWithRestart rest × (IsTrue trusted → ⊥)

-- the lines of all entries before the last are written whole, and of those of the last one a front
pub record WritesIntoLast (old new : Option (List ℕ)) (turns : List Turn) : Type 0 where
  pub before : List Turn
  pub last : Turn
  pub split : turns ≡ before ++ last ∷ []
  pub front : List ℕ
  pub rest : List ℕ
  pub lines : output_of (last ∷ []) ≡ front ++ rest
  pub wrote : Appends old new (output_of before ++ front)

-- the lines of all entries before the last are written, and none of the last one's
pub record WritesNoneOfLast (old new : Option (List ℕ)) (turns : List Turn) : Type 0 where
  pub before : List Turn
  pub last : Turn
  pub split : turns ≡ before ++ last ∷ []
  pub wrote : Appends old new (output_of before)

-- the lines that were written: all; but where a write failed, a front of the last entry's; and where memory was
-- wanting for the last entry's line, maybe none of it, though the entry was carried out
abbrev pub Wrote : Option (List ℕ) → Option (List ℕ) → List Turn → Status → Type 0
Wrote old new turns WriteFault = WritesIntoLast old new turns
Wrote old new turns Memory = Appends old new (output_of turns) ⊎ WritesNoneOfLast old new turns
Wrote old new turns status = Appends old new (output_of turns)

-- whether an answer is that the disk failed
abbrev pub is_fault : Answered → Bool
is_fault answers.Disk = true
is_fault answered = false

-- how many faults of the disk were told, by answers and by the status
abbrev pub faults_told : List Turn → Status → ℕ
faults_told turns DiskFault = count_by (λ t. is_fault t.answered) (answers_of turns) + 1
faults_told turns status = count_by (λ t. is_fault t.answered) (answers_of turns)

-- a count of faults has risen by so many at least, or stands at its end
abbrev pub RoseBy : ℕ → ℕ → ℕ → Type 0
RoseBy times before now = min (before + times) (2 ^ 64 - 1) ≤ now

-- no restart stands among the entries, or the disk tells its content
abbrev pub GoesOn : Bool → List Turn → Type 0
GoesOn trusted turns = All (λ t. t.entry.kind ≡ Restart → IsTrue trusted) turns

-- why a journal isn't opened
abbrev pub IsOpenError : Status → Type 0
IsOpenError DiskFault = ⊤
IsOpenError (Damaged file at) = ⊤
IsOpenError (OtherVersion found) = ⊤
IsOpenError Memory = ⊤
IsOpenError status = ⊥

-- a run from a state over the entries of a tape, by what the disk tells of itself and how often it had failed before,
-- and what the source has left of the tape
pub record Goes {D : Type 0} (may_leave : D → Folder → Type 0) (faults : D → ℕ) (telling : Telling) (failed most : ℕ)
    (start : RunState) (new : D) (tape left written_old written_new : Option (List ℕ)) (status : Status) : Type 0 where
  -- the entries that were carried out, one after another, each in the state that the one before left
  pub turns : List Turn
  pub run : IsRun telling.content most start turns
  -- in the ledger after each answer every copy has one fate, what is held is spooled and held by one bound flow, on an
  -- exclusive endpoint by the first, and no two flows hold copies of one partition of a partitioned queue
  pub sound : All (λ t. IsLedger t.after.ledger) (answers_of turns)
  -- each copy that an answer told of has one fate in the ledger at the end, what was told of it holds there,
  -- and each tally adds up
  pub holds : GoesOn telling.content turns →
      All (λ t. AnswerHolds (state_after start turns).ledger t.answered) (answers_of turns)
  -- of two copies of one partition that a flow can reach, no pull hands out the later without the earlier
  pub order : IsInOrder start turns
  -- the tape is those entries and then the rest, where the source tells it
  pub rest : List ℕ
  pub read : Left tape (tape_of turns ++ rest)
  pub fits : length (tape_of turns) ≤ longest_tape
  pub ends : Ends telling.content left rest (length turns) (length (tape_of turns)) status
  -- the lines of the answers were written
  pub wrote : Wrote written_old written_new turns status
  -- each fault that was told is one of the disk's
  pub fault : RoseBy (faults_told turns status) failed (faults new)
  -- a crash now leaves the units of all that was acknowledged
  pub crash : Vouches telling → (image : Folder) → may_leave new image →
      MayLeave IsRestart (state_after start turns) (image JournalFile)

-- what is in a run's journal at a moment: as at an opening of these bytes, or what one of its states may leave
abbrev pub IsOnTheWay : List ℕ → RunState → List Turn → List ℕ → List ℕ → Type 0
IsOnTheWay file start turns old new = MayOpen file old new ⊎ MightHaveLeft start turns new

-- by what the disk tells of itself
module _ {D : Type 0} (tells : D → Telling) (content : D → Folder) (may_leave : D → Folder → Type 0) (moment : D → ℕ)
    (left_since : D → ℕ → Folder → Type 0) (faults : D → ℕ) (old new : D) where
  -- a run from the ledger of the journal
  pub record Runs (most : ℕ) (tape left written_old written_new : Option (List ℕ)) (status : Status) : Type 0 where
    -- the state that the opening left
    pub start : RunState
    pub begins : Begins (tells old).content (content old JournalFile) start
    pub goes : Goes may_leave faults (tells old) (faults old) most start new tape left written_old written_new status
    -- a crash at any moment of the run leaves what the run's states may leave
    pub any_moment : Vouches (tells old) → LeavesOnly moment left_since old new
        (Reached JournalFile (IsOnTheWay (content old JournalFile) start goes.turns) (may_leave old))

  -- the journal wasn't opened: nothing was read, and nothing written
  pub record FailsToOpen (tape left written_old written_new : Option (List ℕ)) (status : Status) : Type 0 where
    pub cause : IsOpenError status
    pub read : left ≡ tape
    pub wrote : written_new ≡ written_old
    pub fault : RoseBy (faults_told [] status) (faults old) (faults new)
    pub any_moment : Vouches (tells old) → LeavesOnly moment left_since old new
        (Reached JournalFile (MayOpen (content old JournalFile)) (may_leave old))

  -- one or the other
  abbrev pub RunsOrFails : ℕ → Option (List ℕ) → Option (List ℕ) → Option (List ℕ) → Option (List ℕ) → Status → Type 0
  RunsOrFails most tape left written_old written_new status =
      Runs most tape left written_old written_new status ⊎ FailsToOpen tape left written_old written_new status

  -- a run from the state for which an opened store stands
  pub record GoesFrom (most : ℕ) (start : RunState) (tape left written_old written_new : Option (List ℕ)) (status : Status)
      : Type 0 where
    pub goes : Goes may_leave faults (tells old) (faults old) most start new tape left written_old written_new status
    pub any_moment : Vouches (tells old) → LeavesOnly moment left_since old new
        (Became JournalFile (MightHaveLeft start goes.turns) (may_leave old))
