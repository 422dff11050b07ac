-- A run over a tape, and what it writes.
use Rattle.std.specs.Prelude.{◌≡◌, ◌⊎◌, ℕ, ◌-◌, Bool, List, [], ◌∷◌, ◌++◌, flat_map}
use Rattle.sp_flowline.specs.Answers.{line_of}
use Rattle.sp_tape.specs.declared.entry.Entry.{Entry}
use Rattle.sp_tape.specs.Acts.{Acts, IsUnitOf, Told}
use Rattle.sp_tape.specs.Entry.{entry_text, IsEntry}
use Rattle.sp_tape.specs.State.{RunState, IsRestart, MayLeave}
use Rattle.sp_unit.specs.UnitBytes.{UnitView}

-- an entry and its answers, each with the state after it
pub record Turn : Type 0 where
  pub entry : Entry
  pub told : List Told

-- the state that answers left
abbrev pub state_left : RunState → List Told → RunState
state_left S [] = S
state_left S (t ∷ told) = state_left t.after told

-- each entry is answered in the state that the one before left
abbrev pub IsRun : Bool → ℕ → RunState → List Turn → Type 0
IsRun trusted most S [] = Unit {0}
IsRun trusted most S (t ∷ ts) =
    (IsEntry t.entry × Acts trusted most t.entry S t.told) × IsRun trusted most (state_left S t.told) ts

-- the state after a run
abbrev pub state_after : RunState → List Turn → RunState
state_after S [] = S
state_after S (t ∷ ts) = state_after (state_left S t.told) ts

-- the bytes of the entries
abbrev pub tape_of : List Turn → List ℕ
tape_of ts = flat_map (λ t. entry_text t.entry) ts

-- all answers of a run
abbrev pub answers_of : List Turn → List Told
answers_of ts = flat_map (λ t. t.told) ts

-- the line of an answer; the unit that it shows is the number of units after it
abbrev pub line_at : Told → List ℕ
line_at t = line_of t.answered (t.after.ledger.next.unit - 1)

-- the lines that answer the entries
abbrev pub output_of : List Turn → List ℕ
output_of ts = flat_map line_at (answers_of ts)

-- a unit that is being written: that of the next entry's event, or a restart's
abbrev pub IsBeingWritten : List Turn → UnitView → Type 0
IsBeingWritten [] unit = IsRestart unit
IsBeingWritten (t ∷ ts) unit = IsRestart unit ⊎ IsUnitOf t.entry unit

-- what a crash at a moment of a run might have left: the units of one of its states, and at most one more, which was
-- being written then
pub record MightHaveLeft (start : RunState) (turns : List Turn) (file : List ℕ) : Type 0 where
  pub before : List Turn
  pub behind : List Turn
  pub split : turns ≡ before ++ behind
  pub left : MayLeave (IsBeingWritten behind) (state_after start before) file
