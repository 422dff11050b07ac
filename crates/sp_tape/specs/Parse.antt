-- What the front of a tape is found to be.
use Rattle.std.specs.Prelude.{◌≡◌, ◌≢◌, ◌≤◌, ◌+◌, ℕ, List, [], ◌∷◌, ◌++◌, length, drop, Some, true, false}
use Rattle.sp_tape.specs.declared.head.Head.{Head}
use Rattle.sp_tape.specs.declared.parse.FirstLine.{FirstLine}
use Rattle.sp_tape.specs.declared.parse.Found.{Found}
use Rattle.sp_tape.specs.declared.parse.Parsed.{Parsed}
use Rattle.sp_tape.specs.declared.parse.Parsed.TheVariants as parsed
use Rattle.sp_tape.specs.Entry.{entry_text, head_text, IsEntry, IsHopeless}
use Rattle.sp_tape.specs.Head.{head_of}
use Rattle.sp_tape.specs.Unfinished.{is_unfinished}

-- the bytes begin with the entry, which takes so many of them
pub record IsFound (room : ℕ) (bytes : List ℕ) (found : Found) : Type 0 where
  pub entry : IsEntry found.entry
  pub front : bytes ≡ entry_text found.entry ++ drop found.used bytes
  pub used : length (entry_text found.entry) ≡ found.used
  pub within : found.used ≤ length bytes
  pub fits : found.used ≤ room

-- the first line that says a head
abbrev pub line_of : Head → List ℕ
line_of h = head_text h.caller h.kind h.moment h.len

-- the bytes begin with the first line of an entry, which takes so many of them with its line feed
pub record IsLine (bytes : List ℕ) (line : FirstLine) : Type 0 where
  pub says : head_of (line_of line.head) ≡ Some line.head
  pub front : bytes ≡ line_of line.head ++ 10 ∷ drop line.len bytes
  pub len : length (line_of line.head) + 1 ≡ line.len

-- a first line; none yet; or no entry, whatever follows
abbrev pub ParsesLine : List ℕ → Parsed → Type 0
ParsesLine bytes (parsed.Line line) = IsLine bytes line
ParsesLine bytes parsed.Short = (room : ℕ) → is_unfinished room bytes ≡ true
ParsesLine bytes parsed.Bad = (bytes ≢ []) × ((room : ℕ) → (is_unfinished room bytes ≡ false) × IsHopeless room bytes)
