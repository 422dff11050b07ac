-- What is read of a source, with the bytes that wait.
use Rattle.std.specs.Prelude.{◌≡◌, ◌≢◌, ℕ, List, [], ◌++◌, length, ◌≤◌, true, Option, None, Some, ⊤}
use Rattle.std.specs.Bool.{MatchBool}
use Rattle.std.specs.Io.KnownBytes.{Consumes, IsAtEnd}
use Rattle.sp_tape.specs.declared.reader.Next.{Next}
use Rattle.sp_tape.specs.declared.reader.Next.TheVariants.{Found, End, Bad, Fault, Memory}
use Rattle.sp_tape.specs.declared.reader.Fill.{Fill}
use Rattle.sp_tape.specs.declared.reader.Fill.TheVariants as fills
use Rattle.sp_tape.specs.Entry.{entry_text, IsEntry, IsHopeless}
use Rattle.sp_tape.specs.Unfinished.{is_unfinished}

-- more bytes were read, and wait behind the others
abbrev pub Reads : Option (List ℕ) → Option (List ℕ) → List ℕ → List ℕ → Type 0
Reads old new waiting all = (more : List ℕ) × Consumes old new more × (all ≡ waiting ++ more)

-- these bytes are left, where the source tells it
abbrev pub Left : Option (List ℕ) → List ℕ → Type 0
Left None more = ⊤
Left (Some bytes) more = bytes ≡ more

-- the most bytes of one read
abbrev pub longest_read : ℕ
longest_read = 4096

-- the bytes were read on only while they were unfinished: such a front, and one read behind it
pub record IsReadWhileUnfinished (room : ℕ) (bytes : List ℕ) : Type 0 where
  pub front : List ℕ
  pub piece : List ℕ
  pub joined : bytes ≡ front ++ piece
  pub unfinished : is_unfinished room front ≡ true
  pub one_read : length piece ≤ longest_read
  -- so they are no more than the longest entry and one read
  pub most : length bytes ≤ 8392896

-- bytes were read and refused: they are still unfinished, and the source ended; or they aren't, and
-- whatever follows them, they begin with no entry
abbrev pub IsRefused : ℕ → Option (List ℕ) → List ℕ → Type 0
IsRefused room left bytes = (bytes ≢ []) × MatchBool (is_unfinished room bytes) (IsAtEnd left) (IsHopeless room bytes)

-- the next entry went off the waiting bytes; there is none, and nothing is left; or what was read is
-- refused, and was read on only while it was unfinished. This last, and that no more waits afterwards
-- than one read gives, holds where no more waited before
abbrev pub Comes : ℕ → Option (List ℕ) → Option (List ℕ) → List ℕ → List ℕ → Next → Type 0
Comes room old new waiting left (Found found) = IsEntry found.entry × (length (entry_text found.entry) ≡ found.used) × (found.used ≤ room) × Reads old new waiting (entry_text found.entry ++ left) × (length waiting ≤ longest_read → length left ≤ longest_read)
Comes room old new waiting left End = Reads old new waiting [] × IsAtEnd new
Comes room old new waiting left Bad = (all : List ℕ) × Reads old new waiting all × IsRefused room new all × (length waiting ≤ longest_read → IsReadWhileUnfinished room all)
Comes room old new waiting left Fault = Unit {0}
Comes room old new waiting left Memory = Unit {0}

-- one read, behind the bytes that wait
abbrev pub Fills : Option (List ℕ) → Option (List ℕ) → List ℕ → List ℕ → Fill → Type 0
Fills old new waiting all fills.More = (more : List ℕ) × Consumes old new more × (all ≡ waiting ++ more) × (length more ≤ longest_read)
Fills old new waiting all fills.End = Consumes old new [] × (all ≡ waiting) × IsAtEnd new
Fills old new waiting all fills.Fault = Unit {0}
Fills old new waiting all fills.Memory = Unit {0}
