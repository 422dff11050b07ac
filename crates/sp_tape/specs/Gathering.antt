-- An entry that is read piece by piece: its first line, and then what follows it.
use Rattle.std.specs.Prelude.{◌≡◌, ◌≤◌, ◌<◌, ◌==◌, ℕ, ◌+◌, List, [], ◌∷◌, ◌++◌, length, take, slice_index, Option}
use Rattle.std.specs.Prelude.{Some, if◌then◌else◌}
use Rattle.std.specs.Io.KnownBytes.{IsAtEnd}
use Rattle.sp_tape.specs.declared.entry.Entry.{Entry}
use Rattle.sp_tape.specs.declared.head.Head.{Head}
use Rattle.sp_tape.specs.declared.reader.Next.{Next}
use Rattle.sp_tape.specs.declared.reader.Next.TheVariants as next
use Rattle.sp_tape.specs.declared.reader.NextLine.{NextLine}
use Rattle.sp_tape.specs.declared.reader.NextLine.TheVariants.{Found, End, Bad, Fault, Memory}
use Rattle.sp_tape.specs.Head.{head_of}
use Rattle.sp_tape.specs.Parse.{IsLine, line_of}
use Rattle.sp_tape.specs.Reading.{Comes, IsReadWhileUnfinished, Reads, longest_read}

-- a first line stands at the front of what was read, and was read on only while there was none; nothing is left; or
-- what was read is refused, however much room there is
abbrev pub LineComes : Option (List ℕ) → Option (List ℕ) → List ℕ → List ℕ → NextLine → Type 0
LineComes old new waiting all (Found line) = IsLine all line × Reads old new waiting all ×
    ((room : ℕ) → length waiting ≤ longest_read → IsReadWhileUnfinished room all)
LineComes old new waiting all End = Reads old new waiting [] × IsAtEnd new
LineComes old new waiting all Bad = (room : ℕ) → Comes room old new waiting all next.Bad
LineComes old new waiting all Fault = Unit {0}
LineComes old new waiting all Memory = Unit {0}

-- what comes where these bytes were read before
abbrev pub ComesBehind : ℕ → Option (List ℕ) → Option (List ℕ) → List ℕ → List ℕ → Next → Type 0
ComesBehind room now new read left result =
    (old : Option (List ℕ)) (waiting : List ℕ) → Reads old now waiting read →
    (length waiting ≤ longest_read → IsReadWhileUnfinished room read) → Comes room old new waiting left result

-- what was read of an entry: its first line, so much of what follows, and what waits behind that
abbrev pub read_so_far : Head → List ℕ → List ℕ → List ℕ
read_so_far head body waiting = line_of head ++ 10 ∷ (body ++ waiting)

-- the bytes of a body go up to its size, and none waits while it lacks some
pub record IsShared (size : ℕ) (body waiting : List ℕ) : Type 0 where
  pub within : length body ≤ size
  pub behind : length body < size → waiting ≡ []

-- the head is one that a line says, its entry takes so many bytes, and the body goes up to the line feed behind it
pub record IsBegun (head : Head) (used : ℕ) (body waiting : List ℕ) : Type 0 where
  pub says : head_of (line_of head) ≡ Some head
  pub used_is : length (line_of head) + 1 + head.len + 1 ≡ used
  pub shared : IsShared (head.len + 1) body waiting

-- the entry of a head and a body
abbrev pub entry_of : Head → List ℕ → Entry
entry_of head body = record { caller = head.caller; kind = head.kind; moment = head.moment; body = body }

-- the entry whose body is these bytes up to the last, where that is a line feed
abbrev pub closed : Head → ℕ → List ℕ → Next
closed head used bytes =
    if slice_index bytes head.len == 10
    then next.Found (record { entry = entry_of head (take head.len bytes); used = used })
    else next.Bad
