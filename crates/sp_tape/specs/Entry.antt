-- The grammar of a tape's entries.
use Rattle.std.specs.Prelude.{◌≡◌, ◌≤◌, ℕ, List, [], ◌∷◌, ◌++◌, length, true, codes, decimal}
use Rattle.sp_base.specs.Name.{is_name, is_caller}
use Rattle.sp_tape.specs.declared.entry.Entry.{Entry}
use Rattle.sp_tape.specs.declared.entry.Kind.{Kind}
use Rattle.sp_tape.specs.declared.entry.Kind.TheVariants.{Flow, Http, Rdp, Restart}
use Rattle.sp_tape.specs.Head.{longest_body}

abbrev pub kind_word : Kind → List ℕ
kind_word Flow = codes "flow"
kind_word Http = codes "http"
kind_word Rdp = codes "rdp"
kind_word Restart = codes "restart"

-- the first line of an entry without its line feed: @, the caller, the kind, the moment and the length
abbrev pub head_text : List ℕ → Kind → ℕ → ℕ → List ℕ
head_text caller kind moment len = 64 ∷ (caller ++ 32 ∷ (kind_word kind ++ 32 ∷ (decimal moment ++ 32 ∷ decimal len)))

-- the bytes of an entry: its first line, so many bytes, and a line feed behind each
abbrev pub entry_text : Entry → List ℕ
entry_text e = head_text e.caller e.kind e.moment (length e.body) ++ 10 ∷ (e.body ++ 10 ∷ [])

-- its values are in their ranges
pub record IsEntry (e : Entry) : Type 0 where
  pub caller : is_name e.caller ≡ true
  pub short : is_caller e.caller ≡ true
  pub moment : e.moment ≤ 9007199254740991
  pub body : length e.body ≤ longest_body e.kind

-- the bytes begin with an entry
abbrev pub BeginsWith : List ℕ → Entry → Type 0
BeginsWith bytes e = (rest : List ℕ) × (bytes ≡ entry_text e ++ rest)

-- no prefix of the bytes is an entry that ends within so many bytes
abbrev pub HasNoEntry : ℕ → List ℕ → Type 0
HasNoEntry room bytes = (e : Entry) → IsEntry e → length (entry_text e) ≤ room → BeginsWith bytes e → ⊥

-- whatever follows the bytes, they begin with no such entry
abbrev pub IsHopeless : ℕ → List ℕ → Type 0
IsHopeless room bytes = (more : List ℕ) → HasNoEntry room (bytes ++ more)
