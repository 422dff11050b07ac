-- The replay log, and what it keeps.
use Rattle.std.specs.Prelude.{◌≡◌, ◌≤◌, ◌==◌, ◌++◌, ◌∷◌, [], ℕ, Bool, List, Option, if◌then◌else◌}
use Rattle.std.specs.Prelude.{find, length, nat_le, option_map, position, sum_by}
use Rattle.sp_message.specs.Size.{size_of}
use Rattle.sp_message.specs.declared.message.Message.{Message}
use Rattle.sp_replaylog.specs.declared.entry.Entry.{Entry}

-- whether the log is on, the greatest sum of its entries' sizes, the entries in the order in which they came, and the
-- room that is reserved for more
pub record LogView : Type 0 where
  pub enabled : Bool
  pub maximum : ℕ
  pub entries : List Entry
  pub room : ℕ

-- what a log keeps of a message that is published under a number at a moment
abbrev pub entry_of : ℕ → Message → ℕ → Entry
entry_of number m moment = record { number = number; moment = moment; size = size_of m }

-- the sum of the sizes of entries
abbrev pub bytes_of : List Entry → ℕ
bytes_of entries = sum_by (λ e. e.size) entries

-- the longest suffix of entries whose sizes sum to at most so many bytes
abbrev pub longest_fitting : ℕ → List Entry → List Entry
longest_fitting most [] = []
longest_fitting most (e ∷ es) = if nat_le (bytes_of (e ∷ es)) most then e ∷ es else longest_fitting most es

-- the longest suffix of the log and a new entry whose sizes sum to at most so many bytes
abbrev pub log_after : ℕ → List Entry → Entry → List Entry
log_after most entries new = longest_fitting most (entries ++ new ∷ [])

-- what a log that is on or off, with this maximum, keeps once a new entry has come: off, what it kept
abbrev pub with_entry : Bool → ℕ → List Entry → Entry → List Entry
with_entry enabled most entries new = if enabled then log_after most entries new else entries

-- what a log keeps of its entries once it is turned on or off and has this maximum: off, nothing
abbrev pub as_set : Bool → ℕ → List Entry → List Entry
as_set enabled most entries = if enabled then longest_fitting most entries else []

-- the number of the first entry, and 0 where there is none
abbrev pub first_number : List Entry → ℕ
first_number [] = 0
first_number (e ∷ es) = e.number

-- the number of the last entry, and 0 where there is none
abbrev pub last_number : List Entry → ℕ
last_number [] = 0
last_number (e ∷ []) = e.number
last_number (e ∷ f ∷ es) = last_number (f ∷ es)

-- the number of the first entry whose moment is at least this one
abbrev pub number_from : ℕ → List Entry → Option ℕ
number_from moment entries = option_map (λ e. e.number) (find (λ e. nat_le moment e.moment) entries)

-- the place, from 0, of the first entry of a number
abbrev pub place_of : ℕ → List Entry → Option ℕ
place_of number entries = position (λ e. e.number == number) entries

-- a suffix of entries, whose sizes sum to at most so many bytes, and which no other such suffix is longer than
pub record IsLongestFitting (most : ℕ) (entries kept : List Entry) : Type 0 where
  pub suffix : (gone : List Entry) × (entries ≡ gone ++ kept)
  pub fits : bytes_of kept ≤ most
  pub longest : (gone other : List Entry) → entries ≡ gone ++ other → bytes_of other ≤ most → length other ≤ length kept
