-- What a replay is to copy.
use Rattle.std.specs.Prelude.{◌&&◌, ◌∷◌, [], ℕ, Bool, List, filter, if◌then◌else◌, nat_le}
use Rattle.sp_replaylog.specs.declared.entry.Entry.{Entry}

-- the entries with numbers from the first to the last that the endpoint takes, in order
abbrev pub plan : (Entry → Bool) → ℕ → ℕ → List Entry → List Entry
plan takes first last entries = filter (λ e. nat_le first e.number && nat_le e.number last && takes e) entries

-- what the endpoint takes of one entry
abbrev pub taken : (Entry → Bool) → Entry → List Entry
taken takes e = if takes e then e ∷ [] else []
