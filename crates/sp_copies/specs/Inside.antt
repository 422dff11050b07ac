-- What contracts see of a store's rows, and what holds of them.
use Rattle.std.specs.Prelude.{ℕ, ◌+◌, ◌≤◌, ◌&&◌, not, count_by, Option, None, Some, if◌then◌else◌}
use Rattle.sp_copies.specs.declared.made.MadeCopy.{MadeCopy}
use Rattle.sp_copies.specs.declared.copies.Copies.TheInside.{Inside}
use Rattle.sp_copies.specs.Counts.{spooled_count}
use Rattle.sp_copies.specs.Due.{is_earlier}
use Rattle.sp_copies.specs.History.{History, is_closed, is_held}
use Rattle.sp_copies.specs.Kept.{Kept, Records}

abbrev pub kept_in : Inside → Kept
kept_in c = record {
  made = c.made.items;
  closed = c.closed.items;
  held = c.held.items;
  attempts = c.attempts.items;
  next = c.next;
  spare = c.spare;
}

-- how many copies are spooled
abbrev pub spooled : History → ℕ
spooled H = spooled_count H None

-- how many of them no flow holds
abbrev pub free : History → ℕ
free H = count_by (λ c. not (is_closed H.closed c.number) && not (is_held H.held c.number)) H.made

-- the earlier of what a scan found so far and a further copy
abbrev pub earlier : Option MadeCopy → MadeCopy → Option MadeCopy
earlier None c = Some c
earlier (Some d) c = Some (if is_earlier c d then c else d)

-- there is a sound history for which the rows stand, and there is room: to make `spare` copies, to close each of them
-- and each spooled one, and to hand out each of them and each free one
pub record IsStore (c : Inside) : Type 0 where
  pub history : History
  pub stands : Records (kept_in c) history
  pub to_make : c.spare ≤ c.made.room
  pub to_count : c.spare ≤ c.attempts.room
  pub to_close : spooled history + c.spare ≤ c.closed.room
  pub to_hold : free history + c.spare ≤ c.held.room
