-- The history of all copies: what was ever made and closed, what flows hold, and how often each copy was handed out.
use Rattle.std.specs.Prelude.{◌==◌, ℕ, ◌+◌, ◌-◌, ◌^◌, min, Bool, false, length, not, ◌&&◌, List, [], ◌∷◌, ◌++◌, filter, find, fold, map, sum_by, Option, Some, None, option_map, option_and_then, unwrap_or, nat_le, nat_lt, if◌then◌else◌}
use Rattle.std.specs.List.{list_any}
use Rattle.sp_copies.specs.declared.made.NewCopy.{NewCopy}
use Rattle.sp_copies.specs.declared.made.MadeCopy.{MadeCopy}
use Rattle.sp_copies.specs.declared.made.Share.{Share}
use Rattle.sp_copies.specs.declared.held.HeldCopy.{HeldCopy}
use Rattle.sp_copies.specs.declared.held.CopyAttempts.{CopyAttempts}
use Rattle.sp_copies.specs.declared.closed.Cause.TheVariants.{NotSpooled}
use Rattle.sp_copies.specs.declared.closed.ClosedCopy.{ClosedCopy}
use Rattle.sp_copies.specs.declared.closed.Closing.{Closing}
use Rattle.sp_copies.specs.declared.closed.Closing.TheVariants as closings
use Rattle.sp_copies.specs.declared.closed.Fate.{Fate}
use Rattle.sp_copies.specs.declared.closed.Fate.TheVariants as fates

pub record History : Type 0 where
  -- every copy that was ever made, in order of number
  pub made : List MadeCopy
  -- every copy that was ever closed, in order of closing
  pub closed : List ClosedCopy
  -- the copies that flows hold, each with its flow, in the order in which they were handed out
  pub held : List HeldCopy
  -- for each copy that was made, how often it was handed out
  pub attempts : List CopyAttempts
  -- the number of the next copy
  pub next : ℕ

-- no copy was made yet
abbrev pub empty_history : ℕ → History
empty_history next = record { made = []; closed = []; held = []; attempts = []; next = next }

-- the copy of a number, where it was made
abbrev pub copy_of : List MadeCopy → ℕ → Option MadeCopy
copy_of made copy = find (λ c. c.number == copy) made

-- whether a copy was made
abbrev pub is_made : List MadeCopy → ℕ → Bool
is_made made copy = list_any (λ c. c.number == copy) made

-- whether a copy was closed
abbrev pub is_closed : List ClosedCopy → ℕ → Bool
is_closed closed copy = list_any (λ x. x.copy == copy) closed

-- whether a copy is spooled: it was made, and not closed
abbrev pub is_spooled : History → ℕ → Bool
is_spooled H copy = is_made H.made copy && not (is_closed H.closed copy)

-- the closings of a copy
abbrev pub closings_of : List ClosedCopy → ℕ → List ClosedCopy
closings_of closed copy = filter (λ x. x.copy == copy) closed

-- how a copy was closed, where it was
abbrev pub closing_of : List ClosedCopy → ℕ → Option Closing
closing_of closed copy = option_map (λ x. x.how) (find (λ x. x.copy == copy) closed)

-- whether a copy is spooled in an endpoint
abbrev pub is_open_in : List ClosedCopy → ℕ → MadeCopy → Bool
is_open_in closed endpoint c = (c.endpoint == endpoint) && not (is_closed closed c.number)

-- the spooled copies of an endpoint, in order of number
abbrev pub open_copies : History → ℕ → List MadeCopy
open_copies H endpoint = filter (is_open_in H.closed endpoint) H.made

-- the bytes that an endpoint's spooled copies use
abbrev pub used_bytes : History → ℕ → ℕ
used_bytes H endpoint = sum_by (λ c. c.size) (open_copies H endpoint)

-- the flow that holds a copy, where one does
abbrev pub holder_of : List HeldCopy → ℕ → Option ℕ
holder_of held copy = option_map (λ h. h.flow) (find (λ h. h.copy == copy) held)

-- whether a flow holds a copy
abbrev pub is_held : List HeldCopy → ℕ → Bool
is_held held copy = list_any (λ h. h.copy == copy) held

-- whether this flow holds a copy
abbrev pub is_held_by : List HeldCopy → ℕ → ℕ → Bool
is_held_by held flow copy = list_any (λ h. (h.copy == copy) && (h.flow == flow)) held

-- whether a copy is spooled and no flow holds it
abbrev pub is_free : History → ℕ → Bool
is_free H copy = is_spooled H copy && not (is_held H.held copy)

-- the copies that a flow holds, in order of number
abbrev pub held_copies : History → ℕ → List MadeCopy
held_copies H flow = filter (λ c. is_held_by H.held flow c.number) H.made

-- their numbers
abbrev pub held_by : History → ℕ → List ℕ
held_by H flow = map (λ c. c.number) (held_copies H flow)

-- the copies that any flow holds, in order of number
abbrev pub all_held : History → List MadeCopy
all_held H = filter (λ c. is_held H.held c.number) H.made

-- a copy as it was made, where the flow holds it
abbrev pub held_copy : History → ℕ → ℕ → Option MadeCopy
held_copy H flow copy = if is_held_by H.held flow copy then copy_of H.made copy else None

-- the spooled copies of an endpoint that no flow holds, in order of number
abbrev pub free_copies : History → ℕ → List MadeCopy
free_copies H endpoint = filter (λ c. not (is_held H.held c.number)) (open_copies H endpoint)

-- whether a deadline has come at a moment
abbrev pub has_come : Option ℕ → ℕ → Bool
has_come None moment = false
has_come (Some deadline) moment = nat_le deadline moment

-- the spooled copies of an endpoint that no flow holds and whose deadline hasn't come, in order of number
abbrev pub waiting_copies : History → ℕ → ℕ → List MadeCopy
waiting_copies H endpoint moment =
    filter (λ c. not (is_held H.held c.number) && not (has_come c.deadline moment)) (open_copies H endpoint)

-- the flow that holds the least held copy of an endpoint's partition, where one is held
abbrev pub holder_in : History → ℕ → ℕ → Option ℕ
holder_in H endpoint partition =
    option_and_then (λ c. holder_of H.held c.number)
    (find (λ c. (c.endpoint == endpoint) && (c.partition == partition) && is_held H.held c.number) H.made)

-- the least spooled copy of an endpoint above a number
abbrev pub next_spooled : History → ℕ → ℕ → Option ℕ
next_spooled H endpoint after = option_map (λ c. c.number) (find (λ c. nat_lt after c.number) (open_copies H endpoint))

-- how often a copy was handed out
abbrev pub attempts_of : List CopyAttempts → ℕ → ℕ
attempts_of attempts copy = unwrap_or (option_map (λ a. a.count) (find (λ a. a.copy == copy) attempts)) 0

-- how many copies were closed after a copy
abbrev pub closed_after : List ClosedCopy → ℕ → ℕ
closed_after [] copy = 0
closed_after (x ∷ later) copy = if x.copy == copy then length later else closed_after later copy

-- what a closing makes of a copy
abbrev pub closed_as : Closing → Fate
closed_as closings.Accepted = fates.Accepted
closed_as (closings.Moved to) = fates.Moved to
closed_as (closings.Discarded cause) = fates.Discarded cause

-- a closing is told until 1,000,000 others have come after it
abbrev pub told_closing : ℕ → Option Closing → Fate
told_closing after None = fates.Spooled
told_closing after (Some how) = if nat_le 1000000 after then fates.Earlier else closed_as how

-- what has become of a copy
abbrev pub fate_of : History → ℕ → Fate
fate_of H copy =
    if is_made H.made copy then told_closing (closed_after H.closed copy) (closing_of H.closed copy) else fates.Never

-- a new copy under its number
abbrev pub numbered : ℕ → NewCopy → MadeCopy
numbered number c = record {
  number = number;
  endpoint = c.endpoint;
  message = c.message;
  size = c.size;
  origin = c.origin;
  deadline = c.deadline;
  partition = c.partition;
}

-- a copy is made, takes the next number, and was handed out never
abbrev pub with_made : NewCopy → History → History
with_made c H = record H {
  made = H.made ++ numbered H.next c ∷ [];
  attempts = H.attempts ++ record { copy = H.next; count = 0 } ∷ [];
  next = H.next + 1;
}

-- no flow holds a copy any more
abbrev pub let_go : ℕ → List HeldCopy → List HeldCopy
let_go copy held = filter (λ h. not (h.copy == copy)) held

-- a count of attempts, one higher; it stops at 2^64 - 1
abbrev pub once_more : CopyAttempts → CopyAttempts
once_more a = record a { count = min (a.count + 1) (2 ^ 64 - 1) }

-- a copy was handed out once more
abbrev pub attempted : ℕ → List CopyAttempts → List CopyAttempts
attempted copy attempts = map (λ (a : CopyAttempts). if a.copy == copy then once_more a else a) attempts

-- a copy is closed, and no flow holds it
abbrev pub with_closed : ℕ → Closing → ℕ → History → History
with_closed copy how moment H = record H {
  closed = H.closed ++ record { copy = copy; how = how; moment = moment } ∷ [];
  held = let_go copy H.held;
}

-- a copy is handed out to a flow
abbrev pub with_held : ℕ → ℕ → History → History
with_held copy flow H = record H {
  held = H.held ++ record { copy = copy; flow = flow } ∷ [];
  attempts = attempted copy H.attempts;
}

-- a copy is given back
abbrev pub with_given_back : ℕ → History → History
with_given_back copy H = record H { held = let_go copy H.held }

-- a copy is made, and closed at once where it isn't spooled
abbrev pub with_share : ℕ → Share → History → History
with_share moment s H =
    if s.is_spooled then with_made s.copy H
    else with_closed H.next (closings.Discarded NotSpooled) moment (with_made s.copy H)

-- one share after another
abbrev pub all_shared : ℕ → List Share → History → History
all_shared moment shares H = fold (λ h s. with_share moment s h) H shares
