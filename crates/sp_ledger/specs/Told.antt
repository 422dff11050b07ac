-- What replies tell of copies, in this ledger and in later ones.
use Rattle.sp_copies.specs.History.{History, closing_of, fate_of, is_closed, is_made, told_closing}
use Rattle.sp_copies.specs.declared.closed.ClosedCopy.{ClosedCopy}
use Rattle.sp_copies.specs.declared.closed.Closing.TheVariants as closings
use Rattle.sp_copies.specs.declared.closed.Fate.{Fate}
use Rattle.sp_copies.specs.declared.closed.Fate.TheVariants as fates
use Rattle.sp_copies.specs.declared.made.MadeCopy.{MadeCopy}
use Rattle.sp_event.specs.declared.answer.CopyFate.{CopyFate}
use Rattle.sp_event.specs.declared.answer.Reply.{Reply}
use Rattle.sp_event.specs.declared.answer.Reply.TheVariants as replies
use Rattle.sp_ledger.specs.Ledger.{Ledger}
use Rattle.std.specs.Prelude.{All, List, Some, [], if◌then◌else◌, map, true, ℕ, ⊤, ◌++◌, ◌∷◌, ◌≡◌, ◌≤◌}

-- every copy that was made and every closing stays, and new ones stand behind them
pub record Extends (L M : Ledger) : Type 0 where
  pub made : (more : List MadeCopy) × (M.copies.made ≡ L.copies.made ++ more)
  pub closed : (more : List ClosedCopy) × (M.copies.closed ≡ L.copies.closed ++ more)

-- no next number falls, so that no number is drawn twice
pub record IsLater (L M : Ledger) : Type 0 where
  pub endpoint : L.next.endpoint ≤ M.next.endpoint
  pub message : L.next.message ≤ M.next.message
  pub copy : L.copies.next ≤ M.copies.next
  pub flow : L.next.flow ≤ M.next.flow
  pub replay : L.next.replay ≤ M.next.replay
  pub unit : L.next.unit ≤ M.next.unit

-- the fates that a reply tells
abbrev pub told_fates : Reply → List CopyFate
told_fates (replies.Provision endpoint number) = []
told_fates (replies.Deprovision endpoint) = []
told_fates (replies.Change endpoint) = []
told_fates (replies.Subscribe endpoint) = []
told_fates (replies.Unsubscribe endpoint) = []
told_fates (replies.Publish message copies) = map (λ c. record { copy = c.copy; fate = c.fate }) copies
told_fates (replies.Bind endpoint flow discarded) = []
told_fates (replies.Unbind flow closed returned) = closed
told_fates (replies.Pull flow given) = map (λ d. record { copy = d.copy; fate = fates.Spooled }) given
told_fates (replies.Settle copy fate) = record { copy = copy; fate = fate } ∷ []
told_fates (replies.Tick closed) = closed
told_fates (replies.DeleteCopies endpoint closed) = closed
told_fates replies.Restart = []
told_fates (replies.Tally tally) = []
told_fates (replies.Copy copy fate details) = record { copy = copy; fate = fate } ∷ []
told_fates (replies.Flows endpoint flows) = []

-- what has become of a copy, however many closings have come after its own
abbrev pub fate_in : History → ℕ → Fate
fate_in H copy = if is_made H.made copy then told_closing 0 (closing_of H.closed copy) else fates.Never

-- the fates that an event's reply tells are those that the copies have
abbrev pub TellsFates : History → Reply → Type 0
TellsFates H reply = All (λ t. fate_in H t.copy ≡ t.fate) (told_fates reply)

-- and those that a query's answer tells are shown as long as their closings are told
abbrev pub ShowsFates : History → Reply → Type 0
ShowsFates H reply = All (λ t. fate_of H t.copy ≡ t.fate) (told_fates reply)

-- what is left of a fate that was told before: a spooled copy was made, and a closed one has the closing that was told
abbrev pub FateHolds : History → ℕ → Fate → Type 0
FateHolds H copy fates.Never = ⊤
FateHolds H copy fates.Spooled = is_made H.made copy ≡ true
FateHolds H copy fates.Accepted = closing_of H.closed copy ≡ Some closings.Accepted
FateHolds H copy (fates.Moved to) = closing_of H.closed copy ≡ Some (closings.Moved to)
FateHolds H copy (fates.Discarded cause) = closing_of H.closed copy ≡ Some (closings.Discarded cause)
FateHolds H copy fates.Earlier = is_closed H.closed copy ≡ true

-- what is left of the fates that a reply told before
abbrev pub IsTold : History → Reply → Type 0
IsTold H reply = All (λ t. FateHolds H t.copy t.fate) (told_fates reply)
