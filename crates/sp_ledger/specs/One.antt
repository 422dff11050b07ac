-- Every copy has one fate, and every move is recorded at both its ends.
pub use Rattle.sp_settle.specs.Questions.{is_by_move}
use Rattle.sp_access.specs.Flow.{FlowView}
use Rattle.sp_copies.specs.Counts.{is_moved}
use Rattle.sp_copies.specs.History.{History, closing_of, closings_of, is_closed, is_made, is_spooled}
use Rattle.sp_copies.specs.declared.closed.ClosedCopy.{ClosedCopy}
use Rattle.sp_copies.specs.declared.closed.Closing.{Closing}
use Rattle.sp_copies.specs.declared.closed.Closing.TheVariants as closings
use Rattle.sp_copies.specs.declared.held.HeldCopy.{HeldCopy}
use Rattle.sp_copies.specs.declared.made.MadeCopy.{MadeCopy}
use Rattle.sp_copies.specs.declared.made.Origin.{Origin}
use Rattle.sp_copies.specs.declared.made.Origin.TheVariants as origins
use Rattle.sp_endpoint.specs.Endpoints.{is_there}
use Rattle.sp_ledger.specs.Ledger.{Ledger}
use Rattle.std.specs.List.{list_any}
use Rattle.std.specs.Prelude.{All, AllPairs, Bool, IsTrue, List, None, Option, Some, count_by, false, is_none, length}
use Rattle.std.specs.Prelude.{not, true, ℕ, ◌&&◌, ◌<◌, ◌==◌, ◌||◌, ◌≤◌}

-- whether the flow that holds a copy is bound to the copy's endpoint
abbrev pub is_bound_for : List FlowView → List MadeCopy → HeldCopy → Bool
is_bound_for flows made h =
    list_any (λ f. (f.number == h.flow) && list_any (λ c. (c.number == h.copy) && (c.endpoint == f.endpoint)) made)
    flows

-- whether it was made by the move of this copy
abbrev pub is_move_of : ℕ → Origin → Bool
is_move_of copy origins.Published = false
is_move_of copy (origins.Moved from) = from == copy
is_move_of copy (origins.Replayed replay) = false

-- whether a closing is the move to this copy
abbrev pub is_move_to : ℕ → Option Closing → Bool
is_move_to copy None = false
is_move_to copy (Some closings.Accepted) = false
is_move_to copy (Some (closings.Moved to)) = to == copy
is_move_to copy (Some (closings.Discarded cause)) = false

-- whether both copies are of the same message
abbrev pub is_of_message : List MadeCopy → ℕ → ℕ → Bool
is_of_message made copy message = list_any (λ c. (c.number == copy) && (c.message == message)) made

-- where a copy was closed as moved: whether the copy that it was moved to was made by that, of
-- the same message and without a deadline
abbrev pub has_its_copy : List MadeCopy → ℕ → Closing → Bool
has_its_copy made copy closings.Accepted = true
has_its_copy made copy (closings.Moved to) =
    list_any (λ c.
    (c.number == to) && is_move_of copy c.origin && is_none c.deadline && is_of_message made copy c.message) made
has_its_copy made copy (closings.Discarded cause) = true

-- where a copy was made by a move: whether the other was closed by that move
abbrev pub has_its_closing : List ClosedCopy → ℕ → Origin → Bool
has_its_closing closed copy origins.Published = true
has_its_closing closed copy (origins.Moved from) = is_move_to copy (closing_of closed from)
has_its_closing closed copy (origins.Replayed replay) = true

-- each copy's number stands once, is above 0 and below the next one, and each closing names a copy that was made
pub record AreNumbered (H : History) : Type 0 where
  pub next_above : 0 < H.next
  pub rise : AllPairs (λ c d. c.number < d.number) H.made
  pub above : All (λ c. 0 < c.number) H.made
  pub below : All (λ c. c.number < H.next) H.made
  pub closed_made : All (λ x. IsTrue (is_made H.made x.copy)) H.closed

-- each held copy is spooled, stands once there, and its flow is bound to its endpoint
pub record AreHeld (flows : List FlowView) (H : History) : Type 0 where
  pub spooled : All (λ h. IsTrue (is_spooled H h.copy)) H.held
  pub once : (copy : ℕ) → count_by (λ h. h.copy == copy) H.held ≤ 1
  pub bound : All (λ h. IsTrue (is_bound_for flows H.made h)) H.held

-- each copy that was moved away has its copy in the other place, and that one its closing
pub record AreMoved (H : History) : Type 0 where
  pub made : All (λ x. IsTrue (has_its_copy H.made x.copy x.how)) H.closed
  pub closed : All (λ c. IsTrue (has_its_closing H.closed c.number c.origin)) H.made

-- every copy of a ledger has one fate
pub record IsOne (L : Ledger) : Type 0 where
  pub numbered : AreNumbered L.copies
  -- no copy has two closings
  pub closed_once : (copy : ℕ) → length (closings_of L.copies.closed copy) ≤ 1
  pub held : AreHeld L.flows L.copies
  -- each spooled copy's endpoint is there
  pub open_there :
      All (λ c. IsTrue (is_closed L.copies.closed c.number || is_there L.endpoints c.endpoint)) L.copies.made
  pub moved : AreMoved L.copies
  -- no copy is moved twice
  pub moved_once :
      All (λ c. IsTrue (not (is_by_move c.origin && is_moved (closing_of L.copies.closed c.number)))) L.copies.made
