-- The room that a plan needs in the tables.
use Rattle.std.specs.Prelude.{◌≤◌, ◌+◌, List}
use Rattle.sp_core.specs.State.{CoreState}
use Rattle.sp_ledger.specs.Changes as ledger
use Rattle.sp_plan.specs.Plan.{need_of_all}
use Rattle.sp_plan.specs.declared.need.Need.{Need}

-- the tables have room for all rows that are needed
pub record Has (core : CoreState) (need : Need) : Type 0 where
  pub endpoints : need.endpoints ≤ core.endpoints.room
  pub messages : need.messages ≤ core.messages.room
  pub copies : need.copies ≤ core.copies.spare
  pub flows : need.flows ≤ core.flows.room

abbrev pub HasRoom : CoreState → List ledger.Change → Type 0
HasRoom core changes = Has core (need_of_all changes)

-- no more room is gone than was needed
pub record Takes (need : Need) (old new : CoreState) : Type 0 where
  pub endpoints : old.endpoints.room ≤ new.endpoints.room + need.endpoints
  pub messages : old.messages.room ≤ new.messages.room + need.messages
  pub copies : old.copies.spare ≤ new.copies.spare + need.copies
  pub flows : old.flows.room ≤ new.flows.room + need.flows
