-- What an event comes to: the changes of a plan, its reply, and the rows that the changes add.
use Rattle.std.specs.Prelude.{List, length, map, sum_by}
use Rattle.sp_event.specs.declared.answer.Reply.{Reply}
use Rattle.sp_ledger.specs.Changes as ledger
use Rattle.sp_plan.specs.declared.change.Change.{Change}
use Rattle.sp_plan.specs.declared.change.Change.TheVariants.{Comes, Goes, Becomes, Publishes, Closes}
use Rattle.sp_plan.specs.declared.change.Change.TheVariants.{Moves, Holds, Frees, Binds, Unbinds, UnbindsAll}
use Rattle.sp_plan.specs.declared.need.Need.{Need}

-- the ledger's change that it is
abbrev pub change_of : Change → ledger.Change
change_of (Comes endpoint) = ledger.comes endpoint
change_of (Goes endpoint) = ledger.goes endpoint
change_of (Becomes endpoint) = ledger.becomes endpoint
change_of (Publishes message shares) = ledger.publishes message shares
change_of (Closes copy how) = ledger.closes copy how
change_of (Moves copy new) = ledger.moves copy new
change_of (Holds copy flow) = ledger.holds copy flow
change_of (Frees copy) = ledger.frees copy
change_of (Binds flow) = ledger.binds flow
change_of (Unbinds flow) = ledger.unbinds flow
change_of UnbindsAll = ledger.unbinds_all

-- the ledger's changes that they are
abbrev pub changes_of : List Change → List ledger.Change
changes_of changes = map change_of changes

-- the changes and the reply of an event that isn't refused
pub record PlanState : Type 0 where
  pub changes : List ledger.Change
  pub reply : Reply

-- no rows are added
abbrev pub no_need : Need
no_need = record { endpoints = 0; messages = 0; copies = 0; flows = 0 }

-- how many rows a change adds to each table
abbrev pub need_of : ledger.Change → Need
need_of (ledger.comes endpoint) = record { endpoints = 1; messages = 0; copies = 0; flows = 0 }
need_of (ledger.publishes message shares) = record { endpoints = 0; messages = 1; copies = length shares; flows = 0 }
need_of (ledger.moves copy new) = record { endpoints = 0; messages = 0; copies = 1; flows = 0 }
need_of (ledger.binds flow) = record { endpoints = 0; messages = 0; copies = 0; flows = 1 }
need_of change = no_need

-- the same of several changes
abbrev pub need_of_all : List ledger.Change → Need
need_of_all changes = record {
  endpoints = sum_by (λ c. (need_of c).endpoints) changes;
  messages = sum_by (λ c. (need_of c).messages) changes;
  copies = sum_by (λ c. (need_of c).copies) changes;
  flows = sum_by (λ c. (need_of c).flows) changes;
}
