-- The ledger to which units lead.
use Rattle.std.specs.Prelude.{◌≡◌, List, [], ◌∷◌, codes}
use Rattle.sp_event.specs.declared.answer.Reply.{Reply}
use Rattle.sp_event.specs.declared.request.Event.{Event}
use Rattle.sp_event.specs.declared.request.Event.TheVariants.{Restart}
use Rattle.sp_ledger.specs.Asked.{first_ledger}
use Rattle.sp_ledger.specs.Events.{outcome}
use Rattle.sp_ledger.specs.Ledger.{Ledger}
use Rattle.sp_ledger.specs.Step.{accepted}
use Rattle.sp_unit.specs.UnitBytes.{UnitView}

-- the event of a unit is accepted on a ledger, changes something, and leaves this one
pub record Accepts (unit : UnitView) (L M : Ledger) : Type 0 where
  pub event : Event
  pub told : List Reply
  pub one : unit.events ≡ event ∷ []
  pub step : outcome unit.moment unit.caller event L ≡ accepted M told

-- one unit after another is accepted, each on the ledger that the one before left
abbrev pub Leads : Ledger → List UnitView → Ledger → Type 0
Leads L [] M = M ≡ L
Leads L (unit ∷ units) M = (N : Ledger) × Accepts unit L N × Leads N units M

-- the ledger of units: that to which they lead from the first one
abbrev pub IsLedgerOf : List UnitView → Ledger → Type 0
IsLedgerOf units L = Leads first_ledger units L

-- the unit that an opening writes where a flow is bound
abbrev pub restart_unit : UnitView
restart_unit = record { moment = 0; caller = codes "#system"; events = Restart ∷ [] }
