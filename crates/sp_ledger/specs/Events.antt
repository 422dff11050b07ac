-- What each event comes to.
use Rattle.sp_event.specs.declared.request.Event.{Event}
use Rattle.sp_event.specs.declared.request.Event.TheVariants.{Provision, Deprovision, Change, Subscribe, Unsubscribe}
use Rattle.sp_event.specs.declared.request.Event.TheVariants.{Publish, Bind, Unbind, Pull, Settle, Tick, DeleteCopies, Restart}
use Rattle.sp_ledger.specs.Ledger.{Ledger}
use Rattle.sp_ledger.specs.OnCopies.{delete_copies, tick}
use Rattle.sp_ledger.specs.OnEndpoints.{change_step, deprovision, provision, subscribe, unsubscribe}
use Rattle.sp_ledger.specs.OnFlows.{bind, pull, restart, settle, unbind}
use Rattle.sp_ledger.specs.Publish.{publish}
use Rattle.sp_ledger.specs.Step.{Outcome, Step, begun, outcome_of}
use Rattle.std.specs.Prelude.{List, ℕ}

-- the step of an event of a caller
abbrev pub step : List ℕ → Event → Ledger → Step
step caller (Provision name kind settings) L = provision caller name kind settings L
step caller (Deprovision name) L = deprovision name L
step caller (Change name settings) L = change_step name settings L
step caller (Subscribe name text) L = subscribe name text L
step caller (Unsubscribe name text) L = unsubscribe name text L
step caller (Publish m) L = publish m L
step caller (Bind name selector topic) L = bind caller name selector topic L
step caller (Unbind flow) L = unbind caller flow L
step caller (Pull flow count) L = pull caller flow count L
step caller (Settle flow copy outcome) L = settle caller flow copy outcome L
step caller Tick L = tick L
step caller (DeleteCopies name copy) L = delete_copies name copy L
step caller Restart L = restart L

-- what it comes to at a moment
abbrev pub outcome : ℕ → List ℕ → Event → Ledger → Outcome
outcome moment caller event L = outcome_of L (begun moment L) (step caller event (begun moment L))
