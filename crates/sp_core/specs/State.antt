-- What contracts see of a core.
use Rattle.std.specs.Prelude.{ℕ}
use Rattle.sp_access.specs.Flows.{FlowsView}
use Rattle.sp_base.specs.Rows.{Roomy}
use Rattle.sp_copies.specs.Kept.{Kept}
use Rattle.sp_endpoint.specs.Endpoint.{EndpointView}
use Rattle.sp_ledger.specs.Ledger.{Published}

-- its tables, with the room that is reserved in them, the next numbers that no table has, and the latest moment
pub record CoreState : Type 0 where
  pub endpoints : Roomy EndpointView
  pub messages : Roomy Published
  pub copies : Kept
  pub flows : FlowsView
  pub next_endpoint : ℕ
  pub next_message : ℕ
  pub next_replay : ℕ
  pub next_unit : ℕ
  pub clock : ℕ
