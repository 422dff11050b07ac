-- Which ledgers the tables stand for.
use Rattle.sp_copies.specs.Kept.{Kept, Records}
use Rattle.sp_endpoint.specs.Endpoint.{EndpointView}
use Rattle.sp_ledger.specs.Ledger.{Ledger, Published}
use Rattle.std.specs.Prelude.{List, ◌≡◌}

-- table by table
pub record Tabled (rows : List EndpointView) (kept : Kept) (published : List Published) (L : Ledger) : Type 0 where
  pub endpoints : rows ≡ L.endpoints
  pub copies : Records kept L.copies
  pub messages : published ≡ L.messages
