-- What contracts see of a flow.
use Rattle.std.specs.Prelude.{ℕ, List, Option}

-- a flow that a caller has bound to an endpoint, with the text of the selector that it was bound with, if any
pub record FlowView : Type 0 where
  pub number : ℕ
  pub endpoint : ℕ
  pub caller : List ℕ
  pub selector : Option (List ℕ)
