-- What the replies of flows show, as JSON values. The keys stand in the order of their bytes.
use Rattle.std.specs.Prelude.{ℕ, List, codes}
use Rattle.serde_json.specs.Data.{Data, string, object, member, no_members}
use Rattle.sp_copies.specs.declared.closed.Fate.{Fate}
use Rattle.sp_event.specs.declared.answer.BoundFlow.{BoundFlow}
use Rattle.sp_event.specs.declared.answer.CopyFate.{CopyFate}
use Rattle.sp_event.specs.declared.answer.Delivery.{Delivery}
use Rattle.sp_json.specs.Deliveries.{deliveries_data}
use Rattle.sp_json.specs.Fates.{with_fate}
use Rattle.sp_json.specs.Flows.{flows_data}
use Rattle.sp_json.specs.Members.{whole}
use Rattle.sp_json.specs.Told.{closed_data}

-- a flow that is bound, and how many copies the bind discarded
abbrev pub bind_data : List ℕ → ℕ → ℕ → ℕ → Data
bind_data endpoint flow discarded unit = object
    (member (codes "discarded") (whole discarded)
    (member (codes "endpoint") (string endpoint)
    (member (codes "flow") (whole flow)
    (member (codes "ok") (string (codes "bind"))
    (member (codes "unit") (whole unit) no_members)))))

-- a flow that is gone, the copies that it closed, and how many are spooled again
abbrev pub unbind_data : ℕ → List CopyFate → ℕ → ℕ → Data
unbind_data flow closed returned unit = object
    (member (codes "closed") (closed_data closed)
    (member (codes "flow") (whole flow)
    (member (codes "ok") (string (codes "unbind"))
    (member (codes "returned") (whole returned)
    (member (codes "unit") (whole unit) no_members)))))

-- the copies that a flow is handed out
abbrev pub pull_data : ℕ → List Delivery → ℕ → Data
pull_data flow deliveries unit = object
    (member (codes "deliveries") (deliveries_data deliveries)
    (member (codes "flow") (whole flow)
    (member (codes "ok") (string (codes "pull"))
    (member (codes "unit") (whole unit) no_members))))

-- a copy that was settled, and its fate
abbrev pub settle_data : ℕ → Fate → ℕ → Data
settle_data copy fate unit = object (with_fate fate
    (member (codes "copy") (whole copy)
    (member (codes "ok") (string (codes "settle"))
    (member (codes "unit") (whole unit) no_members))))

-- the flows that are bound to an endpoint, in the order in which they were bound
abbrev pub bound_data : List ℕ → List BoundFlow → ℕ → Data
bound_data endpoint flows unit = object
    (member (codes "endpoint") (string endpoint)
    (member (codes "flows") (flows_data flows)
    (member (codes "ok") (string (codes "flows"))
    (member (codes "unit") (whole unit) no_members))))
