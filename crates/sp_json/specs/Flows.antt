-- Flows that are bound, as JSON.
use Rattle.std.specs.Prelude.{List, map, codes}
use Rattle.serde_json.specs.View.{items_of}
use Rattle.serde_json.specs.Data.{Data, boolean, string, object, array, member, no_members}
use Rattle.sp_event.specs.declared.answer.BoundFlow.{BoundFlow}
use Rattle.sp_json.specs.Members.{whole}

-- a flow, who bound it, how many copies it holds, and whether it is handed out copies now
abbrev pub flow_data : BoundFlow → Data
flow_data f = object
    (member (codes "active") (boolean f.active)
    (member (codes "caller") (string f.caller)
    (member (codes "flow") (whole f.flow)
    (member (codes "held") (whole f.held) no_members))))

abbrev pub flows_data : List BoundFlow → Data
flows_data flows = array (items_of (map flow_data flows))
