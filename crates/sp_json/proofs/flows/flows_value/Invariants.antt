use Rattle.std.proofs.Common.{◌≡◌, map, take}
use Rattle.serde_json.specs.View.{view}
use Rattle.sp_json.specs.Flows.{flow_data}
use Rattle.sp_json.proofs.flows.flows_value.Given as goal

abbrev pub invariant-loop-bound : goal.invariant-loop-bound
invariant-loop-bound l = map view l.values.items ≡ map flow_data (take l.bound-index l.flows)
