use Rattle.std.proofs.Common.{◌≡◌, map, take}
use Rattle.serde_json.specs.View.{view}
use Rattle.sp_json.specs.Deliveries.{delivery_data}
use Rattle.sp_json.proofs.deliveries.deliveries_value.Given as goal

abbrev pub invariant-loop-delivery : goal.invariant-loop-delivery
invariant-loop-delivery l = map view l.values.items ≡ map delivery_data (take l.delivery-index l.deliveries)
