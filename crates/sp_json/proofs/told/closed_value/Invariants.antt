use Rattle.std.proofs.Common.{◌≡◌, map, take}
use Rattle.serde_json.specs.View.{view}
use Rattle.sp_json.specs.Told.{fate_data}
use Rattle.sp_json.proofs.told.closed_value.Given as goal

abbrev pub invariant-loop-copy : goal.invariant-loop-copy
invariant-loop-copy l = map view l.values.items ≡ map fate_data (take l.copy-index l.closed)
