use Rattle.std.proofs.Common.{◌≡◌, map, take}
use Rattle.serde_json.specs.View.{view}
use Rattle.sp_json.specs.Told.{told_data}
use Rattle.sp_json.proofs.told.copies_value.Given as goal

abbrev pub invariant-loop-told : goal.invariant-loop-told
invariant-loop-told l = map view l.values.items ≡ map told_data (take l.told-index l.copies)
