use Rattle.std.proofs.Common.{◌≡◌, ◌≤◌, ◌*◌, take}
use Rattle.std.specs.List.{sum_by}
use Rattle.sp_message.specs.Property.{property_size}
use Rattle.sp_message.proofs.property.size_of_all.Given as goal

abbrev pub invariant-loop-property : goal.invariant-loop-property
invariant-loop-property l = record {
  counted : l.total ≡ sum_by property_size (take l.property-index l.rows);
  few : l.total ≤ 8272 * l.property-index;
}
