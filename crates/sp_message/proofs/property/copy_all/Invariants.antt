use Rattle.std.proofs.Common.{◌≡◌, take}
use Rattle.sp_message.proofs.property.copy_all.Given as goal

abbrev pub invariant-loop-property : goal.invariant-loop-property
invariant-loop-property l = l.copies.items ≡ take l.property-index l.rows
