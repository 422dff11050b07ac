use Rattle.std.proofs.Common.{◌≡◌, ◌-◌, drop}
use Rattle.sp_message.specs.Property.{names_rise}
use Rattle.sp_message.proofs.property.rise.Given as goal

abbrev pub invariant-loop-i : goal.invariant-loop-i
invariant-loop-i l = names_rise l.rows ≡ names_rise (drop (l.i - 1) l.rows)
