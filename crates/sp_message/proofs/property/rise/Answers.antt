use Rattle.std.proofs.Common.{◌∙◌, ◌-◌, sym, arith, drop}
use Rattle.std.proofs.lemmas.List.{length-drop}
use Rattle.sp_message.proofs.Rising.{one_rises}
use Rattle.sp_message.proofs.property.rise.Goals as goal

pub returns : goal.returns
returns c = sym (c.loop-i.invariant ∙ one_rises (drop (c.loop-i.i - 1) c.args.rows.now) (omega (arith, length-drop (c.loop-i.i - 1) c.args.rows.now)))
