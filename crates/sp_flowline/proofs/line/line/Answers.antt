use Rattle.sp_flowline.proofs.Whole.{answer_is_whole}
use Rattle.sp_flowline.proofs.line.line.Goals as goal

pub append_line-requires : goal.append_line-requires
append_line-requires c = rw c.in-Ok.ensures (answer_is_whole c.args.answer.now c.args.unit)
