use Rattle.sp_tape.proofs.WholeTapes.{one_way}
use Rattle.sp_tape.proofs.laws.a_tape_is_entries_in_one_way.Goals as goal

pub returns : goal.returns
returns c = one_way
