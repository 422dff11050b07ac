use Rattle.sp_journal.proofs.Prefixes.{first_units}
use Rattle.sp_journal.proofs.laws.units_before_a_gate_are_the_first.Goals as goal

pub returns : goal.returns
returns c file before units place comes has = first_units before units place file comes has
