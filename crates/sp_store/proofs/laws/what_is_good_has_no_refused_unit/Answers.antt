use Rattle.sp_store.proofs.Ledgers.{good_not_refused}
use Rattle.sp_store.proofs.laws.what_is_good_has_no_refused_unit.Goals as goal

pub returns : goal.returns
returns c file place good refused = good_not_refused file place good refused
