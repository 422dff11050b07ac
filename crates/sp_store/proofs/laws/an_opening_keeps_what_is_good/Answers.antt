use Rattle.sp_store.proofs.Ledgers.{good_still}
use Rattle.sp_store.proofs.laws.an_opening_keeps_what_is_good.Goals as goal

pub returns : goal.returns
returns c file old new may good = good_still file old new may good
