use Rattle.sp_ledger.specs.Asked.{first_ledger}
use Rattle.sp_store.proofs.Ledgers.{one_ledger}
use Rattle.sp_store.proofs.laws.units_have_one_ledger.Goals as goal

pub returns : goal.returns
returns c units L M leads also = one_ledger units first_ledger L M leads also
