use Rattle.std.proofs.Common.{Err, ap}
use Rattle.sp_journal.specs.declared.journal.OpenError.{OpenError}
use Rattle.sp_store.proofs.store.Store.open.Goals as goal

pub returns-in-Err-clause-damaged : goal.returns-in-Err-clause-damaged
returns-in-Err-clause-damaged g c told file at same =
    c.in-Err.ensures.damaged told file at (ap (λ (e : OpenError). Err e) same)
