use Rattle.sp_core.proofs.Standing.{closed, standing}
use Rattle.sp_core.specs.Inside.{core_state}
use Rattle.sp_ledger.specs.Changes.{changed, closes}
use Rattle.sp_core.proofs.state.Core.close.Goals as goal

pub close-requires : goal.close-requires
close-requires c =
    let m = c.requires.may in
    record { spooled = (m.0.copies, (standing _ _ m.0 c.self.view_is m.1).copies, m.2.0) }

pub returns-clause-changed : goal.returns-clause-changed
returns-clause-changed c L s may = closed (core_state c.self.inside) L (standing _ _ L c.self.view_is s) c.close.new.self c.args.copy c.args.how may c.close.ensures.closed

pub invariant_of-self : goal.invariant_of-self
invariant_of-self c =
    let m = c.requires.may in
    record { ledger = changed (closes c.args.copy c.args.how) m.0; stands = returns-clause-changed c m.0 m.1 m.2 }
