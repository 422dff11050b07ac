use Rattle.sp_core.proofs.Standing.{all_unbound, standing}
use Rattle.sp_core.specs.Inside.{core_state}
use Rattle.sp_ledger.specs.Changes.{changed, unbinds_all}
use Rattle.sp_core.proofs.state.Core.unbind_all.Goals as goal

pub returns-clause-changed : goal.returns-clause-changed
returns-clause-changed c L s may = all_unbound (core_state c.self.inside) L (standing _ _ L c.self.view_is s) c.unbind_all.new.self may c.unbind_all.ensures.flows c.unbind_all.ensures.next

pub invariant_of-self : goal.invariant_of-self
invariant_of-self c =
    let m = c.requires.may in
    record { ledger = changed unbinds_all m.0; stands = returns-clause-changed c m.0 m.1 m.2 }
