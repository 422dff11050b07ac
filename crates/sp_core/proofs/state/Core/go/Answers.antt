use Rattle.sp_core.proofs.Standing.{went, standing}
use Rattle.sp_core.specs.Inside.{core_state}
use Rattle.sp_ledger.specs.Changes.{changed, goes}
use Rattle.sp_core.proofs.state.Core.go.Goals as goal

pub returns-clause-changed : goal.returns-clause-changed
returns-clause-changed c L s may = went (core_state c.self.inside) L (standing _ _ L c.self.view_is s) c.remove.new.self c.args.endpoint may c.remove.ensures.items

pub invariant_of-self : goal.invariant_of-self
invariant_of-self c =
    let m = c.requires.may in
    record { ledger = changed (goes c.args.endpoint) m.0; stands = returns-clause-changed c m.0 m.1 m.2 }
