use Rattle.sp_core.proofs.Standing.{held, standing}
use Rattle.sp_core.specs.Inside.{core_state}
use Rattle.sp_ledger.specs.Changes.{changed, holds}
use Rattle.sp_core.proofs.state.Core.hold.Goals as goal

pub hold-requires : goal.hold-requires
hold-requires c =
    let m = c.requires.may in
    record { free = (m.0.copies, (standing _ _ m.0 c.self.view_is m.1).copies, m.2.free) }

pub returns-clause-changed : goal.returns-clause-changed
returns-clause-changed c L s may = held (core_state c.self.inside) L (standing _ _ L c.self.view_is s) c.hold.new.self c.args.copy c.args.flow may c.hold.ensures.held

pub invariant_of-self : goal.invariant_of-self
invariant_of-self c =
    let m = c.requires.may in
    record { ledger = changed (holds c.args.copy c.args.flow) m.0; stands = returns-clause-changed c m.0 m.1 m.2 }
