use Rattle.sp_core.proofs.Standing.{freed, standing}
use Rattle.sp_core.specs.Inside.{core_state}
use Rattle.sp_ledger.specs.Changes.{changed, frees}
use Rattle.sp_core.proofs.state.Core.free.Goals as goal

pub give_back-requires : goal.give_back-requires
give_back-requires c =
    let m = c.requires.may in
    record { held = (m.0.copies, (standing _ _ m.0 c.self.view_is m.1).copies, m.2) }

pub returns-clause-changed : goal.returns-clause-changed
returns-clause-changed c L s may = freed (core_state c.self.inside) L (standing _ _ L c.self.view_is s) c.give_back.new.self c.args.copy may c.give_back.ensures.given_back

pub invariant_of-self : goal.invariant_of-self
invariant_of-self c =
    let m = c.requires.may in
    record { ledger = changed (frees c.args.copy) m.0; stands = returns-clause-changed c m.0 m.1 m.2 }
