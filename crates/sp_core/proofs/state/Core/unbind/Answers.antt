use Rattle.sp_core.proofs.Standing.{unbound, standing}
use Rattle.sp_core.specs.Inside.{core_state}
use Rattle.sp_ledger.specs.Changes.{changed, unbinds}
use Rattle.std.proofs.Common.{subst, sym}
use Rattle.std.specs.Prelude.{◌≡◌}
use Rattle.sp_access.specs.Flow.{FlowView}
use Rattle.sp_access.specs.Flows.{is_bound}
use Rattle.std.specs.Prelude.{List, true}
use Rattle.sp_core.proofs.state.Core.unbind.Goals as goal

pub unbind-requires : goal.unbind-requires
unbind-requires c =
    let m = c.requires.may in
    record { bound = subst (λ (fs : List FlowView). is_bound fs c.args.flow ≡ true) (sym (standing _ _ m.0 c.self.view_is m.1).flows) m.2.0 }

pub returns-clause-changed : goal.returns-clause-changed
returns-clause-changed c L s may = unbound (core_state c.self.inside) L (standing _ _ L c.self.view_is s) c.unbind.new.self c.args.flow may c.unbind.ensures.flows c.unbind.ensures.next

pub invariant_of-self : goal.invariant_of-self
invariant_of-self c =
    let m = c.requires.may in
    record { ledger = changed (unbinds c.args.flow) m.0; stands = returns-clause-changed c m.0 m.1 m.2 }
