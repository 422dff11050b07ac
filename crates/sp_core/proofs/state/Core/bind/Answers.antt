use Rattle.sp_core.proofs.Standing.{bound, standing}
use Rattle.sp_core.specs.Inside.{core_state}
use Rattle.sp_ledger.specs.Changes.{changed, binds}
use Rattle.std.proofs.Common.{◌∙◌}
use Rattle.std.specs.Prelude.{[], ◌++◌, ◌∷◌}
use Rattle.sp_core.proofs.state.Core.bind.Goals as goal

pub returns-clause-changed : goal.returns-clause-changed
returns-clause-changed c L s may = bound (core_state c.self.inside) L (standing _ _ L c.self.view_is s) c.bind.new.self c.args.flow may
    (c.in-Ok.ensures.bound ∙ (λ i. (core_state c.self.inside).flows.flows ++ record (c.flow.view_is i) { number = (core_state c.self.inside).flows.next } ∷ []))
    c.in-Ok.ensures.next

pub invariant_of-self : goal.invariant_of-self
invariant_of-self c =
    let m = c.requires.may in
    record { ledger = changed (binds c.args.flow) m.0; stands = returns-clause-changed c m.0 m.1 m.2 }
