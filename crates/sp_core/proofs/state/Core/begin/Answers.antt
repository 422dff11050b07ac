use Rattle.sp_core.proofs.Standing.{begins, standing}
use Rattle.sp_core.specs.Inside.{core_state}
use Rattle.sp_core.specs.State.{CoreState}
use Rattle.sp_ledger.specs.Step.{begun}
use Rattle.std.proofs.Common.{ap, arith, subst, ◌∙◌}
use Rattle.std.specs.Prelude.{ℕ, ◌+◌, ◌≤◌}
use Rattle.sp_core.proofs.state.Core.begin.Goals as goal

pub of-self-inside-requires : goal.of-self-inside-requires
of-self-inside-requires c =
    let own = c.self.invariant in
    let counted = own.stands.next_unit in
    let left = c.requires own.ledger (subst (λ (k : CoreState). Rattle.sp_core.specs.Stands.Stands k own.ledger) c.self.view_is own.stands) in
    let value = c.value.ensures.value in
    let most : c.value.result + 1 ≤ 4611686018427387904 = omega (arith, counted, left, value) in
    let least : 0 ≤ c.value.result + 1 = omega arith in
    (omega arith, (least, most))

pub returns-clause-stood : goal.returns-clause-stood
returns-clause-stood c = subst Rattle.sp_core.specs.Stands.IsCore c.self.view_is c.self.invariant

pub returns-clause-begun : goal.returns-clause-begun
returns-clause-begun c L s =
    begins (core_state c.self.inside) L (standing _ _ L c.self.view_is s) (c.of-self-inside.result + 1) c.max-self-inside.result c.args.moment (c.requires L s)
    (ap (λ (n : ℕ). n + 1) (c.of-self-inside.ensures ∙ ap (λ (n : ℕ). n + 1) c.value.ensures.value)) c.max-self-inside.ensures

pub invariant_of-self : goal.invariant_of-self
invariant_of-self c =
    let own = c.self.invariant in
    record {
      ledger = begun c.args.moment own.ledger;
      stands = returns-clause-begun c own.ledger (subst (λ (k : CoreState). Rattle.sp_core.specs.Stands.Stands k own.ledger) c.self.view_is own.stands);
    }
