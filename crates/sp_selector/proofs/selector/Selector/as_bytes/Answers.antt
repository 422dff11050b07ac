use Rattle.std.proofs.Common.{◌≡◌, ◌≤◌, ℕ, List, None, length, subst}
use Rattle.sp_selector.specs.Takes.{selector_fault}
use Rattle.sp_selector.specs.Tree.{expression}
use Rattle.sp_selector.proofs.Answered.{fault_none}
use Rattle.sp_selector.proofs.Selectors.{selector_complete}
use Rattle.sp_selector.proofs.selector.Selector.as_bytes.Goals as goal

pub returns-clause-form : goal.returns-clause-form
returns-clause-form c =
    let text = c.self.inside.text in
    let e = expression c.self.inside.tree in
    subst (λ (t : List ℕ). selector_fault t ≡ None) c.self.view_is (fault_none text e (selector_complete text e c.self.invariant))

pub returns-clause-bound : goal.returns-clause-bound
returns-clause-bound c = subst (λ (t : List ℕ). length t ≤ 2000) c.self.view_is c.self.invariant.short
