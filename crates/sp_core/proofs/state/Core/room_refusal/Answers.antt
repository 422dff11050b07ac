use Rattle.sp_base.specs.declared.refusal.Kind.TheVariants as kinds
use Rattle.sp_core.proofs.Spread.{first_of_first, first_of_two}
use Rattle.sp_core.proofs.Standing.{standing}
use Rattle.sp_ledger.specs.Ledger.{Ledger}
use Rattle.sp_ledger.specs.Publish.{quota_check}
use Rattle.sp_ledger.specs.Step.{Check, is_copy_spent, is_spent}
use Rattle.std.proofs.Common.{sym, ◌∙◌}
use Rattle.std.specs.Prelude.{List, [], length, map, ℕ, ◌+◌, ◌∷◌}
use Rattle.sp_core.proofs.state.Core.room_refusal.Goals as goal

abbrev numbers : Ledger → ℕ → List Check
numbers L n = is_spent L.next.message kinds.Message ∷ is_copy_spent (L.copies.next + n) ∷ is_spent L.next.unit kinds.Unit ∷ []

pub returns-in-Some : goal.returns-in-Some
returns-in-Some c L s =
    sym (first_of_first (map (quota_check L c.args.size) (map (λ e. e.now) c.args.into.now)) (numbers L (length c.args.into.now)) c.in-Some.refusal
    (sym (sym c.in-Some.is ∙ c.in_ok-refusal.ensures L (standing _ _ L c.self.view_is s).copies)))

pub returns-in-None : goal.returns-in-None
returns-in-None c L s =
    c.numbers_refusal.ensures L s
    ∙ sym (first_of_two (map (quota_check L c.args.size) (map (λ e. e.now) c.args.into.now)) (numbers L (length c.args.into.now))
    (sym (sym c.in-None.is ∙ c.in_ok-refusal.ensures L (standing _ _ L c.self.view_is s).copies)))
