-- One more call that failed by the plan.
use Rattle.std.proofs.Common.{◌≡◌, ⊎_elim, ℕ, ◌+◌, ◌<◌, ◌≤◌, List, [], ◌∷◌, ◌++◌, length, sym, ap, ◌∙◌, subst, arith, length-append}
use Rattle.std.specs.Prelude.{Option, get_or}
use Rattle.std.proofs.Math.Seq.{get_or-append_seam}
use Rattle.std.proofs.lemmas.Bool.{cases_lt}
use Rattle.std.proofs.lemmas.List.{get_or_append_left}
use Rattle.sp_disk.specs.declared.call.Taken.{Taken}
use Rattle.sp_disk.specs.Plan.{is_to_fail, FailedByPlan}

pub planned_more : (failing : List ℕ) (stop : Option ℕ) (calls : List Taken) (taken : Taken) → taken.failed ≡ is_to_fail failing stop (length calls + 1)
    → FailedByPlan failing stop calls → FailedByPlan failing stop (calls ++ taken ∷ [])
planned_more failing stop calls taken is planned k d lt = ⊎_elim before last (cases_lt k (length calls))
  where
    all : List Taken
    all = calls ++ taken ∷ []

    before : k < length calls → (get_or all k d).failed ≡ is_to_fail failing stop (k + 1)
    before less = ap (λ (t : Taken). t.failed) (get_or_append_left calls (taken ∷ []) d k less) ∙ planned k d less

    last : length calls ≤ k → (get_or all k d).failed ≡ is_to_fail failing stop (k + 1)
    last ge =
        let same : k ≡ length calls = omega (arith, lt, ge, length-append calls (taken ∷ [])) in
        subst (λ (n : ℕ). (get_or all n d).failed ≡ is_to_fail failing stop (n + 1)) (sym same)
        (ap (λ (t : Taken). t.failed) (get_or-append_seam calls taken [] d) ∙ is)
