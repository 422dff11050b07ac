-- What changes need, one change more.
use Rattle.sp_plan.specs.Plan.{change_of, changes_of, need_of, need_of_all}
use Rattle.sp_plan.specs.declared.change.Change as own
use Rattle.sp_ledger.specs.Changes.{Change}
use Rattle.std.proofs.Common.{ap, arith, get_or, sym, take, ◌∙◌}
use Rattle.std.proofs.lemmas.List.{map-append, take_more}
use Rattle.std.proofs.lemmas.List.Sums.{sum_by-append}
use Rattle.std.specs.Prelude.{List, [], length, sum_by, ℕ, ◌+◌, ◌<◌, ◌∷◌, ◌≡◌}

sum_more : (f : Change → ℕ) (cs : List own.Change) (i : ℕ) (d : own.Change) → i < length cs →
    sum_by f (changes_of (take (i + 1) cs)) ≡ sum_by f (changes_of (take i cs)) + f (change_of (get_or cs i d))
sum_more f cs i d lt =
    let more = ap (λ (xs : List own.Change). sum_by f (changes_of xs)) (take_more cs i d lt) in
    let parts = ap (sum_by f) (map-append change_of (take i cs) (get_or cs i d ∷ [])) in
    let sums = sum_by-append f (changes_of (take i cs)) (change_of (get_or cs i d) ∷ []) in
    more ∙ (parts ∙ (sums ∙ (omega arith)))

pub need_more : (cs : List own.Change) (i : ℕ) (d : own.Change) → i < length cs →
    record {
      endpoints = (need_of_all (changes_of (take i cs))).endpoints + (need_of (change_of (get_or cs i d))).endpoints;
      messages = (need_of_all (changes_of (take i cs))).messages + (need_of (change_of (get_or cs i d))).messages;
      copies = (need_of_all (changes_of (take i cs))).copies + (need_of (change_of (get_or cs i d))).copies;
      flows = (need_of_all (changes_of (take i cs))).flows + (need_of (change_of (get_or cs i d))).flows;
    } ≡ need_of_all (changes_of (take (i + 1) cs))
need_more cs i d lt = λ j. record {
  endpoints = sym (sum_more (λ c. (need_of c).endpoints) cs i d lt) j;
  messages = sym (sum_more (λ c. (need_of c).messages) cs i d lt) j;
  copies = sym (sum_more (λ c. (need_of c).copies) cs i d lt) j;
  flows = sym (sum_more (λ c. (need_of c).flows) cs i d lt) j;
}
