-- What is left of the texts of an endpoint when one goes.
use Rattle.std.proofs.Common.{◌≡◌, ◌∙◌, ℕ, Bool, true, false, not, ◌&&◌, List, refl, sym, ap}
use Rattle.std.specs.Prelude.{bytes_eq, filter}
use Rattle.std.specs.Cmp.Lexicographic.{same_text}
use Rattle.std.proofs.lemmas.Map.Views.{any-filter_same}
use Rattle.sp_topic.specs.Subscriptions.{has_text}

and_comm : (a b : Bool) → (a && b) ≡ (b && a)
and_comm true true = refl
and_comm true false = refl
and_comm false true = refl
and_comm false false = refl

-- the texts without one of them
pub texts_kept : (texts : List (List ℕ)) (gone text : List ℕ) → has_text (filter (λ s. not (bytes_eq s gone)) texts) text ≡ (has_text texts text && not (bytes_eq text gone))
texts_kept texts gone text =
    any-filter_same (λ s. bytes_eq s text) (λ s. not (bytes_eq s gone)) (not (bytes_eq text gone)) (λ s h. ap (λ x. not (bytes_eq x gone)) (same_text s text (sym h))) texts
    ∙ and_comm (not (bytes_eq text gone)) (has_text texts text)
