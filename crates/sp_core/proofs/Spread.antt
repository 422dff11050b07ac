-- A message is spread over the endpoints that take it.
use Rattle.sp_base.specs.declared.refusal.Refusal.{Refusal}
use Rattle.sp_ledger.specs.Step.{Check, first_refusal}
use Rattle.std.proofs.Common.{refl}
use Rattle.std.specs.Prelude.{Bool, false, true, List, None, Some, [], cond, ◌++◌, ◌∷◌, ◌≡◌}

-- the first refusal of two lists, where the first has none
pub first_of_two : (xs ys : List Check) → first_refusal xs ≡ None → first_refusal (xs ++ ys) ≡ first_refusal ys
first_of_two [] ys none = refl
first_of_two (x ∷ xs) ys none = one x.broken none (first_of_two xs ys)
  where
    one : (b : Bool) → cond b (Some x.refusal) (first_refusal xs) ≡ None → (first_refusal xs ≡ None → first_refusal (xs ++ ys) ≡ first_refusal ys) →
        cond b (Some x.refusal) (first_refusal (xs ++ ys)) ≡ first_refusal ys
    one true none rest = absurd (cc)
    one false none rest = rest none

-- and where it has one
pub first_of_first : (xs ys : List Check) (refusal : Refusal) → first_refusal xs ≡ Some refusal → first_refusal (xs ++ ys) ≡ Some refusal
first_of_first [] ys refusal some = absurd (cc)
first_of_first (x ∷ xs) ys refusal some = one x.broken some (first_of_first xs ys refusal)
  where
    one : (b : Bool) → cond b (Some x.refusal) (first_refusal xs) ≡ Some refusal → (first_refusal xs ≡ Some refusal → first_refusal (xs ++ ys) ≡ Some refusal) →
        cond b (Some x.refusal) (first_refusal (xs ++ ys)) ≡ Some refusal
    one true some rest = some
    one false some rest = rest some
