-- A closing that a copy has stays, whatever is closed later.
use Rattle.sp_copies.specs.Counts.{is_moved}
use Rattle.sp_copies.specs.History.{closing_of, is_closed}
use Rattle.sp_copies.specs.declared.closed.ClosedCopy.{ClosedCopy}
use Rattle.sp_copies.specs.declared.closed.Closing.{Closing}
use Rattle.sp_ledger.proofs.Listed.{any_grows, find_stays}
use Rattle.sp_ledger.specs.One.{is_move_to}
use Rattle.std.proofs.Common.{ap, refl, ◌∙◌}
use Rattle.std.proofs.lemmas.List.Folds.{find-append}
use Rattle.std.specs.Prelude.{Bool, List, None, Option, Some, [], cond, false, find, option_map, true, ℕ, ◌++◌, ◌==◌}
use Rattle.std.specs.Prelude.{◌∷◌, ◌≡◌}

pub still_closed : (closed more : List ClosedCopy) (copy : ℕ) → is_closed closed copy ≡ true →
    is_closed (closed ++ more) copy ≡ true
still_closed closed more copy h = any_grows {X = ClosedCopy} (λ x. x.copy == copy) closed more h

pub still_closing : (closed more : List ClosedCopy) (copy : ℕ) (how : Closing) → closing_of closed copy ≡ Some how →
    closing_of (closed ++ more) copy ≡ Some how
still_closing closed more copy how h = one (find (λ (x : ClosedCopy). x.copy == copy) closed) refl h
  where
    one : (found : Option ClosedCopy) → find (λ (x : ClosedCopy). x.copy == copy) closed ≡ found →
        option_map (λ (x : ClosedCopy). x.how) found ≡ Some how → closing_of (closed ++ more) copy ≡ Some how
    one None is k = absurd (cc)
    one (Some x) is k = ap (option_map (λ (y : ClosedCopy). y.how))
        (find_stays {X = ClosedCopy} (λ y. y.copy == copy) closed more x is) ∙ k

-- a copy that was closed by a move stays so
pub still_move_to : (closed more : List ClosedCopy) (copy to : ℕ) → is_move_to to (closing_of closed copy) ≡ true →
    is_move_to to (closing_of (closed ++ more) copy) ≡ true
still_move_to closed more copy to h = one (closing_of closed copy) refl h
  where
    one : (closing : Option Closing) → closing_of closed copy ≡ closing → is_move_to to closing ≡ true →
        is_move_to to (closing_of (closed ++ more) copy) ≡ true
    one None is k = absurd (cc)
    one (Some how) is k = ap (is_move_to to) (still_closing closed more copy how is) ∙ k

-- one more closing that is no move moves no copy
pub still_unmoved : (closed : List ClosedCopy) (x : ClosedCopy) → is_moved (Some x.how) ≡ false → (copy : ℕ) →
    is_moved (closing_of closed copy) ≡ false → is_moved (closing_of (closed ++ x ∷ []) copy) ≡ false
still_unmoved closed x isnt copy h = one (find (λ (y : ClosedCopy). y.copy == copy) closed) refl h
  where
    behind : (b : Bool) → is_moved (option_map (λ (y : ClosedCopy). y.how) (cond b (Some x) None)) ≡ false
    behind true = isnt
    behind false = refl

    one : (found : Option ClosedCopy) → find (λ (y : ClosedCopy). y.copy == copy) closed ≡ found →
        is_moved (option_map (λ (y : ClosedCopy). y.how) found) ≡ false →
        is_moved (closing_of (closed ++ x ∷ []) copy) ≡ false
    one None is k = rw (find-append {X = ClosedCopy} (λ y. y.copy == copy) closed (x ∷ []), is)
        (behind (x.copy == copy))
    one (Some y) is k = ap (λ f. is_moved (option_map (λ (z : ClosedCopy). z.how) f))
        (find_stays {X = ClosedCopy} (λ z. z.copy == copy) closed (x ∷ []) y is) ∙ k
