-- Which copies are closed and held after one more was, and after one was let go.
use Rattle.std.proofs.Common.{◌≡◌, ◌≤◌, ◌==◌, ℕ, ◌+◌, Bool, true, false, not, ◌&&◌, ◌||◌, cond, List, [], ◌∷◌, ◌++◌, refl, ap, sym, ◌∙◌, arith, filter, length}
use Rattle.std.proofs.lemmas.List.Folds.{list_any-append}
use Rattle.std.proofs.lemmas.List.Filters.{length-filter_both}
use Rattle.std.proofs.lemmas.Map.Views.{any-filter_same}
use Rattle.std.proofs.lemmas.Bool.{eqb-true, eqb-false, ne_eqb, eq-eqb}
use Rattle.sp_copies.specs.declared.closed.ClosedCopy.{ClosedCopy}
use Rattle.sp_copies.specs.declared.held.HeldCopy.{HeldCopy}
use Rattle.sp_copies.specs.declared.made.MadeCopy.{MadeCopy}
use Rattle.sp_copies.specs.History.{is_closed, is_held, is_made, let_go}

or-nothing : (b : Bool) → (b || false) ≡ b
or-nothing true = refl
or-nothing false = refl

-- two numbers are equal, whichever comes first
pub eqb-turned : (a b : ℕ) → (a == b) ≡ (b == a)
eqb-turned a b = one (a == b) refl
  where
    one : (t : Bool) → (a == b) ≡ t → (a == b) ≡ (b == a)
    one true h = h ∙ sym (eq-eqb b a (sym (eqb-true a b h)))
    one false h = h ∙ sym (ne_eqb b a (λ e. eqb-false a b h (sym e)))

-- one more closing
pub is_closed-push : (closed : List ClosedCopy) (x : ClosedCopy) (copy : ℕ) → is_closed (closed ++ x ∷ []) copy ≡
    (is_closed closed copy || (x.copy == copy))
is_closed-push closed x copy = list_any-append {X = ClosedCopy} (λ y. y.copy == copy) closed (x ∷ []) ∙ ap
    (λ b. is_closed closed copy || b) (or-nothing (x.copy == copy))

-- one more copy
pub is_made-push : (made : List MadeCopy) (c : MadeCopy) (copy : ℕ) → is_made (made ++ c ∷ []) copy ≡
    (is_made made copy || (c.number == copy))
is_made-push made c copy = list_any-append {X = MadeCopy} (λ x. x.number == copy) made (c ∷ []) ∙ ap
    (λ b. is_made made copy || b) (or-nothing (c.number == copy))

-- one more held copy
pub is_held-push : (held : List HeldCopy) (h : HeldCopy) (copy : ℕ) → is_held (held ++ h ∷ []) copy ≡
    (is_held held copy || (h.copy == copy))
is_held-push held h copy = list_any-append {X = HeldCopy} (λ x. x.copy == copy) held (h ∷ []) ∙ ap
    (λ b. is_held held copy || b) (or-nothing (h.copy == copy))

-- what is let go isn't held, and the others are as they were
pub is_held-let_go : (held : List HeldCopy) (gone copy : ℕ) → is_held (let_go gone held) copy ≡
    (not (copy == gone) && is_held held copy)
is_held-let_go held gone copy = any-filter_same {K = HeldCopy} (λ h. h.copy == copy) (λ h. not (h.copy == gone))
    (not (copy == gone)) (λ h e. ap (λ k. not (k == gone)) (eqb-true h.copy copy e)) held

pub held-else : (held : List HeldCopy) (gone copy : ℕ) → (copy == gone) ≡ false → is_held (let_go gone held) copy
    ≡ is_held held copy
held-else held gone copy ne = is_held-let_go held gone copy ∙ ap (λ b. not b && is_held held copy) ne

pub neither : (a b : Bool) → not (a || b) ≡ true → (not a ≡ true) × (b ≡ false)
neither true b e = absurd (cc)
neither false true e = absurd (cc)
neither false false e = (refl, refl)

-- what is open after one more closing was open before, and isn't what was closed
pub still-open : (closed : List ClosedCopy) (x : ClosedCopy) (copy : ℕ) → not (is_closed (closed ++ x ∷ []) copy)
    ≡ true → (not (is_closed closed copy) ≡ true) × ((x.copy == copy) ≡ false)
still-open closed x copy h = neither (is_closed closed copy) (x.copy == copy)
    (ap not (sym (is_closed-push closed x copy)) ∙ h)

-- what is free after one more was handed out was free before
pub still-free : (held : List HeldCopy) (h : HeldCopy) (copy : ℕ) → not (is_held (held ++ h ∷ []) copy) ≡ true →
    (not (is_held held copy) ≡ true) × ((h.copy == copy) ≡ false)
still-free held h copy e = neither (is_held held copy) (h.copy == copy) (ap not (sym (is_held-push held h copy)) ∙ e)

-- what was let go was there
pub one-let-go : (held : List HeldCopy) (gone : ℕ) → is_held held gone ≡ true → length
    (let_go gone held) + 1 ≤ length held
one-let-go held gone h = omega (
  arith,
  length-filter_both {X = HeldCopy} (λ x. not (x.copy == gone)) (λ x. x.copy == gone)
      (λ x. twice (x.copy == gone)) held,
  some held h,
)
  where
    twice : (b : Bool) → b ≡ not (not b)
    twice true = refl
    twice false = refl

    some : (hs : List HeldCopy) → is_held hs gone ≡ true → 1 ≤ length (filter (λ x. x.copy == gone) hs)
    some [] e = absurd (cc)
    some (x ∷ xs) e = first (x.copy == gone) e (λ k. some xs k)
      where
        first : (b : Bool) → (b || is_held xs gone) ≡ true →
            (is_held xs gone ≡ true → 1 ≤ length (filter (λ y. y.copy == gone) xs)) → 1 ≤ length
            (cond b (x ∷ filter (λ y. y.copy == gone) xs) (filter (λ y. y.copy == gone) xs))
        first true k later = omega arith
        first false k later = later k
