-- The views of all seats, when one is changed or one is added.
use Rattle.std.proofs.Common.{◌≡◌, ◌≢◌, ℕ, zero, suc, ◌+◌, ◌<◌, ◌≤◌, List, [], ◌∷◌, ◌++◌, length, set, true, false, true≢false, refl, sym, ap, ◌∙◌, subst, ⊎_elim, arith, sum_by}
use Rattle.std.proofs.lemmas.List.Sums.{sum_by-cons, sum_by-append}
use mathlib.Core.Option.{some, some-injective, some-ne-none}
use mathlib.Core.Logic.{dite}
use native.Mathlib.Decide.{ℕ_discrete}
use lib.ListN.{get_elem?}
use Rattle.atomic_table.proofs.Lists.{at_set, at_snoc, at_longer, set_here, set_else}
use Rattle.sp_hall.specs.Rule.{Distinct, IsAnyAtTurn}
use Rattle.sp_hall.specs.declared.seat.View.{View}

pub off : false ≡ true → ⊥
off e = true≢false (sym e)

module _ {A : Type 0} where
  pub there : (l : List A) (i : ℕ) (a : A) → get_elem? l i ≡ some a → i < length l
  there [] i a e = absurd (some-ne-none a (sym e))
  there (x ∷ xs) zero a e = omega arith
  there (x ∷ xs) (suc i) a e = let h = there xs i a e in omega arith

  pub first_of : (l : List A) → length l ≡ 1 → (a : A) × (get_elem? l 0 ≡ some a)
  first_of [] e = absurd (omega arith)
  first_of (x ∷ xs) e = (x, refl)

  pub single : (v u : A) (i : ℕ) → get_elem? (v ∷ []) i ≡ some u → v ≡ u
  single v u zero e = some-injective v u e
  single v u (suc i) e = absurd (some-ne-none u (sym e))

  pub sum_set : (f : A → ℕ) (views : List A) (i : ℕ) (v w : A) → get_elem? views i ≡ some v → sum_by f (set views i w) + f v ≡ sum_by f views + f w
  sum_set f [] i v w e = absurd (some-ne-none v (sym e))
  sum_set f (x ∷ xs) zero v w e =
      let same : f x ≡ f v = ap f (some-injective x v e) in
      omega (arith, sum_by-cons f x xs, sum_by-cons f w xs)
  sum_set f (x ∷ xs) (suc i) v w e =
      let h = sum_set f xs i v w e in
      omega (arith, sum_by-cons f x xs, sum_by-cons f x (set xs i w))

  pub sum_snoc : (f : A → ℕ) (views : List A) (w : A) → sum_by f (views ++ w ∷ []) ≡ sum_by f views + f w
  sum_snoc f views w = omega (arith, sum_by-append f views (w ∷ []), sum_by-cons f w [])

  pub one_le : (f : A → ℕ) (views : List A) (i : ℕ) (v : A) → get_elem? views i ≡ some v → f v ≤ sum_by f views
  one_le f [] i v e = absurd (some-ne-none v (sym e))
  one_le f (x ∷ xs) zero v e = let same : f x ≡ f v = ap f (some-injective x v e) in omega (arith, sum_by-cons f x xs)
  one_le f (x ∷ xs) (suc i) v e = let h = one_le f xs i v e in omega (arith, sum_by-cons f x xs)

  pub sum_le : (f g : A → ℕ) (views : List A) → ((i : ℕ) (v : A) → get_elem? views i ≡ some v → f v ≤ g v) → sum_by f views ≤ sum_by g views
  sum_le f g [] each = omega arith
  sum_le f g (x ∷ xs) each =
      let a = each 0 x refl in
      let b = sum_le f g xs (λ i v e. each (suc i) v e) in
      omega (arith, sum_by-cons f x xs, sum_by-cons g x xs)

  pub sum_zero : (f : A → ℕ) (views : List A) → ((i : ℕ) (v : A) → get_elem? views i ≡ some v → f v ≡ 0) → sum_by f views ≡ 0
  sum_zero f [] each = refl
  sum_zero f (x ∷ xs) each =
      let a = each 0 x refl in
      let b = sum_zero f xs (λ i v e. each (suc i) v e) in
      omega (arith, sum_by-cons f x xs)

  -- what holds of each, when one is changed
  pub each_set : (P : A → Type 0) (views : List A) (id : ℕ) (w : A) → P w → ((i : ℕ) (u : A) → i ≢ id → get_elem? views i ≡ some u → P u) → (i : ℕ) (u : A) → get_elem? (set views id w) i ≡ some u → P u
  each_set P views id w mine others i u e = ⊎_elim
      (λ (a : (i ≡ id) × (w ≡ u)). subst P a.1 mine)
      (λ (a : (i ≢ id) × (get_elem? views i ≡ some u)). others i u a.0 a.1)
      (at_set views id i w u e)

  pub each_snoc : (P : A → Type 0) (views : List A) (w : A) → ((i : ℕ) (u : A) → get_elem? views i ≡ some u → P u) → P w → (i : ℕ) (u : A) → get_elem? (views ++ w ∷ []) i ≡ some u → P u
  each_snoc P views w others mine i u e = ⊎_elim
      (λ p. others i u p)
      (λ (same : w ≡ u). subst P same mine)
      (at_snoc views w u i e)

module _ {E S : Type 0} where
  -- tickets differ, when one view is changed
  pub distinct_set : (views : List (View E S)) (id : ℕ) (w : View E S) → Distinct views
      → (w.drawn ≡ true → (j : ℕ) (u : View E S) → j ≢ id → get_elem? views j ≡ some u → u.drawn ≡ true → w.ticket ≡ u.ticket → ⊥)
      → Distinct (set views id w)
  distinct_set views id w h mine i j u x ei ej di dj t = ⊎_elim
      (λ (a : (i ≡ id) × (w ≡ u)). ⊎_elim
      (λ (c : (j ≡ id) × (w ≡ x)). a.0 ∙ sym c.0)
      (λ (c : (j ≢ id) × (get_elem? views j ≡ some x)). absurd (mine (ap (λ (y : View E S). y.drawn) a.1 ∙ di) j x c.0 c.1 dj (ap (λ (y : View E S). y.ticket) a.1 ∙ t)))
      (at_set views id j w x ej))
      (λ (a : (i ≢ id) × (get_elem? views i ≡ some u)). ⊎_elim
      (λ (c : (j ≡ id) × (w ≡ x)). absurd (mine (ap (λ (y : View E S). y.drawn) c.1 ∙ dj) i u a.0 a.1 di (ap (λ (y : View E S). y.ticket) c.1 ∙ sym t)))
      (λ (c : (j ≢ id) × (get_elem? views j ≡ some x)). h i j u x a.1 c.1 di dj t)
      (at_set views id j w x ej))
      (at_set views id i w u ei)

  -- tickets differ, when a view with no ticket is added
  pub distinct_snoc : (views : List (View E S)) (w : View E S) → Distinct views → w.drawn ≡ false → Distinct (views ++ w ∷ [])
  distinct_snoc views w h idle i j u x ei ej di dj t = ⊎_elim
      (λ p. ⊎_elim
      (λ q. h i j u x p q di dj t)
      (λ (same : w ≡ x). absurd (off (sym idle ∙ ap (λ (y : View E S). y.drawn) same ∙ dj)))
      (at_snoc views w x j ej))
      (λ (same : w ≡ u). absurd (off (sym idle ∙ ap (λ (y : View E S). y.drawn) same ∙ di)))
      (at_snoc views w u i ei)

  -- whose turn it is, when a view is changed but for that
  pub turn_set : (views : List (View E S)) (id : ℕ) (v w : View E S) → get_elem? views id ≡ some v → w.turn ≡ v.turn → IsAnyAtTurn views → IsAnyAtTurn (set views id w)
  turn_set views id v w at same far = dite (ℕ_discrete far.0 id)
      (λ (e : far.0 ≡ id).
      let it : far.1 ≡ v = some-injective far.1 v (sym far.2 ∙ ap (get_elem? views) e ∙ at) in
      (id, w, set_here views id w (there views id v at), same ∙ sym (ap (λ (y : View E S). y.turn) it) ∙ far.3))
      (λ (ne : far.0 ≢ id). (far.0, far.1, set_else views id far.0 w ne ∙ far.2, far.3))

  pub turn_was : (views : List (View E S)) (id : ℕ) (v w : View E S) → get_elem? views id ≡ some v → w.turn ≡ v.turn → IsAnyAtTurn (set views id w) → IsAnyAtTurn views
  turn_was views id v w at same far = ⊎_elim
      (λ (a : (far.0 ≡ id) × (w ≡ far.1)). (id, v, at, sym same ∙ ap (λ (y : View E S). y.turn) a.1 ∙ far.3))
      (λ (a : (far.0 ≢ id) × (get_elem? views far.0 ≡ some far.1)). (far.0, far.1, a.1, far.3))
      (at_set views id far.0 w far.1 far.2)

  -- the same when a view is added at which it is not
  pub turn_longer : (views : List (View E S)) (w : View E S) → IsAnyAtTurn views → IsAnyAtTurn (views ++ w ∷ [])
  turn_longer views w far = (far.0, far.1, at_longer views (w ∷ []) far.0 far.1 far.2, far.3)

  pub turn_before : (views : List (View E S)) (w : View E S) → w.turn ≡ false → IsAnyAtTurn (views ++ w ∷ []) → IsAnyAtTurn views
  turn_before views w idle far = ⊎_elim
      (λ p. (far.0, far.1, p, far.3))
      (λ (same : w ≡ far.1). absurd (off (sym idle ∙ ap (λ (y : View E S). y.turn) same ∙ far.3)))
      (at_snoc views w far.1 far.0 far.2)
