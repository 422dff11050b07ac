-- Lists of changes, one after another.
use Rattle.sp_ledger.specs.Allowed.{AreAllowed}
use Rattle.sp_ledger.specs.Changes.{Change, all_changed, changed}
use Rattle.sp_ledger.specs.Ledger.{Ledger}
use Rattle.std.proofs.Common.{refl}
use Rattle.std.specs.Prelude.{List, [], ◌++◌, ◌∷◌, ◌≡◌}

pub changed_append : (xs ys : List Change) (L : Ledger) → all_changed (xs ++ ys) L ≡ all_changed ys (all_changed xs L)
changed_append [] ys L = refl
changed_append (x ∷ xs) ys L = changed_append xs ys (changed x L)

pub allowed_append : (xs ys : List Change) (L : Ledger) → AreAllowed xs L → AreAllowed ys (all_changed xs L) →
    AreAllowed (xs ++ ys) L
allowed_append [] ys L p q = q
allowed_append (x ∷ xs) ys L p q = (p.0, allowed_append xs ys (changed x L) p.1 q)
