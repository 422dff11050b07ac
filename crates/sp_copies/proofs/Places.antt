-- How many closings come after the one at a place.
use Rattle.std.proofs.Common.{◌≡◌, ◌==◌, ℕ, ◌+◌, Bool, true, false, cond, List, [], ◌∷◌, refl, sym, ◌∙◌, arith, length, position, Some, None}
use Rattle.std.specs.List.{position_from}
use Rattle.std.proofs.lemmas.Iterator.Adapters.{position_from-zero}
use Rattle.sp_copies.specs.declared.closed.ClosedCopy.{ClosedCopy}
use Rattle.sp_copies.specs.History.{closed_after}

from-some : (closed : List ClosedCopy) (copy i place : ℕ) → position_from (λ x. x.copy == copy) i closed ≡ Some place → closed_after closed copy + place + 1 ≡ length closed + i
from-some [] copy i place h = absurd (cc)
from-some (x ∷ later) copy i place h = one (x.copy == copy) h (λ k. from-some later copy (i + 1) place k)
  where
    one : (b : Bool) → cond b (Some i) (position_from (λ (y : ClosedCopy). y.copy == copy) (i + 1) later) ≡ Some place → (position_from (λ (y : ClosedCopy). y.copy == copy) (i + 1) later ≡ Some place → closed_after later copy + place + 1 ≡ length later + (i + 1)) → cond b (length later) (closed_after later copy) + place + 1 ≡ length (x ∷ later) + i
    one true k rest = let same : i ≡ place = cc in omega arith
    one false k rest = omega (arith, rest k)

from-none : (closed : List ClosedCopy) (copy i : ℕ) → position_from (λ x. x.copy == copy) i closed ≡ None → closed_after closed copy ≡ 0
from-none [] copy i h = refl
from-none (x ∷ later) copy i h = one (x.copy == copy) h (λ k. from-none later copy (i + 1) k)
  where
    one : (b : Bool) → cond b (Some i) (position_from (λ (y : ClosedCopy). y.copy == copy) (i + 1) later) ≡ None → (position_from (λ (y : ClosedCopy). y.copy == copy) (i + 1) later ≡ None → closed_after later copy ≡ 0) → cond b (length later) (closed_after later copy) ≡ 0
    one true k rest = absurd (cc)
    one false k rest = rest k

pub after-place : (closed : List ClosedCopy) (copy place : ℕ) → position (λ x. x.copy == copy) closed ≡ Some place → closed_after closed copy + place + 1 ≡ length closed
after-place closed copy place h = from-some closed copy 0 place (sym (position_from-zero {B = ClosedCopy} (λ x. x.copy == copy) closed) ∙ h) ∙ (omega arith)

pub after-none : (closed : List ClosedCopy) (copy : ℕ) → position (λ x. x.copy == copy) closed ≡ None → closed_after closed copy ≡ 0
after-none closed copy h = from-none closed copy 0 (sym (position_from-zero {B = ClosedCopy} (λ x. x.copy == copy) closed) ∙ h)
