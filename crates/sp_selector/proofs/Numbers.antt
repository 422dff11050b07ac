-- Arithmetic on numbers of millionths.
use Rattle.std.proofs.Common.{◌≡◌, ◌==◌, ℤ, pos, negsuc, false, arith}
use Rattle.std.specs.Prelude.{unsigned_abs, int_div, ◌*ℤ◌}
use Rattle.std.proofs.lemmas.Bool.{cond-false}
use Rattle.std.proofs.lemmas.Bool.Decides.{nat_tests}
use mir.Val.{of_z}
use mir.Syntax.{w128}
use Rattle.sp_selector.specs.Values.{bounded, quotient}

not_zero : (y : ℤ) → (of_z w128 y ≡ 0 → ⊥) → (unsigned_abs y == 0) ≡ false
not_zero (pos n) h = grind (arith, nat_tests)
not_zero (negsuc n) h = grind (arith, nat_tests)

pub quotient_by_some : (x y : ℤ) → (of_z w128 y ≡ 0 → ⊥) → quotient x y ≡ bounded (int_div (x *ℤ pos 1000000) y)
quotient_by_some x y h = cond-false _ _ _ (not_zero y h)
