-- The longest front of a text whose bytes pass a test.
use Rattle.std.proofs.Common.{◌≡◌, ◌≤◌, ℕ, Bool, List, length, None, arith}
use Rattle.std.specs.Prelude.{not, position}
use Rattle.std.specs.List.{position_or_len}
use Rattle.std.proofs.lemmas.Bool.Decides.{nat_tests}
use Rattle.std.proofs.lemmas.List.Sums.{prefix_len-le-length}

pub front_is_within : (p : ℕ → Bool) (text : List ℕ) → position_or_len p text ≤ length text
front_is_within p text = prefix_len-le-length (λ b. not (p b)) text

pub front_is_all : (p : ℕ → Bool) (text : List ℕ) → None ≡ position p text → position_or_len p text ≡ length text
front_is_all p text h = let within = front_is_within p text in grind (arith, nat_tests, h)
