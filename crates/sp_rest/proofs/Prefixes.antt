-- The front of a list that may be too short for it.
use Rattle.std.proofs.Common.{◌≡◌, ◌<◌, ℕ, List, [], length, take, drop, sym, arith}
use Rattle.std.proofs.lemmas.List.{take_all, drop_all}

pub taken : (n : ℕ) (xs : List ℕ) → length xs < n → xs ≡ take n xs
taken n xs short = sym (take_all n xs (omega arith))

pub dropped : (n : ℕ) (xs : List ℕ) → length xs < n → [] ≡ drop n xs
dropped n xs short = sym (drop_all n xs (omega arith))
