-- A copy that was made has one fate.
use Rattle.sp_copies.proofs.Counting.{once-made}
use Rattle.sp_copies.specs.History.{History, is_made}
use Rattle.sp_copies.specs.Sound.{HasOneFate, IsSoundHistory}
use Rattle.sp_copies.specs.declared.made.MadeCopy.{MadeCopy}
use Rattle.sp_ledger.proofs.Listed.{none_counted}
use Rattle.std.proofs.Common.{arith, refl, suc, zero}
use Rattle.std.proofs.lemmas.List.Folds.{list_any_none}
use Rattle.std.specs.List.{list_any}
use Rattle.std.specs.Prelude.{AllPairs, Bool, List, count_by, false, true, ℕ, ◌<◌, ◌==◌, ◌≡◌, ◌≤◌}

-- what is found is counted
counted : {X : Type 0} (p : X → Bool) (xs : List X) → list_any p xs ≡ true → 1 ≤ count_by p xs
counted p xs found = one (count_by p xs) refl
  where
    one : (n : ℕ) → count_by p xs ≡ n → 1 ≤ n
    one zero none = absurd (let lost : list_any p xs ≡ false = list_any_none p xs (none_counted p xs none) in cc)
    one (suc n) some = omega arith

-- where numbers rise, a number that stands stands once
stands_once : (n : ℕ) (cs : List MadeCopy) → AllPairs (λ (a b : MadeCopy). a.number < b.number) cs →
    is_made cs n ≡ true → count_by (λ c. c.number == n) cs ≡ 1
stands_once n cs rises made = let least = counted {X = MadeCopy} (λ c. c.number == n) cs made in let most =
    once-made n cs rises in omega arith

pub one_fate : (H : History) → IsSoundHistory H → (copy : ℕ) → is_made H.made copy ≡ true → HasOneFate H copy
one_fate H s copy made = record { made_once = stands_once copy H.made s.rise made; closed_once = s.closed_once copy }
