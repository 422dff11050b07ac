-- Sums that stop at a bound.
use Rattle.std.proofs.Common.{◌≡◌, ◌≤◌, ℕ, ◌+◌, List, [], ◌∷◌, min, fold, sum_by, arith, ap, zero-add, ◌∙◌}
use Rattle.std.proofs.lemmas.List.Sums.{sum_by-cons}
use Rattle.sp_copies.specs.declared.made.MadeCopy.{MadeCopy}

fold-min : (most : ℕ) (cs : List MadeCopy) (start : ℕ) → start ≤ most → fold
    (λ used (c : MadeCopy). min (used + c.size) most) start cs ≡ min
    (start + sum_by (λ (c : MadeCopy). c.size) cs) most
fold-min most [] start h = omega arith
fold-min most (c ∷ cs) start h =
    rw (sum_by-cons {X = MadeCopy} (λ c. c.size) c cs)
    (let k : min (start + c.size) most ≤ most = omega arith in
    fold-min most cs (min (start + c.size) most) k ∙ (omega arith))

pub total-min : (most : ℕ) (cs : List MadeCopy) → fold (λ used (c : MadeCopy). min (used + c.size) most) 0 cs ≡ min
    (sum_by (λ (c : MadeCopy). c.size) cs) most
total-min most cs = fold-min most cs 0 (omega arith) ∙ ap (λ n. min n most)
    (zero-add (sum_by (λ (c : MadeCopy). c.size) cs))
