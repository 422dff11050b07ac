-- One step of the parser.
use Rattle.std.proofs.Common.{◌≡◌, ◌-◌, ◌<◌, ℕ, zero, suc, List, length, Err, refl, ap, arith}
use Rattle.sp_selector.specs.declared.token.Token.{Token}
use Rattle.sp_selector.specs.Parser.{Goal, reads, step}

pub reads_step : (n : ℕ) (goal : Goal) (ts : List Token) → 0 < n → reads n goal ts ≡ step (reads (n - 1)) goal ts
unfolding reads
reads_step zero goal ts some = absurd (omega arith)
reads_step (suc n) goal ts some = let last : n ≡ suc n - 1 = omega arith in ap (λ m. step (reads m) goal ts) last

pub reads_none : (n : ℕ) (goal : Goal) (ts : List Token) → n ≡ 0 → reads n goal ts ≡ Err (length ts)
unfolding reads
reads_none zero goal ts none = refl
reads_none (suc n) goal ts none = absurd (omega arith)
