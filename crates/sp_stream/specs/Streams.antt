-- Streams in memory, the calls of them that fail, and streams over others.
use Rattle.std.specs.Prelude.{ℕ, ◌+◌, ◌-◌, ◌^◌, ◌==◌, min, Bool, List}
use Rattle.std.specs.List.{list_any}

-- the bytes that a source has left or that a sink took, the count of faults, how many calls there were, and the
-- numbers of the calls that fail, from 1
pub record Stream : Type 0 where
  pub bytes : List ℕ
  pub faults : ℕ
  pub calls : ℕ
  pub failing : List ℕ

-- one more, up to the greatest u64
abbrev pub one_more : ℕ → ℕ
one_more n = min (n + 1) (2 ^ 64 - 1)

-- whether the next call is one that fails
abbrev pub fails_next : Stream → Bool
fails_next s = list_any (λ n. n == one_more s.calls) s.failing

-- a reader or writer of the operating system, and how often it has failed
pub record Counted (T : Type 0) : Type 0 where
  pub stream : T
  pub faults : ℕ
