-- A tree over the places of deadlines, in which each node has the earlier of what its two children have.
use Rattle.std.specs.Prelude.{◌≡◌, ◌≢◌, ◌≤◌, ◌<◌, ◌+◌, ◌-◌, ◌*◌, ℕ, List, Option, length, nat_lt, if◌then◌else◌}
use Rattle.sp_chain.specs.declared.deadline.Deadline.{Deadline}
use Rattle.sp_chain.specs.Deadlines.{at, earlier}

-- what a node has: those of numbers below that of the places are inner ones, and the leaves follow
abbrev pub node : List (Option Deadline) → List (Option Deadline) → ℕ → Option Deadline
node inner leaves n = if nat_lt n (length leaves) then at inner n else at leaves (n - length leaves)

-- an inner node has the earlier of what its two children have
abbrev pub IsRight : List (Option Deadline) → List (Option Deadline) → ℕ → Type 0
IsRight inner leaves n = at inner n ≡ earlier (node inner leaves (2 * n)) (node inner leaves (2 * n + 1))

-- all inner nodes but one have
abbrev pub IsRightBut : List (Option Deadline) → List (Option Deadline) → ℕ → Type 0
IsRightBut inner leaves but = (n : ℕ) → 1 ≤ n → n < length leaves → n ≢ but → IsRight inner leaves n

-- all inner nodes have, the root with number 1
pub record IsTournament (inner leaves : List (Option Deadline)) : Type 0 where
  pub len : length inner ≡ length leaves
  pub right : (n : ℕ) → 1 ≤ n → n < length leaves → IsRight inner leaves n
