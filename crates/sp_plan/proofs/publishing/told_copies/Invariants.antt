use Rattle.sp_ledger.specs.Publish.{told_copies}
use Rattle.std.proofs.Common.{drop, map, ◌++◌, ◌+◌, ◌≡◌}
use Rattle.sp_plan.proofs.publishing.told_copies.Given as goal

-- the copies so far have the numbers from the first on, and the rest comes next
pub record IsTold (numbered told : Type 0) : Type 0 where
  pub is_numbered : numbered
  pub is_told : told

abbrev pub invariant-loop-endpoint : goal.invariant-loop-endpoint
invariant-loop-endpoint l =
    IsTold (l.number ≡ l.first + l.endpoint-index)
    (l.told.items ++ told_copies l.number (map (λ e. e.now) (drop l.endpoint-index l.into))
    ≡ told_copies l.first (map (λ e. e.now) l.into))
