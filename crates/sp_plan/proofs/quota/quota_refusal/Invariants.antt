use Rattle.sp_copies.specs.Kept.{Records}
use Rattle.sp_ledger.specs.Ledger.{Ledger}
use Rattle.sp_ledger.specs.Publish.{quota_check}
use Rattle.sp_ledger.specs.Step.{first_refusal}
use Rattle.std.proofs.Common.{drop, map, ◌≡◌}
use Rattle.sp_plan.proofs.quota.quota_refusal.Given as goal

abbrev pub invariant-loop-endpoint : goal.invariant-loop-endpoint
invariant-loop-endpoint l =
    (L : Ledger) → Records l.copies L.copies →
    first_refusal (map (quota_check L l.size) (map (λ e. e.now) l.into))
    ≡ first_refusal (map (quota_check L l.size) (map (λ e. e.now) (drop l.endpoint-index l.into)))
