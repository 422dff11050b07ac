use Rattle.sp_copies.specs.Kept.{Records}
use Rattle.sp_ledger.specs.Ledger.{Ledger}
use Rattle.sp_plan.proofs.FlowsTold.{told_among}
use Rattle.std.proofs.Common.{take, ◌≡◌}
use Rattle.sp_plan.proofs.told.bound_flows.Given as goal

abbrev pub invariant-loop-flow : goal.invariant-loop-flow
invariant-loop-flow l =
    (L : Ledger) → l.flows.flows ≡ L.flows → Records l.copies L.copies →
    l.told.items ≡ told_among L l.endpoint (take l.flow-index l.flows.flows)
