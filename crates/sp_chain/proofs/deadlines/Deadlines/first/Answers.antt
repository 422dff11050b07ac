use Rattle.std.proofs.Common.{sym}
use Rattle.sp_chain.proofs.Tournaments.{root_is_first}
use Rattle.sp_chain.proofs.deadlines.Deadlines.first.Goals as goal

pub returns : goal.returns
returns c =
    rw (← c.self.view_is)
    (root_is_first _ _ c.self.invariant c.node.result (rw (
      ← c.as_slice.ensures.value,
      ← c.as_slice-2.ensures.value,
    ) (sym c.node.ensures)))
