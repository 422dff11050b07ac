use Rattle.std.proofs.Common.{arith, ◌∙◌}
use Rattle.std.proofs.lemmas.List.{length-set}
use Rattle.sp_chain.proofs.Tournaments.{but_next}
use Rattle.sp_chain.proofs.tournament.mend.Goals as goal

pub loop-at-preserved : goal.loop-at-preserved
loop-at-preserved c =
    let i = c.loop-at.invariant in (
      length-set c.loop-at.inner c.loop-at.at c.earlier_child.result ∙ i.0,
      omega (arith, i.1),
      but_next c.loop-at.inner c.args.leaves.now c.loop-at.at c.earlier_child.result (omega (
        arith,
        c.loop-at-test.true,
      )) (omega (arith, i.0, i.1)) c.earlier_child.ensures i.2,
    )
