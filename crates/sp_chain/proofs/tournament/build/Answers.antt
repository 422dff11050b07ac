use Rattle.std.proofs.Common.{arith, ◌∙◌}
use Rattle.std.proofs.lemmas.List.{length-set}
use Rattle.sp_chain.proofs.Tournaments.{behind_next}
use Rattle.sp_chain.proofs.tournament.build.Goals as goal

pub loop-back-preserved : goal.loop-back-preserved
loop-back-preserved c =
    let i = c.loop-back.invariant in (
      length-set c.loop-back.inner _ c.earlier_child.result ∙ i.0,
      behind_next c.loop-back.inner c.args.leaves.now c.loop-back.back c.earlier_child.result (omega (
        arith,
        c.loop-back-test.true,
      )) i.0 c.earlier_child.ensures i.1,
    )
