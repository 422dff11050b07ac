use Rattle.std.proofs.Common.{◌∙◌, sym, arith}
use Rattle.sp_endpoint.proofs.Renewals.{next_alike}
use Rattle.sp_endpoint.proofs.renewal.common.Goals as goal

pub loop-same-preserved : goal.loop-same-preserved
loop-same-preserved c = (
  omega (arith, c.loop-same-test.true),
  omega (arith, c.if-same-to.true),
  next_alike c.args.from.now c.args.to.now c.loop-same.same c.index-from-same.result c.index-to-same.result
      (omega (arith, c.loop-same-test.true)) (omega (arith, c.if-same-to.true)) c.loop-same.invariant.2
      c.index-from-same.is c.index-to-same.is (sym c.same.ensures ∙ c.if-same.true),
)
