use Rattle.std.proofs.Common.{◌<◌, sym, arith}
use Rattle.std.specs.Prelude.{◌==◌, count_by}
use Rattle.std.proofs.lemmas.List.{take_all}
use Rattle.sp_base.proofs.Levels.{slash_at, slashes_below}
use Rattle.sp_base.proofs.topic.slash_after_levels.Goals as goal

pub returns-then-slashes-count-clause-value : goal.returns-then-slashes-count-clause-value
returns-then-slashes-count-clause-value c =
    sym (slash_at c.args.count c.loop-at.at c.args.bytes.now (omega arith) (omega arith) (omega (arith, c.loop-at.invariant.counted)))

pub returns-clause-value : goal.returns-clause-value
returns-clause-value c =
    let whole = take_all c.loop-at.at c.args.bytes.now (omega arith) in
    let few : count_by (λ b. b == 47) c.args.bytes.now < c.args.count = rw whole at (rw c.loop-at.invariant.counted at c.loop-at.invariant.few) in
    sym (slashes_below c.args.count c.args.bytes.now few)
