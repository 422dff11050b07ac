use Rattle.sp_copies.specs.declared.made.MadeCopy.{MadeCopy}
use Rattle.sp_ledger.specs.OnCopies.{is_named}
use Rattle.sp_plan.proofs.Taken.{full}
use Rattle.std.proofs.Common.{arith, ◌∙◌}
use Rattle.sp_ending.proofs.plans.first_named.Goals as goal

pub returns-then-len-most : goal.returns-then-len-most
returns-then-len-most c =
    c.from_vec.ensures
    ∙ full {X = MadeCopy} (is_named c.args.copy) c.args.copies.now c.args.most c.loop-own.own-index
    c.loop-own.named.items c.loop-own.invariant (omega (arith, c.if-len-most.true, c.len.ensures))
