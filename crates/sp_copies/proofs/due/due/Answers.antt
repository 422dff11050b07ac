use Rattle.std.proofs.Common.{◌&&◌, ◌∙◌, not, sym}
use Rattle.sp_copies.specs.History.{has_come, is_closed, is_held}
use Rattle.sp_copies.proofs.Deadlines.{firsts-more}
use Rattle.sp_copies.proofs.due.due.Goals as goal

pub loop-copy-preserved : goal.loop-copy-preserved
loop-copy-preserved c =
    c.in_ok-place.ensures
    ∙ firsts-more
    (λ x. not (is_closed c.args.closed.now x.number) && not
    (is_held c.args.held.now x.number) && has_come x.deadline c.args.moment)
    c.args.made.now c.loop-copy.copy-index c.args.most c.copy-item.result c.loop-copy.first.items c.loop-copy-test.true c.copy-item.is
    (sym c.is_due.ensures ∙ c.if-not-is_due.false) c.loop-copy.invariant
