use Rattle.std.proofs.Common.{◌∙◌, sym, ap, subst}
use Rattle.sp_replaylog.specs.Order.{IsInOrder, may_follow}
use Rattle.sp_replaylog.proofs.Order.{stays_in_order}
use Rattle.sp_replaylog.proofs.entries.Entries.stays_in_order.Goals as goal

pub returns : goal.returns
returns c = λ follows.
    let order = subst (λ e. IsInOrder e.items) c.self.view_is (c.self.invariant c.if-not-self.false) in
    let next = sym (ap (λ last. may_follow last c.args.entry.now) c.last.ensures) ∙ sym c.may_follow.ensures ∙ follows in
    stays_in_order c.args.self.now.items c.args.entry.now order next
