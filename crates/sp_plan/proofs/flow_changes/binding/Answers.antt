use Rattle.sp_plan.proofs.EachChange.{bind_changes}
use Rattle.sp_plan.proofs.flow_changes.binding.Goals as goal

pub returns : goal.returns
returns c =
    bind_changes c.args.endpoint.now c.args.bound c.args.copies.now c.in_ok-changes.changes.items
    c.push_rebound.new.changes.items c.push.new.self.items c.args.flow c.in_ok-changes.ensures
    c.in_ok-push_rebound.ensures c.in_ok-push.ensures.items
