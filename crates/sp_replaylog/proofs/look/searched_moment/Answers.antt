use Rattle.std.proofs.Common.{◌∙◌}
use Rattle.sp_replaylog.specs.declared.entry.Entry.{Entry}
use Rattle.sp_replaylog.proofs.Order.{found_at}
use Rattle.sp_replaylog.proofs.look.searched_moment.Goals as goal

pub returns : goal.returns
returns c = c.at_place.ensures ∙ found_at (λ (e : Entry). e.moment) c.args.moment c.args.queue.now.items c.moments_below.result c.moments_below.ensures.bound c.moments_below.ensures.parted
