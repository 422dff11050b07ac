use Rattle.sp_replaylog.proofs.Numbers.{last_number-at}
use Rattle.sp_replaylog.proofs.log.Log.last.Goals as goal

pub returns : goal.returns
returns c = rw (c.number_of.ensures, c.last.ensures, ← c.self.view_is) (last_number-at c.self.inside.entries.items)
