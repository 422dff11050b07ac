use Rattle.std.proofs.Common.{arith, sym, ◌∙◌}
use Rattle.sp_replaylog.proofs.Suffixes.{stays}
use Rattle.sp_replaylog.proofs.log.Log.cut.Goals as goal

pub returns-clause-entries : goal.returns-clause-entries
returns-clause-entries c = sym (stays c.args.bytes c.loop-self.self.entries (omega arith)) ∙ c.loop-self.invariant.entries
