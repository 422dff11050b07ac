use Rattle.sp_replaylog.proofs.Running.{found_runs}
use Rattle.sp_replaylog.proofs.replays.Replays.find.Goals as goal

pub returns-clause-running : goal.returns-clause-running
returns-clause-running c = rw (c.copied.ensures, c.among.ensures, c.as_slice.ensures) (found_runs c.args.endpoint c.self.inside.rows.items c.self.invariant.running)
