use Rattle.std.proofs.Common.{◌≡◌, None, sym, subst}
use Rattle.sp_replaylog.specs.Replays.{AreReplays, replay_on}
use Rattle.sp_replaylog.proofs.Running.{started}
use Rattle.sp_replaylog.proofs.replays.Replays.start.Goals as goal

pub invariant_of-self : goal.invariant_of-self
invariant_of-self c =
    let none = subst (λ r. replay_on c.args.replay.endpoint r.items ≡ None) (sym c.self.view_is) c.requires.none in
    subst AreReplays (sym c.add.ensures.items) (started c.self.inside.rows.items c.args.replay c.self.invariant c.requires.running none)
