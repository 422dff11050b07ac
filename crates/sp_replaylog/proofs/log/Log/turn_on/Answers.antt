use Rattle.std.proofs.Common.{◌∙◌, ap, arith}
use Rattle.sp_replaylog.specs.Log.{bytes_of}
use Rattle.sp_replaylog.proofs.Suffixes.{fits}
use Rattle.sp_replaylog.proofs.log.Log.turn_on.Goals as goal

pub invariant_of-self : goal.invariant_of-self
invariant_of-self c =
    let cut = ap bytes_of (ap (λ l. l.entries) c.self.view_is ∙ c.cut.ensures.entries) in
    record {
      used = c.self.invariant.used;
      fits = omega (arith, c.self.invariant.used, cut, fits c.args.maximum c.args.self.now.entries);
      off = λ h. cc;
    }
