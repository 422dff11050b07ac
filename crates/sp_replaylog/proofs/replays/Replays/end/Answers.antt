use Rattle.std.proofs.Common.{rules, ◌≡◌, ◌==◌, ◌∙◌, ap, subst, sym}
use Rattle.std.specs.Prelude.{not}
use Rattle.std.proofs.lemmas.Fn.{filter_same}
use Rattle.sp_replaylog.specs.Replays.{AreReplays, without_replay}
use Rattle.sp_replaylog.specs.declared.replay.Replay.{Replay}
use Rattle.sp_replaylog.proofs.Running.{ended}
use Rattle.sp_replaylog.proofs.replays.Replays.end.Goals as goal
use Rattle.sp_replaylog.proofs.replays.Replays.end.Goals.{After-retain}

-- the others are kept
kept : (c : After-retain) → c.retain.new.self.items ≡ without_replay c.args.endpoint c.self.inside.rows.items
kept c = filter_same _ (λ (r : Replay). not (r.endpoint == c.args.endpoint)) _ (λ x b f k. search rules) c.self.inside.rows.items c.retain.new.self.items c.retain.ensures.items

pub invariant_of-self : goal.invariant_of-self
invariant_of-self c = subst AreReplays (sym (kept c)) (ended c.args.endpoint c.self.inside.rows.items c.self.invariant)

pub returns-clause-items : goal.returns-clause-items
returns-clause-items c = kept c ∙ ap (λ r. without_replay c.args.endpoint r.items) c.self.view_is
