use Rattle.std.proofs.Common.{◌∙◌}
use Rattle.std.specs.Str.{chars}
use Rattle.sp_pattern.specs.Wild.{outcome}
use Rattle.sp_pattern.proofs.Outcomes.{match_here, ended_here}
use Rattle.sp_pattern.proofs.like.+like.Goals as goal

pub try_places-returns-in-Match : goal.try_places-returns-in-Match
try_places-returns-in-Match t c = match_here (outcome c.args.items.now) (chars c.loop-more.rest.now) c.in-Match.ensures ∙ c.loop-more.invariant.1

pub try_places-returns-in-TextEnded : goal.try_places-returns-in-TextEnded
try_places-returns-in-TextEnded t c = ended_here (outcome c.args.items.now) (chars c.loop-more.rest.now) c.in-TextEnded.ensures ∙ c.loop-more.invariant.1
