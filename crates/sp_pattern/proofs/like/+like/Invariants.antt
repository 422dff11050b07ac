use Rattle.std.proofs.Common.{◌≡◌, ◌+◌, ◌*◌, length}
use denote.Text.{Utf8}
use denote.Shadow.{shadow}
use Rattle.std.specs.Str.{chars}
use Rattle.sp_pattern.specs.Wild.{first_outcome, outcome}
use Rattle.sp_pattern.proofs.like.+like.Given as goal

abbrev pub decreases-try_place : goal.decreases-try_place
decreases-try_place l = 2 * length l.items.now

abbrev pub decreases-try_places : goal.decreases-try_places
decreases-try_places l = 2 * length l.items.now + 1

abbrev pub invariant-try_places-loop-more : goal.invariant-try_places-loop-more
invariant-try_places-loop-more l = shadow (Utf8 l.rest) × (first_outcome (outcome l.items) (chars l.rest) ≡ first_outcome (outcome l.items) (chars l.text))

abbrev pub decreases-try_places-loop-more : goal.decreases-try_places-loop-more
decreases-try_places-loop-more l = length l.rest
