-- How a copy ends: the questions that are asked of it, and of the queue that takes dead messages.
use Rattle.sp_copies.specs.declared.closed.Cause.{Cause}
use Rattle.sp_copies.specs.declared.closed.Cause.TheVariants as causes
use Rattle.sp_copies.specs.declared.made.Origin.{Origin}
use Rattle.sp_copies.specs.declared.made.Origin.TheVariants as origins
use Rattle.sp_settle.specs.declared.questions.CopyFacts.{CopyFacts}
use Rattle.sp_settle.specs.declared.questions.Ending.{Ending}
use Rattle.sp_settle.specs.declared.questions.Ending.TheVariants.{Discard, Move}
use Rattle.sp_settle.specs.declared.questions.Reason.{Reason}
use Rattle.sp_settle.specs.declared.questions.Reason.TheVariants as reasons
use Rattle.sp_settle.specs.declared.questions.Target.{Target}
use Rattle.std.specs.Prelude.{Bool, None, Option, Some, false, if◌then◌else◌, nat_lt, not, true, ℕ, ◌&&◌, ◌+◌, ◌==◌, ◌||◌}

-- the cause by which a copy is discarded that isn't moved
abbrev pub caused : Reason → Cause
caused reasons.Expired = causes.Expired
caused reasons.RedeliveryExceeded = causes.RedeliveryExceeded
caused reasons.Rejected = causes.Rejected

-- whether a copy was itself moved
abbrev pub is_by_move : Origin → Bool
is_by_move origins.Published = false
is_by_move (origins.Moved from) = true
is_by_move (origins.Replayed by) = false

-- a queue that is there: it is another one, takes messages, and has room; otherwise the copy is discarded
abbrev pub end_in : CopyFacts → Target → Ending
end_in copy target =
    if target.endpoint == copy.endpoint then Discard causes.DmqSelf
    else if not target.ingress then Discard causes.DmqDisabled
    else if nat_lt target.max (target.used + copy.size) then Discard causes.DmqQuota
    else Move

-- a queue that isn't there takes nothing
abbrev pub end_by : CopyFacts → Option Target → Ending
end_by copy None = Discard causes.DmqMissing
end_by copy (Some target) = end_in copy target

-- a copy of a message that isn't eligible, or that was itself moved, is discarded by the cause for which it ends
abbrev pub end_of : Reason → CopyFacts → Option Target → Ending
end_of why copy target =
    if not copy.eligible || is_by_move copy.origin then Discard (caused why) else end_by copy target

-- a copy has had its last attempt: a limit of 0 is none, and a limit m allows m + 1 attempts
abbrev pub is_exceeded : ℕ → ℕ → Bool
is_exceeded limit attempts = nat_lt 0 limit && nat_lt limit attempts
