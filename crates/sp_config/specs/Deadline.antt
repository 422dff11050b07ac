-- Until when a copy may wait.
use Rattle.std.specs.Prelude.{◌+◌, ◌*◌, ◌==◌, ◌||◌, not, ℕ, min, Option, Some, None, if◌then◌else◌}
use Rattle.sp_config.specs.Attributes.{AttributesView}

-- the lesser positive one of two bounds, or 0 where both are 0
abbrev pub lesser_bound : ℕ → ℕ → ℕ
lesser_bound a b = if a == 0 then b else (if b == 0 then a else min a b)

-- the lesser positive bound, in milliseconds, of a message's time to live and the endpoint's in seconds
abbrev pub bound_on : AttributesView → ℕ → ℕ
bound_on a ttl = lesser_bound ttl (1000 * a.max_ttl)

-- none where time to live isn't respected or both bounds are 0, and otherwise now plus the lesser positive bound
abbrev pub deadline_of : AttributesView → ℕ → ℕ → Option ℕ
deadline_of a ttl moment =
    if not a.respect_ttl_enabled || (bound_on a ttl == 0) then None else Some (moment + bound_on a ttl)
