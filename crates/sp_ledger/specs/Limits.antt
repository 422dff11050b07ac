-- The greatest numbers that there may be.
use Rattle.std.specs.Prelude.{ℕ, ◌^◌}

-- how many endpoints may be there
abbrev pub most_endpoints : ℕ
most_endpoints = 1000

-- how many texts a queue may subscribe to
abbrev pub most_subscriptions : ℕ
most_subscriptions = 100

-- how many copies a tick or a delete ends at most
abbrev pub most_ended : ℕ
most_ended = 1024

-- the first number of a kind that isn't drawn any more
abbrev pub spent : ℕ
spent = 2 ^ 62

-- the last number that a publish or a replay draws for a copy
abbrev pub last_copy : ℕ
last_copy = 2 ^ 61

-- the bytes of one MB
abbrev pub bytes_per_mb : ℕ
bytes_per_mb = 1048576

-- the greatest quota of an endpoint in bytes, that of 800,000 MB
abbrev pub greatest_quota : ℕ
greatest_quota = 838860800000
