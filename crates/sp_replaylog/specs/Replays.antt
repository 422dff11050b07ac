-- The replays that run.
use Rattle.std.specs.Prelude.{◌==◌, ◌≡◌, ◌≢◌, ◌≤◌, ◌+◌, ℕ, List, Option, Some, All, AllPairs, filter, find, if◌then◌else◌, map, not}
use Rattle.sp_replaylog.specs.declared.replay.Replay.{Replay}

-- the replay that runs on an endpoint
abbrev pub replay_on : ℕ → List Replay → Option Replay
replay_on endpoint replays = find (λ r. r.endpoint == endpoint) replays

-- the replays without the one on an endpoint
abbrev pub without_replay : ℕ → List Replay → List Replay
without_replay endpoint replays = filter (λ r. not (r.endpoint == endpoint)) replays

-- a replay with another entry next, and more copies made
abbrev pub gone_on : ℕ → ℕ → Replay → Replay
gone_on next copies r = record r { next = next; made = r.made + copies }

-- the replays with the one on an endpoint gone on
abbrev pub with_step : ℕ → ℕ → ℕ → List Replay → List Replay
with_step endpoint next copies replays =
    map (λ r. if r.endpoint == endpoint then gone_on next copies r else r) replays

-- the next entry is at most the last, and no more copies were made than entries were gone through
pub record IsRunning (r : Replay) : Type 0 where
  pub within : r.next ≤ r.last
  pub counted : r.made ≤ r.next

-- an endpoint has at most one replay, and each is running
pub record AreReplays (replays : List Replay) : Type 0 where
  pub one : AllPairs (λ q r. q.endpoint ≢ r.endpoint) replays
  pub running : All IsRunning replays

-- a replay runs on the endpoint, which can go on to an entry by so many copies
pub record MayGoOn (endpoint next copies : ℕ) (replays : List Replay) : Type 0 where
  pub replay : Replay
  pub there : replay_on endpoint replays ≡ Some replay
  pub within : next ≤ replay.last
  pub counted : replay.next + copies ≤ next
