use Rattle.std.proofs.Common.{◌≡◌, ◌≤◌, drop, length}
use Rattle.serde_json.specs.View.{members_view}
use Rattle.sp_json.specs.Properties.{properties_members}
use Rattle.sp_json.proofs.properties.properties_value.Given as goal

-- those from an offset on are there
pub record ArePut (within put : Type 0) : Type 0 where
  pub is_within : within
  pub are_put : put

abbrev pub invariant-loop-at : goal.invariant-loop-at
invariant-loop-at l =
    ArePut (l.at ≤ length l.rows) (members_view l.map.entries ≡ properties_members (drop l.at l.rows))

abbrev pub decreases-loop-at : goal.decreases-loop-at
decreases-loop-at l = l.at
