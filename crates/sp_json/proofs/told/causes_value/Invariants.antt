use Rattle.std.proofs.Common.{◌≡◌, fold, take}
use Rattle.serde_json.specs.Data.{no_members}
use Rattle.serde_json.specs.View.{members_view}
use Rattle.sp_json.specs.Told.{with_cause}
use Rattle.sp_json.proofs.told.causes_value.Given as goal

abbrev pub invariant-loop-counted : goal.invariant-loop-counted
invariant-loop-counted l = members_view l.map.entries ≡ fold with_cause no_members (take l.counted-index l.counts)
