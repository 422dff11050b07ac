use Rattle.std.proofs.Common.{◌≡◌, fold, take}
use Rattle.serde_json.specs.Data.{no_members}
use Rattle.serde_json.specs.View.{members_view}
use Rattle.sp_json.specs.Refusals.{with_shown}
use Rattle.sp_json.proofs.refusals.members_of.Given as goal

abbrev pub invariant-loop-value : goal.invariant-loop-value
invariant-loop-value l = members_view l.map.entries ≡ fold with_shown no_members (take l.value-index l.shown)
