use Rattle.std.proofs.Common.{◌≡◌}
use Rattle.serde_json.specs.View.{members_view}
use Rattle.sp_json.specs.Attributes.{bad_key}
use Rattle.sp_json.proofs.attributes.bad_key.Given as goal

abbrev pub invariant-loop-key : goal.invariant-loop-key
invariant-loop-key l =
    (goal.iterator-loop-key).can_next l.key-iterator ×
    (goal.iterator-loop-key).is_finite l.key-iterator ×
    (bad_key l.kind (members_view l.map.entries) ≡ bad_key l.kind (members_view l.key-iterator))
