use Rattle.std.proofs.Common.{◌≡◌}
use Rattle.serde_json.specs.View.{members_view}
use Rattle.sp_json.specs.Properties.{rows_from}
use Rattle.sp_json.proofs.PropertiesBack.{after}
use Rattle.sp_json.proofs.properties.rows_from.Given as goal

abbrev pub invariant-loop-name : goal.invariant-loop-name
invariant-loop-name l =
    (goal.iterator-loop-name).can_next l.name-iterator ×
    (goal.iterator-loop-name).is_finite l.name-iterator ×
    (after l.rows.items (rows_from (members_view l.name-iterator)) ≡ rows_from (members_view l.map.entries))
