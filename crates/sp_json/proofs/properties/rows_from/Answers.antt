use Rattle.std.proofs.Common.{rules, ◌≡◌, Some, string_bytes}
use Rattle.serde_json.specs.Data.{member}
use Rattle.serde_json.specs.View.{view, members_view}
use Rattle.sp_json.specs.Properties.{rows_from, value_from}
use Rattle.sp_json.proofs.PropertiesBack.{after, row_read}
use Rattle.sp_json.proofs.properties.rows_from.Goals as goal

pub loop-name-preserved : goal.loop-name-preserved
loop-name-preserved c =
    let so_far : after c.loop-name.rows.items
    (rows_from (member (string_bytes c.in-Some.name.now) (view c.in-Some.value.now) (members_view c.next.new.self)))
    ≡ rows_from (members_view c.args.map.now.entries) = search rules in
    let value : value_from (view c.in-Some.value.now) ≡ Some c.in-Some-2.value = search rules in (
      tt,
      tt,
      row_read c.loop-name.rows.items c.push.new.self.items (string_bytes c.in-Some.name.now)
          (view c.in-Some.value.now) (members_view c.next.new.self) c.in-Some-2.value
          (rows_from (members_view c.args.map.now.entries)) so_far value (search rules),
    )
