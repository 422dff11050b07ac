use Rattle.std.proofs.Common.{◌∙◌}
use Rattle.serde_json.specs.View.{view, members_view}
use Rattle.sp_json.proofs.Keys.{another-keys, another-object}
use Rattle.sp_json.proofs.names.FieldNames.has_another.Goals as goal

pub returns-in-Some : goal.returns-in-Some
returns-in-Some c =
    c.another_key.ensures ∙ (another-keys c.args.self.now c.in-Some.map.now.entries
    ∙ another-object c.args.self.now (view c.args.value.now) (members_view c.in-Some.map.now.entries) c.in-Some.ensures)
