use Rattle.std.proofs.Common.{◌≡◌, [], drop, Some}
use Rattle.std.specs.List.{filter, fold}
use Rattle.sp_rest.specs.Publish.UserProperties.{is_user_property, with_field}
use Rattle.sp_rest.proofs.publish.user_properties.rows_in.Given as goal

abbrev pub invariant-loop-field : goal.invariant-loop-field
invariant-loop-field l =
    fold with_field (Some l.rows.items) (filter is_user_property (drop l.field-index l.fields))
    ≡ fold with_field (Some []) (filter is_user_property l.fields)
