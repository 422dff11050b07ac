use Rattle.std.proofs.Common.{◌≡◌, take}
use Rattle.std.specs.List.{filter_map}
use Rattle.std.specs.Option.{option_and_then}
use Rattle.serde_json.specs.Find.{get}
use Rattle.serde_json.specs.View.{view}
use Rattle.sp_config.specs.Names.{name_of}
use Rattle.sp_json.specs.Attributes.{setting_from}
use Rattle.sp_json.proofs.attributes.settings_among.Given as goal

abbrev pub invariant-loop-attr : goal.invariant-loop-attr
invariant-loop-attr l =
    l.rows.items ≡ filter_map (λ a. option_and_then (setting_from l.kind a) (get (name_of a) (view l.attributes)))
    (take l.attr-index l.attrs)
