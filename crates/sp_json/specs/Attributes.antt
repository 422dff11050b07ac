-- The attributes that a request gives values to.
use Rattle.std.specs.Prelude.{ℕ, List, [], ◌∷◌, Option, Some, None, Result, Ok, is_some, option_map, option_and_then}
use Rattle.std.specs.Prelude.{if◌then◌else◌}
use Rattle.std.specs.List.{filter_map}
use Rattle.serde_json.specs.Data.{Data, Members, no_members, member}
use Rattle.serde_json.specs.Find.{get, as_bool, as_number, as_u64, as_object, as_str}
use Rattle.sp_base.specs.declared.refusal.Refusal.{Refusal}
use Rattle.sp_base.specs.declared.refusal.Refusal.TheVariants.{BadAttribute}
use Rattle.sp_config.specs.declared.attr.Attr.{Attr}
use Rattle.sp_config.specs.declared.kind.EndpointKind.{EndpointKind}
use Rattle.sp_config.specs.declared.range.Range.{Range}
use Rattle.sp_config.specs.declared.range.Range.TheVariants.{Between, TrueOrFalse, OneOf, SomeName, NameOrEmpty}
use Rattle.sp_config.specs.declared.setting.Setting.{Setting}
use Rattle.sp_config.specs.declared.value.AttrValue.{AttrValue}
use Rattle.sp_config.specs.declared.value.AttrValue.TheVariants.{Whole, Flag, Word, Text}
use Rattle.sp_config.specs.Choices.{word_place}
use Rattle.sp_config.specs.Names.{all_attrs, attr_named, name_of}
use Rattle.sp_config.specs.Ranges.{range_of}
use Rattle.sp_config.specs.Settings.{is_allowed}
use Rattle.sp_json.specs.Fields.{has_key, name_from}
use Rattle.sp_base.specs.Parts.{formed, unless, and_then}

-- a name, or none for the empty text
abbrev pub name_or_empty : List ℕ → Option (Option (List ℕ))
name_or_empty [] = Some None
name_or_empty (b ∷ text) = option_map Some (name_from (b ∷ text))

-- the value of a range's kind that a JSON value is for an attribute
abbrev pub value_of : Attr → Range → Data → Option AttrValue
value_of attribute (Between least most) d = option_map Whole (option_and_then as_u64 (as_number d))
value_of attribute TrueOrFalse d = option_map Flag (as_bool d)
value_of attribute (OneOf words) d = option_map Word (option_and_then (word_place attribute) (as_str d))
value_of attribute SomeName d = option_map (λ name. Text (Some name)) (option_and_then name_from (as_str d))
value_of attribute NameOrEmpty d = option_map Text (option_and_then name_or_empty (as_str d))

-- a setting, unless an endpoint of the kind may not have the value
abbrev pub allowed : EndpointKind → Attr → AttrValue → Option Setting
allowed kind attribute value =
    if is_allowed kind attribute value then Some (record { attr = attribute; value = value }) else None

-- the setting of an attribute that a JSON value gives
abbrev pub setting_from : EndpointKind → Attr → Data → Option Setting
setting_from kind attribute d = option_and_then (allowed kind attribute) (value_of attribute (range_of attribute) d)

-- the setting that a member gives
abbrev pub setting_named : EndpointKind → List ℕ → Data → Option Setting
setting_named kind key d = option_and_then (λ a. setting_from kind a d) (attr_named key)

-- the first key that gives no setting
abbrev pub bad_key : EndpointKind → Members → Option (List ℕ)
bad_key kind no_members = None
bad_key kind (member key d ms) = if is_some (setting_named kind key d) then bad_key kind ms else Some key

-- the settings of the attributes that are members, in the order of their names
abbrev pub settings_of : EndpointKind → Data → List Setting
settings_of kind d = filter_map (λ a. option_and_then (setting_from kind a) (get (name_of a) d)) all_attrs

-- the settings that an object gives
abbrev pub settings_from : EndpointKind → Data → Result (List Setting) Refusal
settings_from kind d =
    and_then (formed (as_object d)) (λ ms. unless (option_map BadAttribute (bad_key kind ms)) (settings_of kind d))

-- the settings in a field, and in one that may be absent
abbrev pub settings_at : EndpointKind → List ℕ → Data → Result (List Setting) Refusal
settings_at kind key d = and_then (formed (get key d)) (settings_from kind)

abbrev pub optional_settings_at : EndpointKind → List ℕ → Data → Result (List Setting) Refusal
optional_settings_at kind key d = if has_key key d then settings_at kind key d else Ok []
