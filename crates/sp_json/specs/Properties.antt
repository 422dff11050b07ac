-- The properties of messages in JSON, both ways.
use Rattle.std.specs.Prelude.{List, [], ◌∷◌, Option, Some, None, codes, if◌then◌else◌, option_and_then, option_map}
use Rattle.std.specs.Prelude.{ℕ, ℤ}
use Rattle.serde_json.specs.Data.{Data, null, boolean, number, string, array, object, Members, no_members, member}
use Rattle.serde_json.specs.Find.{as_i64, as_object, get, of_integer}
use Rattle.sp_message.specs.Decimal.{fixed_of, fixed_text}
use Rattle.sp_message.specs.Property.{kept}
use Rattle.sp_message.specs.declared.property.Property.{Property}
use Rattle.sp_message.specs.declared.value.Value.{Value}
use Rattle.sp_message.specs.declared.value.Value.TheVariants as values
use Rattle.sp_json.specs.Fields.{has_key, text_at}
use Rattle.sp_json.specs.Names.{FieldsOf, another_field}

-- a fixed number stands as its text in an object of this one field
abbrev pub fixed_fields : FieldsOf
fixed_fields = record { required = codes "fixed" ∷ []; one_of = []; optional = [] }

abbrev pub fixed_in : Data → Option ℤ
fixed_in d = if another_field fixed_fields d then None else option_and_then fixed_of (text_at (codes "fixed") d)

-- the value that a JSON value is: an integer of 64 bits, a text, a truth value or a fixed number
abbrev pub value_from : Data → Option Value
value_from null = None
value_from (boolean truth) = Some (values.Bool truth)
value_from (number n) = option_map values.Whole (as_i64 n)
value_from (string text) = Some (values.Text text)
value_from (array ds) = None
value_from (object ms) = option_map values.Fixed (fixed_in (object ms))

-- a property before those that follow
abbrev pub followed : List ℕ → Option (List Property) → Value → Option (List Property)
followed name rest value = option_map (λ properties. record { name = name; value = value } ∷ properties) rest

-- the properties that members are, in their order, where each has such a value
abbrev pub rows_from : Members → Option (List Property)
rows_from no_members = Some []
rows_from (member name d ms) = option_and_then (followed name (rows_from ms)) (value_from d)

-- the properties that an object gives
abbrev pub properties_from : Data → Option (List Property)
properties_from d = option_and_then kept (option_and_then rows_from (as_object d))

-- those in a field that may be absent
abbrev pub properties_at : List ℕ → Data → Option (List Property)
properties_at key d = if has_key key d then option_and_then properties_from (get key d) else Some []

-- a value as it is shown
abbrev pub value_data : Value → Data
value_data (values.Whole z) = number (of_integer z)
value_data (values.Fixed z) = object (member (codes "fixed") (string (fixed_text z)) no_members)
value_data (values.Text text) = string text
value_data (values.Bool truth) = boolean truth

-- properties under their names, which rise
abbrev pub properties_members : List Property → Members
properties_members [] = no_members
properties_members (p ∷ ps) = member p.name (value_data p.value) (properties_members ps)
