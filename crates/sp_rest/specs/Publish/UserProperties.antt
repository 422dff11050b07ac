-- The properties that the fields of a request give a message.
use Rattle.std.specs.Prelude.{ℕ, Bool, true, false, List, [], drop, take, codes, bytes_eq, ℤ, pos, neg_ℤ, Option, Some, None, option_map, if◌then◌else◌}
use Rattle.std.specs.List.{filter, fold, insert, position_or_len}
use Rattle.std.specs.Option.{option_and_then}
use Rattle.std.specs.Str.{is_utf8, str_eq_ignore_ascii_case}
use Rattle.sp_message.specs.declared.property.Property.{Property}
use Rattle.sp_message.specs.declared.value.Value.{Value}
use Rattle.sp_message.specs.declared.value.Value.TheVariants as values
use Rattle.sp_message.specs.Decimal.{fixed_of, has_minus, whole_of}
use Rattle.sp_message.specs.Property.{comes_before, kept}
use Rattle.sp_rest.specs.declared.publish.suffix.ValueKind.{ValueKind}
use Rattle.sp_rest.specs.declared.publish.suffix.ValueKind.TheVariants.{Text, Whole, Bool as Truth, Fixed}
use Rattle.sp_rest.specs.declared.wire.request.Field.{Field}
use Rattle.sp_rest.specs.Publish.Suffix.{has_suffix, bare_of, word_of, kind_named}

-- a text is UTF-8
abbrev pub text_in : List ℕ → Option (List ℕ)
text_in bytes = if is_utf8 bytes then Some bytes else None

-- a whole number is digits, with a minus or without, of a magnitude of at most 2^63 - 1
abbrev pub whole_in : List ℕ → Option ℤ
whole_in text = if has_minus text then option_map (λ n. neg_ℤ (pos n)) (whole_of (drop 1 text)) else option_map pos (whole_of text)

-- a truth value is `true` or `false`
abbrev pub truth_in : List ℕ → Option Bool
truth_in text =
    if bytes_eq text (codes "true") then Some true else (if bytes_eq text (codes "false") then Some false else None)

-- the value of a kind that is written so
abbrev pub value_as : ValueKind → List ℕ → Option Value
value_as Text text = option_map values.Text (text_in text)
value_as Whole text = option_map values.Whole (whole_in text)
value_as Truth text = option_map values.Bool (truth_in text)
value_as Fixed text = option_map values.Fixed (fixed_of text)

-- the value that is written with its kind behind it; without one it is a text, taken literally
abbrev pub value_in : List ℕ → Option Value
value_in value =
    if has_suffix value then option_and_then (λ kind. value_as kind (bare_of value)) (kind_named (word_of value))
    else value_as Text value

-- the field gives a property: its name begins so, in letters of either case
abbrev pub is_user_property : Field → Bool
is_user_property field = str_eq_ignore_ascii_case (take 21 field.name) (codes "Solace-User-Property-")

-- the property that a field gives, under the name that follows the prefix, as it was written
abbrev pub property_in : Field → Option Property
property_in field =
    option_and_then (λ name. option_map (λ value. record { name = name; value = value }) (value_in field.value)) (text_in (drop 21 field.name))

-- a property in its place among others that stand in the order of their names
abbrev pub placed : Property → List Property → List Property
placed p ps = insert ps (position_or_len (comes_before p) ps) p

-- the properties so far with the one that a field gives
abbrev pub with_field : Option (List Property) → Field → Option (List Property)
with_field before field = option_and_then (λ ps. option_map (λ p. placed p ps) (property_in field)) before

-- the properties that the fields give, in the order of their names
abbrev pub properties_in : List Field → Option (List Property)
properties_in fields = option_and_then kept (fold with_field (Some []) (filter is_user_property fields))
