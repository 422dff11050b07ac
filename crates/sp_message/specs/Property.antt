-- The properties of a message.
use Rattle.std.specs.Prelude.{◌==◌, ◌&&◌, ◌||◌, ◌+◌, ℕ, Bool, true, List, [], ◌∷◌, length, find, bytes_eq, nat_le, Option, Some, None, if◌then◌else◌}
use Rattle.std.specs.Cmp.Lexicographic.{slice_cmp}
use Rattle.std.specs.Ordering.{nat_cmp, is_lt}
use Rattle.std.specs.Option.{option_map}
use Rattle.std.specs.List.{list_all, sum_by}
use Rattle.sp_message.specs.declared.property.Property.{Property}
use Rattle.sp_message.specs.declared.value.Value.{Value}
use Rattle.sp_message.specs.Value.{is_in_range, text_len}

-- a letter, a digit, or one of _ $ . -
abbrev pub is_name_byte : ℕ → Bool
is_name_byte b =
    (nat_le 97 b && nat_le b 122) || (nat_le 65 b && nat_le b 90) || (nat_le 48 b && nat_le b 57) || (b == 95) || (b == 36) || (b == 46) || (b == 45)

-- a name of 1 to 64 such bytes, and a value in its range
abbrev pub is_property : Property → Bool
is_property p = nat_le 1 (length p.name) && nat_le (length p.name) 64 && is_in_range p.value && list_all is_name_byte p.name

-- the first name is before the second one in byte order
abbrev pub comes_before : Property → Property → Bool
comes_before p q = is_lt (slice_cmp nat_cmp p.name q.name)

-- each name is before the next one
abbrev pub names_rise : List Property → Bool
names_rise [] = true
names_rise (p ∷ []) = true
names_rise (p ∷ q ∷ ps) = comes_before p q && names_rise (q ∷ ps)

-- at most 64 properties, in strictly rising order of their names
abbrev pub are_properties : List Property → Bool
are_properties ps = nat_le (length ps) 64 && list_all is_property ps && names_rise ps

-- properties, unless they break these rules
abbrev pub kept : List Property → Option (List Property)
kept properties = if are_properties properties then Some properties else None

-- the value of the property of this name
abbrev pub value_under : List ℕ → List Property → Option Value
value_under name ps = option_map (λ p. p.value) (find (λ p. bytes_eq p.name name) ps)

-- 16, the bytes of the name and the bytes of a text value
abbrev pub property_size : Property → ℕ
property_size p = 16 + length p.name + text_len p.value

abbrev pub properties_size : List Property → ℕ
properties_size ps = sum_by property_size ps
