-- What the fields of a request say of the message.
use Rattle.std.specs.Prelude.{ℕ, ◌&&◌, ◌||◌, Bool, true, false, List, [], ◌∷◌, codes, find, nat_le, Option, Some, None, option_map, if◌then◌else◌}
use Rattle.std.specs.List.{list_any}
use Rattle.std.specs.Option.{option_and_then}
use Rattle.std.specs.Str.{str_eq_ignore_ascii_case}
use Rattle.sp_message.specs.Decimal.{whole_of}
use Rattle.sp_rest.specs.declared.publish.headers.Headers.{Headers}
use Rattle.sp_rest.specs.declared.wire.request.Field.{Field}
use Rattle.sp_rest.specs.Publish.UserProperties.{is_user_property, properties_in}

-- the field has this name, without regard to ASCII case
abbrev pub is_called : List ℕ → Field → Bool
is_called name field = str_eq_ignore_ascii_case field.name name

-- the field says something of the message
abbrev pub is_read : Field → Bool
is_read field =
    is_called (codes "Solace-Delivery-Mode") field || is_called (codes "Solace-Time-To-Live-In-ms") field || is_called (codes "Solace-DMQ-Eligible") field || is_user_property field

-- one of these fields is given twice
abbrev pub has_twice : List Field → Bool
has_twice [] = false
has_twice (field ∷ fields) = (is_read field && list_any (is_called field.name) fields) || has_twice fields

-- the value of a field
abbrev pub value_of : List ℕ → List Field → Option (List ℕ)
value_of name fields = option_map (λ field. field.value) (find (is_called name) fields)

-- what a value is read as, or what its absence stands for
abbrev pub read_or : {A : Type 0} → A → (List ℕ → Option A) → Option (List ℕ) → Option A
read_or absent read None = Some absent
read_or absent read (Some value) = read value

abbrev pub is_text : List ℕ → List ℕ → Bool
is_text text value = str_eq_ignore_ascii_case value text

-- whether the mode of this name is the direct one
abbrev pub direct_in : List ℕ → Option Bool
direct_in value =
    if is_text (codes "Direct") value then Some true
    else (if is_text (codes "Non-Persistent") value || is_text (codes "Persistent") value then Some false
    else None)

-- milliseconds in decimal digits, of at most 4,294,967,295 seconds
abbrev pub ttl_within : ℕ → Option ℕ
ttl_within n = if nat_le n 4294967295000 then Some n else None

abbrev pub ttl_in : List ℕ → Option ℕ
ttl_in value = option_and_then ttl_within (whole_of value)

-- whether a dead copy may move
abbrev pub eligible_in : List ℕ → Option Bool
eligible_in value =
    if is_text (codes "true") value then Some true else (if is_text (codes "false") value then Some false else None)

-- what the fields say; none, where a value or a property's name is outside its form, or a field is given twice
abbrev pub headers_in : List Field → Option Headers
headers_in fields =
    if has_twice fields then None
    else option_and_then (λ direct.
    option_and_then (λ ttl.
    option_and_then (λ eligible.
    option_map (λ properties. record { direct = direct; ttl = ttl; eligible = eligible; properties = properties })
    (properties_in fields))
    (read_or false eligible_in (value_of (codes "Solace-DMQ-Eligible") fields)))
    (read_or 0 ttl_in (value_of (codes "Solace-Time-To-Live-In-ms") fields)))
    (read_or false direct_in (value_of (codes "Solace-Delivery-Mode") fields))
