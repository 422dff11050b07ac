-- The bytes of a delivery's POST (RFC 9112, section 3).
use Rattle.std.specs.Prelude.{ℕ, ◌==◌, Bool, true, false, ◌||◌, List, [], ◌∷◌, ◌++◌, length, codes, decimal, nat_lt, nat_le, if◌then◌else◌}
use Rattle.std.specs.Fmt.{signed_decimal}
use Rattle.std.specs.List.{flat_map}
use Rattle.percent_encoding.specs.Percent.{percent_encode_byte}
use Rattle.sp_message.specs.Decimal.{fixed_text}
use Rattle.sp_message.specs.declared.property.Property.{Property}
use Rattle.sp_message.specs.declared.value.Value.{Value}
use Rattle.sp_message.specs.declared.value.Value.TheVariants as values
use Rattle.sp_rest.specs.Wire.Response.{line_end}

-- a control, a space, `%`, `;`, or no ASCII
abbrev pub is_escaped : ℕ → Bool
is_escaped b = nat_lt b 33 || nat_le 127 b || (b == 37) || (b == 59)

-- a text whose such bytes are percent-escaped
abbrev pub escaped : List ℕ → List ℕ
escaped text = flat_map (λ b. if is_escaped b then percent_encode_byte b else b ∷ []) text

abbrev pub truth_text : Bool → List ℕ
truth_text true = codes "true"
truth_text false = codes "false"

-- a property's value as it is written
abbrev pub value_text : Value → List ℕ
value_text (values.Whole n) = signed_decimal n
value_text (values.Fixed f) = fixed_text f
value_text (values.Text text) = escaped text
value_text (values.Bool b) = truth_text b

-- the word for its kind
abbrev pub kind_word : Value → List ℕ
kind_word (values.Whole n) = codes "int64"
kind_word (values.Fixed f) = codes "fixed"
kind_word (values.Text text) = codes "string"
kind_word (values.Bool b) = codes "bool"

-- the line of a property
abbrev pub property_line : Property → List ℕ
property_line p =
    codes "Solace-User-Property-" ++ p.name ++ codes ": " ++ value_text p.value ++ codes "; type=" ++ kind_word p.value ++ line_end

-- what stands before the host
abbrev pub before_host : List ℕ → List ℕ
before_host target = codes "POST " ++ target ++ codes " HTTP/1.1" ++ line_end ++ codes "Host: "

-- what stands behind the host: the other fields, those of the properties, and an empty line
abbrev pub after_host : ℕ → List ℕ → List ℕ
after_host len lines =
    line_end
    ++ codes "Content-Type: application/octet-stream" ++ line_end
    ++ codes "Content-Length: " ++ decimal len ++ line_end
    ++ codes "Solace-Delivery-Mode: Persistent" ++ line_end
    ++ lines
    ++ line_end

-- what stands before a payload of so many bytes
abbrev pub head_of : List ℕ → List ℕ → ℕ → List Property → List ℕ
head_of target host len properties =
    before_host target ++ host ++ after_host len (flat_map property_line properties)

-- the POST of a payload and its properties to a target at a host
abbrev pub post_of : List ℕ → List ℕ → List Property → List ℕ → List ℕ
post_of target host properties payload = head_of target host (length payload) properties ++ payload
