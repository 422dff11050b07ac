-- What a consumer reads of a POST: what was written, and nothing else.
use Rattle.std.specs.Prelude.{◌≡◌, ◌==◌, ◌&&◌, ℕ, ◌≤◌, Bool, true, List, ◌∷◌, ◌++◌, Some, option_map, length, map, codes, decimal, nat_le, nat_lt, slice_index}
use Rattle.std.specs.List.{list_all}
use Rattle.percent_encoding.specs.Percent.{percent_decode}
use Rattle.sp_message.specs.declared.property.Property.{Property}
use Rattle.sp_message.specs.declared.value.Value.{Value}
use Rattle.sp_message.specs.declared.value.Value.TheVariants as values
use Rattle.sp_rest.specs.Publish.UserProperties.{value_in}
use Rattle.sp_rest.specs.Wire.Parts.{Request}
use Rattle.sp_rest.specs.Wire.Request.{Begins, shown}
use Rattle.sp_rdp.specs.Post.{value_text, kind_word, head_of, post_of}

-- ASCII, and neither a space nor a control
abbrev pub is_visible : ℕ → Bool
is_visible b = nat_lt 32 b && nat_lt b 127

-- a host is 1 to 100 visible bytes
abbrev pub is_host : List ℕ → Bool
is_host host = nat_le 1 (length host) && nat_le (length host) 100 && list_all is_visible host

-- a target is 1 to 250 visible bytes that begin with a slash
abbrev pub is_target : List ℕ → Bool
is_target target = nat_le 1 (length target) && nat_le (length target) 250 && list_all is_visible target && slice_index target 0 == 47

-- what stands in a property's field
abbrev pub told_value : Value → List ℕ
told_value value = value_text value ++ codes "; type=" ++ kind_word value

-- the field of a property, as its name and its value
abbrev pub property_field : Property → List ℕ × List ℕ
property_field p = (codes "Solace-User-Property-" ++ p.name, told_value p.value)

-- the fields of a POST
abbrev pub post_fields : List ℕ → ℕ → List Property → List (List ℕ × List ℕ)
post_fields host len properties =
    (codes "Host", host) ∷ (codes "Content-Type", codes "application/octet-stream") ∷ (codes "Content-Length", decimal len)
    ∷ (codes "Solace-Delivery-Mode", codes "Persistent") ∷ map property_field properties

-- the host and the target are of their forms, and the head keeps the limits of a request
pub record IsShort (target host : List ℕ) (properties : List Property) (payload : List ℕ) : Type 0 where
  pub host_is : is_host host ≡ true
  pub target_is : is_target target ≡ true
  pub few : length properties ≤ 60
  pub short : length (head_of target host (length payload) properties) ≤ 8192

-- the first bytes are a request for this target with these fields and this body, and it ends with the payload
pub record ReadsAs (bytes target host : List ℕ) (properties : List Property) (payload : List ℕ) : Type 0 where
  pub request : Request
  pub begins : Begins bytes request (length (post_of target host properties payload))
  pub method : request.method ≡ codes "POST"
  pub target_is : request.target ≡ target
  pub fields : map shown request.fields ≡ post_fields host (length payload) properties
  pub body : request.body ≡ payload

-- a value, with the percent-escapes of a text undone
abbrev pub unescaped : Value → Value
unescaped (values.Whole n) = values.Whole n
unescaped (values.Fixed f) = values.Fixed f
unescaped (values.Text text) = values.Text (percent_decode text)
unescaped (values.Bool b) = values.Bool b

-- what a reader of publishes takes for the value in the property's field is, unescaped, the property's value
abbrev pub ReadsValue : Property → Type 0
ReadsValue p = option_map unescaped (value_in (told_value p.value)) ≡ Some p.value
