-- Which bytes are a request (RFC 9112), within the limits that are kept here.
use Rattle.std.specs.Prelude.{◌≡◌, ℕ, ◌+◌, ◌<◌, ◌≤◌, ◌&&◌, ◌⊎◌, Bool, List, [], ◌∷◌, ◌++◌, length, map, codes, if◌then◌else◌, nat_lt, nat_le, Option, Some, None}
use Rattle.std.specs.List.{filter, list_any}
use Rattle.std.specs.Str.{str_eq_ignore_ascii_case, all_ascii_digits}
use Rattle.std.specs.Str.Parse.{digits_value}
use Rattle.httparse.specs.Grammar.{RequestHead, ReadsRequest, print_request, EndsInTarget}
use Rattle.httparse.specs.Spans.{name_and_value}
use Rattle.sp_rest.specs.declared.wire.request.Field.{Field}
use Rattle.sp_rest.specs.Wire.Parts.{Request}

-- the field has the name, without regard to ASCII case
abbrev pub is_named : List ℕ → List ℕ × List ℕ → Bool
is_named name field = str_eq_ignore_ascii_case field.0 name

-- one decimal digit or more, and nothing else
abbrev pub is_number : List ℕ → Bool
is_number value = nat_lt 0 (length value) && all_ascii_digits value

-- the length that a value gives: a decimal number of at most 8 MiB
abbrev pub length_in : List ℕ → Option ℕ
length_in value =
    if is_number value && nat_le (digits_value 10 value) 8388608 then Some (digits_value 10 value) else None

-- the length that the fields of this name give: none is 0, and two are one too many
abbrev pub length_by : List (List ℕ × List ℕ) → Option ℕ
length_by [] = Some 0
length_by (field ∷ []) = length_in field.1
length_by (field ∷ other ∷ rest) = None

-- the body's length by the head's fields, unless they leave it open or the body is encoded
abbrev pub body_length : List (List ℕ × List ℕ) → Option ℕ
body_length fields =
    if list_any (is_named (codes "transfer-encoding")) fields then None
    else length_by (filter (is_named (codes "content-length")) fields)

-- the bytes begin with this head, within the limits, and it gives a length of the body
pub record IsHead (bytes : List ℕ) (h : RequestHead) (len : ℕ) (rest : List ℕ) : Type 0 where
  pub reads : ReadsRequest bytes h rest
  pub short : length (print_request h) ≤ 8192
  pub few : length h.fields ≤ 64
  pub body : body_length (map name_and_value h.fields) ≡ Some len

-- the field as its name and its value
abbrev pub shown : Field → List ℕ × List ℕ
shown field = (field.name, field.value)

-- the request is what that head and that body say
pub record IsRequestOf (request : Request) (h : RequestHead) (body : List ℕ) : Type 0 where
  pub method : request.method ≡ h.method
  pub target : request.target ≡ h.target
  pub fields : map shown request.fields ≡ map name_and_value h.fields
  pub body_is : request.body ≡ body

-- the first used bytes are the request: a head, and a body of the length that it gives
pub record Begins (bytes : List ℕ) (request : Request) (used : ℕ) : Type 0 where
  pub h : RequestHead
  pub body : List ℕ
  pub rest : List ℕ
  pub head : IsHead bytes h (length body) (body ++ rest)
  pub request_is : IsRequestOf request h body
  pub used_is : used ≡ length (print_request h) + length body

-- some bytes begin with the request
abbrev pub IsPossible : Request → Type 0
IsPossible request = (bytes : List ℕ) × (used : ℕ) × Begins bytes request used

-- no prefix of the bytes is a request
abbrev pub NoRequest : List ℕ → Type 0
NoRequest bytes = (request : Request) (used : ℕ) → ¬ (Begins bytes request used)

-- no prefix ever is one, whatever bytes follow
abbrev pub NeverRequest : List ℕ → Type 0
NeverRequest bytes = (more : List ℕ) → NoRequest (bytes ++ more)

-- the bytes end within a request's target, and are fewer than a head may have
pub record IsTargetOpen (bytes : List ℕ) : Type 0 where
  pub ends : EndsInTarget bytes
  pub short : length bytes < 8192

-- some bytes can follow that make a prefix a request, or its target is still being read
abbrev pub MayBecome : List ℕ → Type 0
MayBecome bytes =
    ((more : List ℕ) × (request : Request) × (used : ℕ) × Begins (bytes ++ more) request used)
    ⊎ IsTargetOpen bytes
