-- Payloads in JSON: as text, or as base64.
use Rattle.std.specs.Prelude.{ℕ, List, [], Option, Some, None, option_and_then, if◌then◌else◌, nat_le, length, codes}
use Rattle.std.specs.Result.{result_ok}
use Rattle.std.specs.Str.{is_utf8}
use Rattle.base64.specs.Engines.{standard}
use Rattle.base64.specs.GeneralPurpose.{IsBytes, encode_of, decode_of}
use Rattle.serde_json.specs.Data.{Data, string, Members, put}
use Rattle.sp_json.specs.Fields.{has_key, text_at}

-- each is below 256
abbrev pub AreBytes : List ℕ → Type 0
AreBytes bytes = IsBytes bytes

-- the standard base64 of bytes, with padding
unfoldable pub base64_of : List ℕ → List ℕ
base64_of bytes = encode_of standard bytes

-- the bytes that a text is the standard base64 of, with padding and without bits left over
unfoldable pub from_base64 : List ℕ → Option (List ℕ)
from_base64 text = result_ok (decode_of standard text)

-- the payload of these bytes, unless they are too many
abbrev pub payload_from : List ℕ → Option (List ℕ)
payload_from bytes = if nat_le (length bytes) 8388608 then Some bytes else None

-- the payload of a base64
abbrev pub payload_from64 : List ℕ → Option (List ℕ)
payload_from64 text = option_and_then payload_from (from_base64 text)

-- the payload that the fields give, which is empty where they are absent
abbrev pub payload_in : Data → Option (List ℕ)
payload_in d =
    if has_key (codes "payload") d then option_and_then payload_from (text_at (codes "payload") d)
    else (if has_key (codes "payload64") d then option_and_then payload_from64 (text_at (codes "payload64") d)
    else Some [])

-- fields with a payload: as text where it is UTF-8, and else as base64
abbrev pub with_payload : List ℕ → Members → Members
with_payload bytes ms =
    if is_utf8 bytes then put (codes "payload") (string bytes) ms
    else put (codes "payload64") (string (base64_of bytes)) ms
