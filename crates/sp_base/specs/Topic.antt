-- Topics: texts that are cut into levels by slashes.
use Rattle.std.specs.Prelude.{◌≡◌, ◌==◌, ℕ, List, length, take, nat_lt, if◌then◌else◌, Option, Some, None}
use Rattle.std.specs.Option.{option_or}
use Rattle.std.specs.List.{slice_split, join_with_byte}
use Rattle.std.specs.Str.Lossy.{utf8_valid_len}

-- the pieces of a text between its slashes, empty ones included
abbrev pub levels : List ℕ → List (List ℕ)
levels text = slice_split (λ b. b == 47) text

-- the offset of the first byte that is not UTF-8, if there is one
abbrev pub first_bad_byte : List ℕ → Option ℕ
first_bad_byte text =
    if nat_lt (utf8_valid_len text) (length text) then Some (utf8_valid_len text) else None

-- the offset of the slash that begins the level after the first n, if the text has more than n
abbrev pub slash_after : ℕ → List ℕ → Option ℕ
slash_after n text =
    if nat_lt n (length (levels text)) then Some (length (join_with_byte 47 (take n (levels text)))) else None

-- the first of the reasons for which bytes are no topic, as an offset: they are empty; they are more
-- than 250; they are not UTF-8; they have more than 128 levels
unfoldable pub topic_fault : List ℕ → Option ℕ
topic_fault text =
    if length text == 0 then Some 0
    else (if nat_lt 250 (length text) then Some 250
    else option_or (first_bad_byte text) (slash_after 128 text))

-- the bytes are a topic
abbrev pub IsTopic : List ℕ → Type 0
IsTopic text = topic_fault text ≡ None
