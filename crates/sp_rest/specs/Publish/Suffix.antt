-- What stands behind a property's value to name its kind: `;`, spaces, `type=` and a word.
use Rattle.std.specs.Prelude.{ℕ, ◌==◌, ◌&&◌, ◌||◌, Bool, not, List, length, drop, codes, bytes_eq, nat_eq, nat_lt, Option, Some, None, if◌then◌else◌}
use Rattle.std.specs.List.{before_last, after_last, list_all, list_any, position_or_len, starts_with}
use Rattle.std.specs.Char.{is_ascii_alphanumeric}
use Rattle.sp_rest.specs.declared.publish.suffix.ValueKind.{ValueKind}
use Rattle.sp_rest.specs.declared.publish.suffix.ValueKind.TheVariants.{Text, Whole, Bool as Truth, Fixed}

abbrev pub is_semicolon : ℕ → Bool
is_semicolon b = b == 59

-- what stands behind the spaces at the front
abbrev pub past_spaces : List ℕ → List ℕ
past_spaces text = drop (position_or_len (λ b. not (b == 32)) text) text

-- one letter or digit or more, and nothing else
abbrev pub is_word : List ℕ → Bool
is_word text = nat_lt 0 (length text) && list_all is_ascii_alphanumeric text

-- past spaces, `type=` and a word reach the end
abbrev pub names_kind : List ℕ → Bool
names_kind text = starts_with nat_eq (past_spaces text) (codes "type=") && is_word (drop 5 (past_spaces text))

-- the value has a suffix behind its last semicolon
abbrev pub has_suffix : List ℕ → Bool
has_suffix value = list_any is_semicolon value && names_kind (after_last is_semicolon value)

-- the value without its suffix, and the suffix's word
abbrev pub bare_of : List ℕ → List ℕ
bare_of value = before_last is_semicolon value

abbrev pub word_of : List ℕ → List ℕ
word_of value = drop 5 (past_spaces (after_last is_semicolon value))

-- the words for a text, for a whole number, whose range they don't narrow, and for a truth value
abbrev pub names_text : List ℕ → Bool
names_text word = bytes_eq word (codes "string") || bytes_eq word (codes "text")

abbrev pub names_whole : List ℕ → Bool
names_whole word =
    bytes_eq word (codes "int8") || bytes_eq word (codes "int16") || bytes_eq word (codes "int32") || bytes_eq word (codes "int64") || bytes_eq word (codes "whole")

abbrev pub names_truth : List ℕ → Bool
names_truth word = bytes_eq word (codes "bool") || bytes_eq word (codes "boolean")

-- the kind that a word names
abbrev pub kind_named : List ℕ → Option ValueKind
kind_named word =
    if names_text word then Some Text
    else (if names_whole word then Some Whole
    else (if names_truth word then Some Truth
    else (if bytes_eq word (codes "fixed") then Some Fixed
    else None)))
