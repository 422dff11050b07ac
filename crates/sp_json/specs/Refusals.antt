-- The values that a refusal shows, as JSON.
use Rattle.std.specs.Prelude.{fold}
use Rattle.serde_json.specs.Data.{Data, string, Members, no_members, put}
use Rattle.sp_base.specs.declared.refusal.Refusal.{Refusal}
use Rattle.sp_base.specs.declared.refusal.shown.ShownValue.{ShownValue}
use Rattle.sp_base.specs.declared.refusal.shown.ShownValue.TheVariants.{Number, Text, Permission, Kind}
use Rattle.sp_base.specs.Refusal.{shown_of}
use Rattle.sp_base.specs.Shown.{ShownAs}
use Rattle.sp_base.specs.Words.{permission_word, kind_word}
use Rattle.sp_json.specs.Members.{whole}

-- a value by its kind: a number, or a text
abbrev pub shown_data : ShownValue → Data
shown_data (Number n) = whole n
shown_data (Text text) = string text
shown_data (Permission permission) = string (permission_word permission)
shown_data (Kind kind) = string (kind_word kind)

-- fields with a value that is shown
abbrev pub with_shown : Members → ShownAs → Members
with_shown ms shown = put shown.name (shown_data shown.value) ms

-- the fields that show the values of a refusal
abbrev pub shown_members : Refusal → Members
shown_members refusal = fold with_shown no_members (shown_of refusal)
