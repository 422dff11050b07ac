-- Which requests the bytes of a line are, and what is wrong with those that are none.
use Rattle.std.specs.Prelude.{◌≡◌, ◌==◌, ◌⊎◌, ◌||◌, ◌&&◌, ℕ, List, Bool, not, false, Option, Some, None, Result, Ok}
use Rattle.std.specs.Prelude.{Err, if◌then◌else◌, codes, IsUtf8}
use Rattle.std.specs.List.{list_any}
use Rattle.serde_json.specs.Data.{Data}
use Rattle.serde_json.specs.Read.{read}
use Rattle.sp_base.specs.declared.declined.Declined.{Declined}
use Rattle.sp_base.specs.declared.declined.Declined.TheVariants.{Refused, Memory}
use Rattle.sp_base.specs.declared.refusal.Refusal.{Refusal}
use Rattle.sp_base.specs.declared.refusal.Refusal.TheVariants.{BadRequest}
use Rattle.sp_event.specs.declared.request.Ask.{Ask}
use Rattle.sp_json.specs.Fields.{has_key, choice_at}
use Rattle.sp_json.specs.Names.{has_required, another_field}
use Rattle.sp_flowline.specs.declared.op.Op.{Op}
use Rattle.sp_flowline.specs.Asks.{ask_in}
use Rattle.sp_flowline.specs.Op.{op_word, all_ops, fields_of}

-- the bytes are no JSON text of one line; the value is no object with a known op; a required field
-- is missing; there is a field that the op doesn't have, or two that exclude each other
abbrev pub no_json : Result Ask Refusal
no_json = Err (BadRequest 0)

abbrev pub no_op : Result Ask Refusal
no_op = Err (BadRequest 1)

abbrev pub missing : Result Ask Refusal
missing = Err (BadRequest 2)

abbrev pub foreign : Result Ask Refusal
foreign = Err (BadRequest 3)

-- whether two fields exclude each other: both forms of a payload, or both destinations
abbrev pub has_exclusive : Data → Bool
has_exclusive d =
    (has_key (codes "payload") d && has_key (codes "payload64") d)
    || (has_key (codes "topic") d && has_key (codes "queue") d)

-- what is read of the fields: first which they are, and then their values
abbrev pub read_fields : Op → Data → Result Ask Refusal
read_fields op d =
    if not (has_required (fields_of op) d) then missing
    else (if another_field (fields_of op) d || has_exclusive d then foreign
    else ask_in op d)

abbrev pub request_of : Option Op → Data → Result Ask Refusal
request_of None d = no_op
request_of (Some op) d = read_fields op d

-- what a JSON value is read as
abbrev pub reading_of : Data → Result Ask Refusal
reading_of d = request_of (choice_at op_word all_ops (codes "op") d) d

-- the bytes are a JSON text of this value without a line feed in it
pub record IsJsonLine (line : List ℕ) (d : Data) : Type 0 where
  pub one_line : list_any (λ b. b == 10) line ≡ false
  pub text : IsUtf8 line
  pub value : read line ≡ Some d

-- the bytes of a line are read as this: by the value whose text they are, or by its want
abbrev pub IsReadAs : List ℕ → Result Ask Refusal → Type 0
IsReadAs line r =
    ((d : Data) × IsJsonLine line d × (reading_of d ≡ r)) ⊎ (((d : Data) → IsJsonLine line d → ⊥) × (r ≡ no_json))

-- the line is read as that request or refusal; want of memory may always come
abbrev pub Reads : List ℕ → Result Ask (Declined Refusal) → Type 0
Reads line (Ok ask) = IsReadAs line (Ok ask)
Reads line (Err (Refused refusal)) = IsReadAs line (Err refusal)
Reads line (Err Memory) = Unit {0}
