-- The parts of a request: a value that is read, or the refusal.
use Rattle.std.specs.Prelude.{Option, Some, None, Result, Ok, Err}
use Rattle.std.specs.Option.{ok_or}
use Rattle.sp_base.specs.declared.refusal.Refusal.{Refusal}
use Rattle.sp_base.specs.declared.refusal.Refusal.TheVariants.{BadRequest}

-- a value, unless a field is outside its form
abbrev pub formed : {A : Type 0} → Option A → Result A Refusal
formed value = ok_or value (BadRequest 4)

-- a value, unless there is a refusal
abbrev pub unless : {A : Type 0} → Option Refusal → A → Result A Refusal
unless None value = Ok value
unless (Some refusal) value = Err refusal

-- one part and then what is read with it; the first refusal is the one
abbrev pub and_then : {A B : Type 0} → Result A Refusal → (A → Result B Refusal) → Result B Refusal
and_then (Ok value) rest = rest value
and_then (Err refusal) rest = Err refusal
