-- Answers that may be declined for want of memory.
use Rattle.std.specs.Prelude.{◌≡◌, Result, Ok, Err}
use Rattle.sp_base.specs.declared.declined.Declined.{Declined}
use Rattle.sp_base.specs.declared.declined.Declined.TheVariants.{Refused, Memory}

-- the answer or the refusal that the rules give; want of memory may always come
abbrev pub Obeys : {A R : Type 0} → Result A R → Result A (Declined R) → Type 0
Obeys right (Ok value) = right ≡ Ok value
Obeys right (Err (Refused refusal)) = right ≡ Err refusal
Obeys right (Err Memory) = Unit {0}
