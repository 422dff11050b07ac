-- What looking at a journal comes to.
use Rattle.std.proofs.Common.{◌≡◌, ℕ, Bool, List, Option, subst}
use Rattle.sp_journal.specs.declared.journal.OpenError.{OpenError}
use Rattle.sp_journal.specs.declared.journal.OpenError.TheVariants as errors
use Rattle.sp_tape.specs.Check.{Checks}
use Rattle.sp_tape.specs.Status.{status_of}
use Rattle.sp_tape.specs.declared.status.Status.{Status}
use Rattle.sp_tape.specs.declared.status.Status.TheVariants.{ReadFault, Usage}

module _ (trusted : Bool) (file : List ℕ) (old new : Option (List ℕ)) where
  -- a journal that isn't opened has no line
  pub open_checks : (error : OpenError) → new ≡ old → Checks trusted file old new (status_of error)
  open_checks errors.DiskFault same = same
  open_checks (errors.Damaged which at) same = same
  open_checks (errors.OtherVersion found) same = same
  open_checks errors.Memory same = same

  pub no_usage : (status : Status) → Checks trusted file old new status → status ≡ Usage → ⊥
  no_usage status checks is = subst (Checks trusted file old new) is checks

  pub no_read_fault : (status : Status) → Checks trusted file old new status → status ≡ ReadFault → ⊥
  no_read_fault status checks is = subst (Checks trusted file old new) is checks
