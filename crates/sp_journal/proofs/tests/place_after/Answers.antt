use Rattle.std.proofs.Common.{Some, Err, ap, sym, subst}
use Rattle.sp_journal.specs.Format.{IsPiece}
use Rattle.sp_journal.proofs.tests.place_after.Goals as goal

pub heal_once-requires-clause-stands : goal.heal_once-requires-clause-stands
heal_once-requires-clause-stands g c =
    let was = c.in_ok-journal.ensures.units in
    let unit = c.in-Ok.ensures.0 in
    let is : IsPiece unit c.as_slice.result.now =
    subst (IsPiece unit) (sym c.as_slice.ensures.value) c.in-Ok.ensures.1 in (
      Some unit,
      was.0,
      c.in-Err-DiskFault.ensures.unsure was.0 unit was.1 is (ap (λ e. Err e) c.in-Err-DiskFault.field-0-is),
    )
