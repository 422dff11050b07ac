use Rattle.std.proofs.Common.{[], ◌∷◌, ◌++◌, sym, subst}
use Rattle.sp_journal.specs.Format.{IsPiece}
use Rattle.sp_journal.proofs.tests.append_often.Goals as goal

pub units-preserved : goal.units-preserved
units-preserved g c =
    let was = c.units.invariant.rests in
    let unit = c.in-Ok.ensures.0 in
    let is : IsPiece unit c.as_slice.result.now =
    subst (IsPiece unit) (sym c.as_slice.ensures.value) c.in-Ok.ensures.1 in
    record { rests = (was.0 ++ unit ∷ [], c.in-Ok-append.ensures.added was.0 unit was.1 is) }
