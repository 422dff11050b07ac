-- What a unit's body is.
use Rattle.std.specs.Prelude.{ℕ, List}
use Rattle.sp_unit.specs.UnitBytes.{IsUnit, UnitView}

-- the bytes of some unit
abbrev pub IsBody : List ℕ → Type 0
IsBody bytes = (unit : UnitView) × IsUnit bytes unit
