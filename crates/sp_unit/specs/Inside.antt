-- How contracts see a unit's fields.
use Rattle.sp_unit.specs.UnitBytes.{UnitView}
use Rattle.sp_unit.specs.declared.unit.Unit.TheInside.{Inside}

abbrev pub view_of : Inside → UnitView
view_of u = record { moment = u.moment; caller = u.caller; events = u.events }
