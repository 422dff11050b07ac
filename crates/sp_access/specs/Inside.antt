-- How contracts see a flow's fields.
use Rattle.sp_access.specs.Flow.{FlowView}
use Rattle.sp_access.specs.declared.flow.Flow.TheInside.{Inside}

abbrev pub view_of : Inside → FlowView
view_of f = record { number = f.number; endpoint = f.endpoint; caller = f.caller; selector = f.selector }
