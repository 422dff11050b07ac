-- How contracts see the fields of the flows, and what is true of them.
use Rattle.std.specs.Prelude.{◌<◌, All, AllPairs}
use Rattle.sp_access.specs.Flow.{FlowView}
use Rattle.sp_access.specs.Flows.{FlowsView}
use Rattle.sp_access.specs.declared.flows.Flows.TheInside.{Inside}

abbrev pub flows_view : Inside → FlowsView
flows_view f = record { flows = f.rows.items; room = f.rows.room; next = f.next }

-- the numbers rise, and are below the next
pub record AreNumbered (f : Inside) : Type 0 where
  pub rise : AllPairs (λ (a b : FlowView). a.number < b.number) f.rows.items
  pub below : All (λ (a : FlowView). a.number < f.next) f.rows.items
