-- What the fields of a request ask for. None where one has a value outside its form.
use Rattle.std.specs.Prelude.{◌^◌, Option, Result, Ok, option_map, codes}
use Rattle.serde_json.specs.Data.{Data}
use Rattle.sp_base.specs.declared.refusal.Refusal.{Refusal}
use Rattle.sp_event.specs.declared.request.Ask.{Ask}
use Rattle.sp_event.specs.declared.request.Ask.TheVariants.{Do, Look}
use Rattle.sp_event.specs.declared.request.Event.{Event}
use Rattle.sp_event.specs.declared.request.Event.TheVariants as events
use Rattle.sp_event.specs.declared.request.Query.{Query}
use Rattle.sp_event.specs.declared.request.Query.TheVariants as queries
use Rattle.sp_flowline.specs.declared.op.Op.{Op}
use Rattle.sp_flowline.specs.declared.op.Op.TheVariants.{Provision, Deprovision, Change, Subscribe, Unsubscribe}
use Rattle.sp_flowline.specs.declared.op.Op.TheVariants.{Publish, Bind, Unbind, Pull, Settle, Tick, Delete}
use Rattle.sp_flowline.specs.declared.op.Op.TheVariants.{Tally, Copy, Flows}
use Rattle.sp_flowline.specs.EndpointEvents.{provision_in, deprovision_in, change_in, delete_in}
use Rattle.sp_flowline.specs.EndpointEvents.{subscribe_in, unsubscribe_in}
use Rattle.sp_json.specs.Fields.{name_at, optional_name_at, ranged_at}
use Rattle.sp_flowline.specs.FlowEvents.{bind_in, unbind_in, pull_in, settle_in}
use Rattle.sp_base.specs.Parts.{formed, and_then}
use Rattle.sp_flowline.specs.Publishes.{publish_in}

-- an event or a query as what is asked
abbrev pub done : Result Event Refusal → Result Ask Refusal
done event = and_then event (λ event. Ok (Do event))

abbrev pub looked : Result Query Refusal → Result Ask Refusal
looked query = and_then query (λ query. Ok (Look query))

-- the counts of an endpoint, or of all
abbrev pub tally_in : Data → Option Query
tally_in d = option_map queries.Tally (optional_name_at (codes "endpoint") d)

-- what has become of a copy
abbrev pub copy_in : Data → Option Query
copy_in d = option_map queries.Copy (ranged_at 0 (2 ^ 62) (codes "copy") d)

-- the flows that are bound to an endpoint
abbrev pub flows_in : Data → Option Query
flows_in d = option_map queries.Flows (name_at (codes "endpoint") d)

-- what the fields of an operation ask for
abbrev pub ask_in : Op → Data → Result Ask Refusal
ask_in Provision d = done (provision_in d)
ask_in Deprovision d = done (formed (deprovision_in d))
ask_in Change d = done (change_in d)
ask_in Subscribe d = done (subscribe_in d)
ask_in Unsubscribe d = done (unsubscribe_in d)
ask_in Publish d = done (publish_in d)
ask_in Bind d = done (bind_in d)
ask_in Unbind d = done (formed (unbind_in d))
ask_in Pull d = done (formed (pull_in d))
ask_in Settle d = done (formed (settle_in d))
ask_in Tick d = done (Ok events.Tick)
ask_in Delete d = done (formed (delete_in d))
ask_in Tally d = looked (formed (tally_in d))
ask_in Copy d = looked (formed (copy_in d))
ask_in Flows d = looked (formed (flows_in d))
