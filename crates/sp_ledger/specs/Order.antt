-- In which order copies of a partition are handed out.
use Rattle.sp_access.specs.Flows.{flow_numbered}
use Rattle.sp_access.specs.Flow.{FlowView}
use Rattle.sp_endpoint.specs.Endpoint.{EndpointView}
use Rattle.sp_endpoint.specs.Endpoints.{numbered}
use Rattle.sp_event.specs.declared.answer.Reply.{Reply}
use Rattle.sp_event.specs.declared.answer.Reply.TheVariants as replies
use Rattle.sp_ledger.specs.Ledger.{Ledger}
use Rattle.sp_ledger.specs.OnFlows.{reach}
use Rattle.std.specs.Prelude.{AllPairs, Contains, List, Some, map, ℕ, ⊤, ◌≡◌}

-- of two copies of one partition that a flow of an endpoint can reach, the later isn't handed out without the earlier
abbrev pub KeepsOrder : Ledger → EndpointView → ℕ → List ℕ → Type 0
KeepsOrder L e flow handed =
    AllPairs (λ earlier later. earlier.partition ≡ later.partition → Contains handed later.number →
    Contains handed earlier.number) (reach L e flow)

-- so it is where a reply tells that copies are handed out to a flow
abbrev pub HandsOutInOrder : Ledger → Reply → Type 0
HandsOutInOrder L (replies.Pull flow deliveries) =
    (f : FlowView) (e : EndpointView) → flow_numbered L.flows flow ≡ Some f → numbered f.endpoint L.endpoints ≡ Some e →
    KeepsOrder L e flow (map (λ d. d.copy) deliveries)
HandsOutInOrder L reply = ⊤
