-- What a query is answered.
use Rattle.sp_access.specs.Activity.{flows_of, is_active}
use Rattle.sp_access.specs.Flow.{FlowView}
use Rattle.sp_base.specs.declared.refusal.Refusal.{Refusal}
use Rattle.sp_base.specs.declared.refusal.Refusal.TheVariants.{UnknownEndpoint}
use Rattle.sp_copies.specs.History.{History, attempts_of, copy_of, fate_of, held_by}
use Rattle.sp_copies.specs.declared.closed.Fate.{Fate}
use Rattle.sp_copies.specs.declared.closed.Fate.TheVariants as fates
use Rattle.sp_endpoint.specs.Endpoint.{EndpointView}
use Rattle.sp_endpoint.specs.Endpoints.{named}
use Rattle.sp_event.specs.declared.answer.BoundFlow.{BoundFlow}
use Rattle.sp_event.specs.declared.answer.CopyDetails.{CopyDetails}
use Rattle.sp_event.specs.declared.answer.Reply.{Reply}
use Rattle.sp_event.specs.declared.answer.Reply.TheVariants as replies
use Rattle.sp_event.specs.declared.request.Query.{Query}
use Rattle.sp_event.specs.declared.request.Query.TheVariants as queries
use Rattle.sp_ledger.specs.Ledger.{Ledger}
use Rattle.sp_ledger.specs.Tally.{tally_in}
use Rattle.std.specs.Prelude.{Bool, List, None, Option, Some, false, if◌then◌else◌, length, map, option_map, true, ℕ}

-- a refusal, or a reply
pub data Answer : Type 0 where
  unanswered : Refusal → Answer
  gave : Reply → Answer

-- the reply on what has to be there
abbrev pub answer_on : {X : Type 0} → Option X → Refusal → (X → Reply) → Answer
answer_on None refusal reply = unanswered refusal
answer_on (Some x) refusal reply = gave (reply x)

-- the tally of a name's endpoint, which has to be there, or of all
abbrev pub tally_answer : Ledger → Option (List ℕ) → Answer
tally_answer L None = gave (replies.Tally (tally_in L.copies None))
tally_answer L (Some name) =
    answer_on (named name L.endpoints) (UnknownEndpoint name)
    (λ e. replies.Tally (tally_in L.copies (Some e.number)))

-- where a copy is, which message it is of, and how often it was handed out
abbrev pub details_of : History → ℕ → Option CopyDetails
details_of H copy =
    option_map (λ c. record { endpoint = c.endpoint; message = c.message; attempts = attempts_of H.attempts copy })
    (copy_of H.made copy)

-- whether the closing of a copy of that fate, if any, is still told
abbrev pub is_kept : Fate → Bool
is_kept fates.Earlier = false
is_kept fate = true

-- the fate of a copy, and what is still told of it
abbrev pub copy_reply : History → ℕ → Reply
copy_reply H copy = replies.Copy copy (fate_of H copy) (if is_kept (fate_of H copy) then details_of H copy else None)

-- what is told of a flow of an endpoint
abbrev pub bound_flow : Ledger → EndpointView → FlowView → BoundFlow
bound_flow L e f = record {
  flow = f.number;
  caller = f.caller;
  held = length (held_by L.copies f.number);
  active = is_active e.attributes (flows_of L.flows e.number) f.number;
}

-- the flows of a name's endpoint, in the order in which they were bound
abbrev pub flows_answer : Ledger → List ℕ → Answer
flows_answer L name =
    answer_on (named name L.endpoints) (UnknownEndpoint name)
    (λ e. replies.Flows e.name (map (bound_flow L e) (flows_of L.flows e.number)))

-- what a query of a caller is answered, at a moment
abbrev pub answer : ℕ → List ℕ → Query → Ledger → Answer
answer moment caller (queries.Tally endpoint) L = tally_answer L endpoint
answer moment caller (queries.Copy copy) L = gave (copy_reply L.copies copy)
answer moment caller (queries.Flows endpoint) L = flows_answer L endpoint
