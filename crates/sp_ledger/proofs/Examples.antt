-- Worked examples of what events come to.
use Rattle.sp_base.specs.declared.refusal.Kind.TheVariants as kinds
use Rattle.sp_base.specs.declared.refusal.Refusal.TheVariants.{BadSubscription, IdsSpent, InUse, NotHeld, UnknownFlow}
use Rattle.sp_config.specs.declared.kind.EndpointKind.TheVariants.{Queue, TopicEndpoint}
use Rattle.sp_copies.specs.declared.closed.Cause.TheVariants.{TopicChanged}
use Rattle.sp_copies.specs.declared.closed.Fate.TheVariants as fates
use Rattle.sp_event.specs.declared.answer.Reply.{Reply}
use Rattle.sp_event.specs.declared.answer.Reply.TheVariants as replies
use Rattle.sp_event.specs.declared.request.Event.{Event}
use Rattle.sp_event.specs.declared.request.Event.TheVariants as events
use Rattle.sp_event.specs.declared.request.Outcome.TheVariants as settling
use Rattle.sp_event.specs.declared.request.Query.TheVariants as queries
use Rattle.sp_ledger.specs.Answer.{answer, gave}
use Rattle.sp_ledger.specs.Events.{outcome}
use Rattle.sp_ledger.specs.Ledger.{Ledger, empty_ledger}
use Rattle.sp_ledger.specs.Step.{Outcome, accepted, idle, refused}
use Rattle.sp_message.specs.declared.message.Dest.{Dest}
use Rattle.sp_message.specs.declared.message.Dest.TheVariants as dests
use Rattle.sp_message.specs.declared.message.Message.{Message}
use Rattle.sp_topic.specs.Matching.{matches}
use Rattle.std.proofs.Common.{refl}
use Rattle.std.specs.Prelude.{List, None, Some, [], codes, fold, false, ℕ, ◌^◌, ◌∷◌, ◌≡◌}

-- what an event of ann comes to at moment 0
abbrev asked : Event → Ledger → Outcome
asked event L = outcome 0 (codes "ann") event L

abbrev told_by : Outcome → List Reply
told_by (refused refusal) = []
told_by (idle told) = told
told_by (accepted M told) = told

abbrev left_by : Outcome → Ledger → Ledger
left_by (refused refusal) L = L
left_by (idle told) L = L
left_by (accepted M told) L = M

-- the ledger after some events
abbrev after : List Event → Ledger → Ledger
after events L = fold (λ M event. left_by (asked event M) M) L events

abbrev start : Ledger
start = empty_ledger (record { endpoint = 1; message = 1; flow = 1; replay = 1; unit = 1 }) 1

abbrev to : Dest → List ℕ → Message
to dest payload = record { dest = dest; payload = payload; ttl = 0; eligible = false; properties = [] }

abbrev queue : List Event
queue = events.Provision (codes "q1") Queue [] ∷ []

abbrev hello : Event
hello = events.Publish (to (dests.Queue (codes "q1")) (codes "hello"))

abbrev one_message : Ledger
one_message = after (hello ∷ []) (after queue start)

-- a queue comes, a message is spooled there, and the tally counts its copy and its 71 bytes
it_comes : told_by (asked (events.Provision (codes "q1") Queue []) start) ≡ replies.Provision (codes "q1") 1 ∷ []
it_comes = refl

it_is_spooled :
    told_by (asked hello (after queue start))
    ≡ replies.Publish 1 (record { copy = 1; endpoint = codes "q1"; fate = fates.Spooled } ∷ []) ∷ []
it_is_spooled = refl

it_is_counted :
    answer 0 (codes "ann") (queries.Tally (Some (codes "q1"))) one_message
    ≡ gave
    (replies.Tally
    (record { accepted = 0; causes = []; discarded = 0; made = 1; moved = 0; spooled = 1; used = 71 }))
it_is_counted = refl

-- an accepted copy can't be settled again, and nothing by a flow that is gone
abbrev settled : Ledger
settled =
    after
    (events.Bind (codes "q1") None None ∷ events.Pull 1 10 ∷ events.Settle 1 1 settling.Accepted ∷ []) one_message

settled_once : asked (events.Settle 1 1 settling.Accepted) settled ≡ refused (NotHeld 1)
settled_once = refl

no_flow :
    asked (events.Settle 1 1 settling.Accepted) (after (events.Unbind 1 ∷ []) settled) ≡ refused (UnknownFlow 1)
no_flow = refl

-- a pull that hands out nothing is idle
none_left : asked (events.Pull 1 10) settled ≡ idle (replies.Pull 1 [] ∷ [])
none_left = refl

-- a queue whose two subscriptions match gets one copy
abbrev twice : List Event
twice = events.Subscribe (codes "q1") (codes "a/>") ∷ events.Subscribe (codes "q1") (codes "a/*") ∷ []

abbrev on_topic : Event
on_topic = events.Publish (to (dests.Topic (codes "a/b")) [])

one_copy :
    told_by (asked on_topic (after twice (after queue start)))
    ≡ replies.Publish 1 (record { copy = 1; endpoint = codes "q1"; fate = fates.Spooled } ∷ []) ∷ []
unfolding matches
one_copy = refl

-- a topic endpoint that has a copy, whose topic changes while no flow is bound
abbrev one_spooled : Ledger
one_spooled =
    after
    (events.Provision (codes "te") TopicEndpoint [] ∷ events.Bind (codes "te") None (Some (codes "a/*")) ∷ on_topic
    ∷ events.Unbind 1
    ∷ [])
    start

abbrev other_topic : Event
other_topic = events.Bind (codes "te") None (Some (codes "c"))

it_is_discarded : told_by (asked other_topic one_spooled) ≡ replies.Bind (codes "te") 2 1 ∷ []
unfolding matches
it_is_discarded = refl

for_its_topic :
    answer 0 (codes "ann") (queries.Copy 1) (after (other_topic ∷ []) one_spooled)
    ≡ gave
    (replies.Copy 1 (fates.Discarded TopicChanged) (Some (record { endpoint = 1; message = 1; attempts = 0 })))
unfolding matches
for_its_topic = refl

not_while_bound :
    asked (events.Bind (codes "te") None (Some (codes "d"))) (after (other_topic ∷ []) one_spooled) ≡ refused (InUse 1 0)
unfolding matches
not_while_bound = refl

-- an exception is no topic to bind with, whether the endpoint is there or not
no_exception : asked (events.Bind (codes "te") None (Some (codes "!a"))) start ≡ refused (BadSubscription 0)
no_exception = refl

-- no message gets the number 2^62
abbrev late : Ledger
late = empty_ledger (record { endpoint = 1; message = 2 ^ 62; flow = 1; replay = 1; unit = 1 }) 1

no_number : asked hello (after queue late) ≡ refused (IdsSpent kinds.Message)
no_number = refl
