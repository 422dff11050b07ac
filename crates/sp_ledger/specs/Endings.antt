-- How copies end, one after another: each asks for what the ends before it left.
use Rattle.sp_config.specs.Attributes.{AttributesView, quota_of}
use Rattle.sp_copies.specs.History.{attempts_of, closed_as, used_bytes}
use Rattle.sp_copies.specs.declared.closed.Cause.TheVariants.{DmqMissing}
use Rattle.sp_copies.specs.declared.closed.Closing.TheVariants.{Discarded}
use Rattle.sp_copies.specs.declared.closed.Fate.{Fate}
use Rattle.sp_copies.specs.declared.closed.Fate.TheVariants as fates
use Rattle.sp_copies.specs.declared.made.MadeCopy.{MadeCopy}
use Rattle.sp_copies.specs.declared.made.NewCopy.{NewCopy}
use Rattle.sp_copies.specs.declared.made.Origin.TheVariants.{Moved}
use Rattle.sp_endpoint.specs.Endpoint.{EndpointView}
use Rattle.sp_endpoint.specs.Endpoints.{numbered, queue_named}
use Rattle.sp_event.specs.declared.answer.CopyFate.{CopyFate}
use Rattle.sp_ledger.specs.Changes.{Change, changed, closes, frees, moves}
use Rattle.sp_ledger.specs.Ledger.{Ledger, message_of}
use Rattle.sp_ledger.specs.Publish.{partition_for}
use Rattle.sp_settle.specs.Questions.{end_of, is_exceeded}
use Rattle.sp_settle.specs.declared.questions.CopyFacts.{CopyFacts}
use Rattle.sp_settle.specs.declared.questions.Ending.{Ending}
use Rattle.sp_settle.specs.declared.questions.Ending.TheVariants.{Discard, Move}
use Rattle.sp_settle.specs.declared.questions.Reason.{Reason}
use Rattle.sp_settle.specs.declared.questions.Reason.TheVariants.{RedeliveryExceeded}
use Rattle.sp_settle.specs.declared.questions.Target.{Target}
use Rattle.std.specs.List.{cons_option}
use Rattle.std.specs.Prelude.{Bool, List, None, Option, Some, [], false, if◌then◌else◌, option_and_then, option_map}
use Rattle.std.specs.Prelude.{unwrap_or, ℕ, ◌∷◌}

-- the queue that a copy's endpoint names for dead messages, where there is a queue of that name
abbrev pub dead_queue : Ledger → MadeCopy → Option EndpointView
dead_queue L c =
    option_and_then (λ e. queue_named e.attributes.dead_msg_queue L.endpoints) (numbered c.endpoint L.endpoints)

-- what is asked of it: whether it takes messages, and the bytes that it has
abbrev pub target_of : Ledger → EndpointView → Target
target_of L queue = record {
  endpoint = queue.number;
  ingress = queue.attributes.ingress_enabled;
  used = used_bytes L.copies queue.number;
  max = quota_of queue.attributes;
}

-- whether a copy's message may be moved
abbrev pub is_eligible : Ledger → MadeCopy → Bool
is_eligible L c = unwrap_or (option_map (λ m. m.message.eligible) (message_of L.messages c.message)) false

-- what is asked of a copy
abbrev pub facts_of : Ledger → MadeCopy → CopyFacts
facts_of L c = record { eligible = is_eligible L c; origin = c.origin; endpoint = c.endpoint; size = c.size }

-- how a copy ends
abbrev pub end_by : Reason → MadeCopy → Ledger → Ending
end_by why c L = end_of why (facts_of L c) (option_map (target_of L) (dead_queue L c))

-- the partition of a copy's message in a queue
abbrev pub partition_in : Ledger → MadeCopy → AttributesView → ℕ
partition_in L c a = unwrap_or (option_map (λ m. partition_for m.message m.number a) (message_of L.messages c.message)) 0

-- a copy of the same message in a queue, without a deadline
abbrev pub moved_copy : Ledger → MadeCopy → EndpointView → NewCopy
moved_copy L c queue = record {
  endpoint = queue.number;
  message = c.message;
  size = c.size;
  origin = Moved c.number;
  deadline = None;
  partition = partition_in L c queue.attributes;
}

-- a copy is discarded, or moved to the queue, without which no copy is moved
abbrev pub ended_as : Ending → MadeCopy → Ledger → Option EndpointView → Change
ended_as (Discard cause) c L queue = closes c.number (Discarded cause)
ended_as Move c L None = closes c.number (Discarded DmqMissing)
ended_as Move c L (Some queue) = moves c.number (moved_copy L c queue)

-- a copy ends
abbrev pub ending : Reason → MadeCopy → Ledger → Change
ending why c L = ended_as (end_by why c L) c L (dead_queue L c)

-- whether a copy has had the last attempt that its endpoint allows
abbrev pub has_had_last : Ledger → MadeCopy → Bool
has_had_last L c =
    unwrap_or (option_map (λ e. is_exceeded e.attributes.max_redelivery_count (attempts_of L.copies.attempts c.number))
    (numbered c.endpoint L.endpoints)) false

-- a copy is given back, or ends where it has had its last attempt
abbrev pub returning : MadeCopy → Ledger → Change
returning c L = if has_had_last L c then ending RedeliveryExceeded c L else frees c.number

-- one copy after another
abbrev pub one_by_one : (MadeCopy → Ledger → Change) → List MadeCopy → Ledger → List Change
one_by_one change [] L = []
one_by_one change (c ∷ cs) L = change c L ∷ one_by_one change cs (changed (change c L) L)

-- the copy that a change closes, and as what
abbrev pub closed_by : Change → Ledger → Option CopyFate
closed_by (closes copy how) L = Some (record { copy = copy; fate = closed_as how })
closed_by (moves copy new) L = Some (record { copy = copy; fate = fates.Moved L.copies.next })
closed_by other L = None

-- what a change leaves of the copy that it settles
abbrev pub fate_by : Change → Ledger → Fate
fate_by change L = unwrap_or (option_map (λ t. t.fate) (closed_by change L)) fates.Spooled

-- what is told of changes, one after another: the copies that they close
abbrev pub all_told : List Change → Ledger → List CopyFate
all_told [] L = []
all_told (change ∷ more) L = cons_option (closed_by change L) (all_told more (changed change L))
