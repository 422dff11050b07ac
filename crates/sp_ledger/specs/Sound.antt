-- What every ledger of a run has.
use Rattle.sp_access.specs.Flow.{FlowView}
use Rattle.sp_base.specs.Name.{is_caller}
use Rattle.sp_config.specs.Attributes.{AreInRange}
use Rattle.sp_config.specs.declared.kind.EndpointKind.{EndpointKind}
use Rattle.sp_config.specs.declared.kind.EndpointKind.TheVariants.{Queue, TopicEndpoint}
use Rattle.sp_copies.specs.History.{History, is_closed, used_bytes}
use Rattle.sp_copies.specs.declared.made.MadeCopy.{MadeCopy}
use Rattle.sp_endpoint.specs.Endpoint.{EndpointView}
use Rattle.sp_ledger.specs.Changes.{logged_size}
use Rattle.sp_ledger.specs.Ledger.{Ledger, Log, Next, Published, Replay, message_of}
use Rattle.sp_ledger.specs.Limits.{bytes_per_mb, greatest_quota, most_endpoints, most_subscriptions, spent}
use Rattle.sp_ledger.specs.One.{IsOne, is_by_move}
use Rattle.sp_ledger.specs.Turns.{IsInTurn}
use Rattle.sp_message.specs.Size.{size_of}
use Rattle.std.specs.List.{list_any, range_with_len}
use Rattle.std.specs.Prelude.{All, AllPairs, Bool, IsTrue, List, Option, bytes_eq, count_by, false, is_none, is_some, length}
use Rattle.std.specs.Prelude.{map, not, true, ℕ, ◌&&◌, ◌+◌, ◌-◌, ◌<◌, ◌==◌, ◌||◌, ◌≡◌, ◌≤◌, sum_by, [], ◌*◌}

-- only a queue has subscriptions and partitions, and only a topic endpoint a topic and a selector
abbrev pub suits_kind : EndpointKind → EndpointView → Bool
suits_kind Queue e = is_none e.topic && is_none e.selector
suits_kind TopicEndpoint e = (length e.subscriptions == 0) && (e.attributes.partition_count == 0)

-- the attributes are in their ranges, at most 100 subscriptions are there, and all suits the kind
pub record IsEndpoint (e : EndpointView) : Type 0 where
  pub ranges : AreInRange e.attributes
  pub subscriptions : length e.subscriptions ≤ most_subscriptions
  pub suits : suits_kind e.kind e ≡ true

-- at most 1,000 endpoints of different names, whose numbers rise and are below the next one
pub record AreEndpoints (next : ℕ) (endpoints : List EndpointView) : Type 0 where
  pub rise : AllPairs (λ d e. d.number < e.number) endpoints
  pub below : All (λ e. e.number < next) endpoints
  pub differ : AllPairs (λ d e. bytes_eq d.name e.name ≡ false) endpoints
  pub each : All IsEndpoint endpoints
  pub most : length endpoints ≤ most_endpoints

-- the messages' numbers rise and are below the next one
pub record AreMessages (next : ℕ) (messages : List Published) : Type 0 where
  pub rise : AllPairs (λ m n. m.number < n.number) messages
  pub below : All (λ m. m.number < next) messages

-- a flow on a topic endpoint has no selector: it is the endpoint's
abbrev pub suits_flow : EndpointKind → Option (List ℕ) → Bool
suits_flow Queue selector = true
suits_flow TopicEndpoint selector = is_none selector

-- whether a flow's endpoint is there, of a kind that its selector suits
abbrev pub has_endpoint : List EndpointView → FlowView → Bool
has_endpoint endpoints f = list_any (λ e. (e.number == f.endpoint) && suits_flow e.kind f.selector) endpoints

-- the flows' numbers rise and are below the next one, their endpoints are there, and their callers' names are short
pub record AreFlows (next : ℕ) (endpoints : List EndpointView) (flows : List FlowView) : Type 0 where
  pub rise : AllPairs (λ f g. f.number < g.number) flows
  pub below : All (λ f. f.number < next) flows
  pub there : All (λ f. IsTrue (has_endpoint endpoints f)) flows
  pub callers : All (λ f. IsTrue (is_caller f.caller)) flows

-- the replays' numbers rise and are below the next one
pub record AreReplays (next : ℕ) (replays : List Replay) : Type 0 where
  pub rise : AllPairs (λ r q. r.number < q.number) replays
  pub below : All (λ r. r.number < next) replays

-- the logged messages are there, their numbers rise, and their sizes sum to at most the log's; one that is off is empty
pub record AreLogged (messages : List Published) (log : Log) : Type 0 where
  pub there : All (λ n. IsTrue (is_some (message_of messages n))) log.messages
  pub rise : AllPairs (λ m n. m < n) log.messages
  pub fit : sum_by (logged_size messages) log.messages ≤ bytes_per_mb * log.size
  pub off : log.enabled ≡ false → log.messages ≡ []

-- no number is drawn from 2^62 on, and units are numbered from 1
pub record AreNext (next : Next) : Type 0 where
  pub endpoint : next.endpoint ≤ spent
  pub message : next.message ≤ spent
  pub flow : next.flow ≤ spent
  pub replay : next.replay ≤ spent
  pub unit : 0 < next.unit

-- whether a copy's message is there, with the copy's size
abbrev pub has_message : List Published → MadeCopy → Bool
has_message messages c = list_any (λ m. (m.number == c.message) && (size_of m.message == c.size)) messages

-- how many spooled copies may still be moved
abbrev pub movable_count : History → ℕ
movable_count H = count_by (λ c. not (is_by_move c.origin) && not (is_closed H.closed c.number)) H.made

-- the copies' quotas and counts, and what they name of the ledger; of closed ones only what their closing keeps
pub record AreCopies (L : Ledger) : Type 0 where
  -- no endpoint's spooled copies use more than the greatest quota
  pub quota : (endpoint : ℕ) → used_bytes L.copies endpoint ≤ greatest_quota
  -- it is counted of each copy how often it was handed out, less often than the next unit's number
  pub counted : map (λ a. a.copy) L.copies.attempts ≡ map (λ c. c.number) L.copies.made
  pub attempts : All (λ a. a.count < L.next.unit) L.copies.attempts
  -- each copy's endpoint has been numbered
  pub endpoints : All (λ c. c.endpoint < L.next.endpoint) L.copies.made
  -- each spooled copy's message is there, with the copy's size
  pub messages : All (λ c. IsTrue (is_closed L.copies.closed c.number || has_message L.messages c)) L.copies.made
  -- for each spooled copy that may be moved a number up to 2^62 is left
  pub next : L.copies.next + movable_count L.copies ≤ spent + 1

-- what each change keeps
pub record IsSound (L : Ledger) : Type 0 where
  pub one : IsOne L
  pub copies : AreCopies L
  pub endpoints : AreEndpoints L.next.endpoint L.endpoints
  pub messages : AreMessages L.next.message L.messages
  pub flows : AreFlows L.next.flow L.endpoints L.flows
  pub replays : AreReplays L.next.replay L.replays
  pub logged : AreLogged L.messages L.log
  pub next : AreNext L.next
  pub turns : All (IsInTurn L.flows L.copies) L.endpoints

-- what every ledger has at every moment, within a unit too
pub record IsCounted (L : Ledger) : Type 0 where
  pub sound : IsSound L
  pub unit : L.next.unit ≤ spent + 1

-- what every ledger has between two units: as long as a flow is bound, a number is left for the restart that unbinds it
pub record IsLedger (L : Ledger) : Type 0 where
  pub sound : IsSound L
  pub unit : L.next.unit ≤ spent + 1
  pub unbound : spent < L.next.unit → L.flows ≡ []

-- nothing was forgotten: the copies that were made are those of all numbers from a first one to the next less one
pub record IsWhole (first : ℕ) (H : History) : Type 0 where
  pub begun : first ≤ H.next
  pub each : map (λ c. c.number) H.made ≡ range_with_len first (H.next - first)
