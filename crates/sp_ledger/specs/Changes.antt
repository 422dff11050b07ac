-- The changes of which the step of each event is a list, and what each does to a ledger.
pub use Rattle.sp_copies.specs.History.{all_shared, with_share}
pub use Rattle.sp_copies.specs.declared.made.Share.{Share}
use Rattle.sp_access.specs.Flows.{without_flow}
use Rattle.sp_access.specs.Flow.{FlowView}
use Rattle.sp_copies.specs.History.{with_closed, with_given_back, with_held, with_made}
use Rattle.sp_copies.specs.declared.closed.Closing.{Closing}
use Rattle.sp_copies.specs.declared.closed.Closing.TheVariants.{Moved}
use Rattle.sp_copies.specs.declared.made.NewCopy.{NewCopy}
use Rattle.sp_endpoint.specs.Endpoint.{EndpointView}
use Rattle.sp_endpoint.specs.Endpoints.{replaced, without_endpoint}
use Rattle.sp_ledger.specs.Ledger.{Ledger, Log, Published, Replay, message_of}
use Rattle.sp_ledger.specs.Limits.{bytes_per_mb}
use Rattle.sp_message.specs.Size.{size_of}
use Rattle.sp_message.specs.declared.message.Message.{Message}
use Rattle.std.specs.Prelude.{List, [], filter, fold, if◌then◌else◌, map, nat_le, not, option_map, sum_by}
use Rattle.std.specs.Prelude.{unwrap_or, ℕ, ◌*◌, ◌++◌, ◌+◌, ◌==◌, ◌∷◌}

-- the seven kinds of change
pub data Change : Type 0 where
  -- an endpoint comes, goes, or has other fields
  comes : EndpointView → Change
  goes : ℕ → Change
  becomes : EndpointView → Change
  -- a message is published, with its copies, and its place in the log
  publishes : Message → List Share → Change
  -- the log is set or cut
  logs : Log → Change
  -- a replay makes a copy of a logged message
  repeats : NewCopy → Change
  -- an open copy closes, or it is moved: it closes, and a copy is made elsewhere
  closes : ℕ → Closing → Change
  moves : ℕ → NewCopy → Change
  -- a copy is held by a flow, or freed
  holds : ℕ → ℕ → Change
  frees : ℕ → Change
  -- a flow is bound, goes, or goes with all others; a replay starts, goes on or ends
  binds : FlowView → Change
  unbinds : ℕ → Change
  unbinds_all : Change
  starts : Replay → Change
  goes_on : Replay → Change
  ends : ℕ → Change

-- the size of a logged message
abbrev pub logged_size : List Published → ℕ → ℕ
logged_size messages number = unwrap_or (option_map (λ m. size_of m.message) (message_of messages number)) 0

-- the longest suffix of logged messages whose sizes sum to at most so many bytes
abbrev pub longest_fit : List Published → ℕ → List ℕ → List ℕ
longest_fit messages most [] = []
longest_fit messages most (n ∷ ns) =
    if nat_le (sum_by (logged_size messages) (n ∷ ns)) most then n ∷ ns
    else longest_fit messages most ns

-- where the log is on, a message stands last in it, and the oldest go that don't fit any more
abbrev pub with_logged : ℕ → List Published → Log → Log
with_logged number messages log =
    let fit = longest_fit messages (bytes_per_mb * log.size) (log.messages ++ number ∷ []) in
    if log.enabled then record log { messages = fit } else log

-- the messages with one more, under the next number and at the ledger's moment
abbrev pub with_message : Message → Ledger → List Published
with_message m L = L.messages ++ record { number = L.next.message; message = m; moment = L.now } ∷ []

-- what a change leaves of a ledger: nothing else is changed by it
abbrev pub changed : Change → Ledger → Ledger
changed (comes e) L = record L { endpoints = L.endpoints ++ e ∷ []; next = record L.next { endpoint = e.number + 1 } }
changed (goes endpoint) L = record L { endpoints = without_endpoint endpoint L.endpoints }
changed (becomes e) L = record L { endpoints = replaced e L.endpoints }
changed (publishes m shares) L = record L {
  messages = with_message m L;
  copies = all_shared L.now shares L.copies;
  log = with_logged L.next.message (with_message m L) L.log;
  next = record L.next { message = L.next.message + 1 };
}
changed (logs log) L = record L { log = log }
changed (repeats c) L = record L { copies = with_made c L.copies }
changed (closes copy how) L = record L { copies = with_closed copy how L.now L.copies }
changed (moves copy new) L = record L { copies = with_made new (with_closed copy (Moved L.copies.next) L.now L.copies) }
changed (holds copy flow) L = record L { copies = with_held copy flow L.copies }
changed (frees copy) L = record L { copies = with_given_back copy L.copies }
changed (binds f) L = record L { flows = L.flows ++ f ∷ []; next = record L.next { flow = f.number + 1 } }
changed (unbinds flow) L = record L { flows = without_flow flow L.flows }
changed unbinds_all L = record L { flows = [] }
changed (starts r) L = record L { replays = L.replays ++ r ∷ []; next = record L.next { replay = r.number + 1 } }
changed (goes_on r) L = record L { replays = map (λ old. if old.number == r.number then r else old) L.replays }
changed (ends replay) L = record L { replays = filter (λ r. not (r.number == replay)) L.replays }

-- one change after another
abbrev pub all_changed : List Change → Ledger → Ledger
all_changed changes L = fold (λ l c. changed c l) L changes
