-- The ledger: everything that was ever published, made and closed, and who may take it.
use Rattle.sp_access.specs.Flow.{FlowView}
use Rattle.sp_copies.specs.History.{History, empty_history, used_bytes}
use Rattle.sp_endpoint.specs.Endpoint.{EndpointView}
use Rattle.sp_endpoint.specs.Endpoints.{named}
use Rattle.sp_message.specs.declared.message.Message.{Message}
use Rattle.std.specs.Prelude.{Bool, List, Option, [], false, find, option_map, ℕ, ◌==◌}

-- a message that was published, at its moment
pub record Published : Type 0 where
  pub number : ℕ
  pub message : Message
  pub moment : ℕ

-- the replay log: whether it is on, its size and the quota of all endpoints in MB, and the numbers of its messages
pub record Log : Type 0 where
  pub enabled : Bool
  pub size : ℕ
  pub quota : ℕ
  pub messages : List ℕ

-- a replay that runs: what comes next, what comes last, and how many copies it has made
pub record Replay : Type 0 where
  pub number : ℕ
  pub endpoint : ℕ
  pub next : ℕ
  pub last : ℕ
  pub made : ℕ

-- the next number of each kind; that of the copies stands in their history
pub record Next : Type 0 where
  pub endpoint : ℕ
  pub message : ℕ
  pub flow : ℕ
  pub replay : ℕ
  pub unit : ℕ

-- the parts of a ledger
pub record Ledger : Type 0 where
  -- in order of number
  pub endpoints : List EndpointView
  -- all that were ever published, in order
  pub messages : List Published
  pub copies : History
  -- in the order in which they were bound
  pub flows : List FlowView
  pub log : Log
  pub replays : List Replay
  pub next : Next
  -- the latest moment of an accepted event
  pub now : ℕ

-- the ledger without entries, where a copy's number comes next after those of the other kinds
abbrev pub empty_ledger : Next → ℕ → Ledger
empty_ledger next copy = record {
  endpoints = [];
  messages = [];
  copies = empty_history copy;
  flows = [];
  log = record { enabled = false; size = 0; quota = 2000; messages = [] };
  replays = [];
  next = next;
  now = 0;
}

-- the message of a number, where it was published
abbrev pub message_of : List Published → ℕ → Option Published
message_of messages number = find (λ m. m.number == number) messages

-- the bytes that the copies of a name's endpoint use, where it is there
abbrev pub used_of : Ledger → List ℕ → Option ℕ
used_of L name = option_map (λ e. used_bytes L.copies e.number) (named name L.endpoints)
