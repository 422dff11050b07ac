-- Which ledgers a core stands for.
use Rattle.std.specs.Prelude.{◌≡◌, ◌≤◌, [], false}
use Rattle.sp_copies.specs.Kept.{Records}
use Rattle.sp_core.specs.State.{CoreState}
use Rattle.sp_core.specs.declared.numbers.Numbers.{Numbers}
use Rattle.sp_ledger.specs.Ledger.{Ledger, Log, empty_ledger}
use Rattle.sp_ledger.specs.Sound.{IsCounted}

-- the replay log while it is off
abbrev pub log_off : Log
log_off = record { enabled = false; size = 0; quota = 2000; messages = [] }

-- part by part, between two units and within one
pub record Stands (core : CoreState) (L : Ledger) : Type 0 where
  pub endpoints : core.endpoints.items ≡ L.endpoints
  pub messages : core.messages.items ≡ L.messages
  pub copies : Records core.copies L.copies
  pub flows : core.flows.flows ≡ L.flows
  pub log : log_off ≡ L.log
  pub replays : [] ≡ L.replays
  pub next_endpoint : core.next_endpoint ≡ L.next.endpoint
  pub next_message : core.next_message ≡ L.next.message
  pub next_flow : core.flows.next ≡ L.next.flow
  pub next_replay : core.next_replay ≡ L.next.replay
  pub next_unit : core.next_unit ≡ L.next.unit
  pub clock : core.clock ≡ L.now
  pub ledger : IsCounted L

-- there is a ledger for which it stands
pub record IsCore (core : CoreState) : Type 0 where
  pub ledger : Ledger
  pub stands : Stands core ledger

-- the same ledgers, and no less room
pub record IsRoomier (old new : CoreState) : Type 0 where
  pub forth : (L : Ledger) → Stands old L → Stands new L
  pub back : (L : Ledger) → Stands new L → Stands old L
  pub endpoints : old.endpoints.room ≤ new.endpoints.room
  pub messages : old.messages.room ≤ new.messages.room
  pub copies : old.copies.spare ≤ new.copies.spare
  pub flows : old.flows.room ≤ new.flows.room

-- the ledger without entries whose next numbers are these
abbrev pub empty_at : Numbers → Ledger
empty_at n =
    empty_ledger
    (record { endpoint = n.endpoint; message = n.message; flow = n.flow; replay = n.replay; unit = n.unit })
    n.copy
