-- Where each kind of change may be made: there it keeps a ledger sound.
use Rattle.sp_access.specs.Activity.{flows_of, is_first}
use Rattle.sp_access.specs.Flows.{flow_count, is_bound}
use Rattle.sp_access.specs.Flow.{FlowView}
use Rattle.sp_base.specs.Name.{is_caller}
use Rattle.sp_config.specs.Attributes.{is_exclusive, is_partitioned}
use Rattle.sp_copies.specs.Counts.{is_moved, spooled_count}
use Rattle.sp_copies.specs.History.{is_free, is_held, is_spooled, numbered, used_bytes}
use Rattle.sp_copies.specs.declared.held.HeldCopy.{HeldCopy}
use Rattle.sp_copies.specs.declared.made.NewCopy.{NewCopy}
use Rattle.sp_copies.specs.declared.made.Origin.TheVariants.{Published, Moved}
use Rattle.sp_endpoint.specs.Endpoint.{EndpointView}
use Rattle.sp_endpoint.specs.Endpoints.{is_there}
use Rattle.sp_ledger.specs.Changes.{Change, Share, becomes, binds, changed, closes, comes, ends, frees, goes, goes_on}
use Rattle.sp_ledger.specs.Changes.{holds, logs, moves, publishes, repeats, starts, unbinds, unbinds_all}
use Rattle.sp_ledger.specs.Ledger.{Ledger, Replay}
use Rattle.sp_ledger.specs.Limits.{greatest_quota, last_copy, most_endpoints, spent}
use Rattle.sp_ledger.specs.OnEndpoints.{shares_otherwise}
use Rattle.sp_ledger.specs.One.{is_bound_for, is_by_move, is_of_message}
use Rattle.sp_ledger.specs.Sound.{AreLogged, IsEndpoint, has_endpoint, has_message}
use Rattle.sp_ledger.specs.Step.{Step, always, does, lacks}
use Rattle.sp_ledger.specs.Turns.{is_in, is_in_partition}
use Rattle.sp_message.specs.Size.{size_of}
use Rattle.sp_message.specs.declared.message.Message.{Message}
use Rattle.std.specs.Prelude.{All, AllPairs, IsTrue, List, None, Some, [], bytes_eq, false, length, true, ℕ, ⊤, ◌+◌}
use Rattle.std.specs.Prelude.{◌<◌, ◌==◌, ◌^◌, ◌∷◌, ◌≡◌, ◌≤◌}

-- an endpoint of another name, under the next number, where a place is left
pub record MayCome (L : Ledger) (e : EndpointView) : Type 0 where
  pub number : e.number ≡ L.next.endpoint
  pub unspent : e.number < spent
  pub named : All (λ d. bytes_eq d.name e.name ≡ false) L.endpoints
  pub place : length L.endpoints < most_endpoints
  pub fits : IsEndpoint e

-- an endpoint of the same name and kind as the one in whose place it stands; where it shares its copies otherwise, none is
-- spooled there
pub record MayBecome (L : Ledger) (e : EndpointView) : Type 0 where
  pub named : All (λ d. (d.number == e.number) ≡ true → d.name ≡ e.name) L.endpoints
  pub kind : All (λ d. (d.number == e.number) ≡ true → d.kind ≡ e.kind) L.endpoints
  pub sharing :
      All (λ d. (d.number == e.number) ≡ true → shares_otherwise d.attributes e.attributes ≡ true →
      spooled_count L.copies (Some e.number) ≡ 0) L.endpoints
  pub fits : IsEndpoint e

-- more bytes than any message has
abbrev pub largest_size : ℕ
largest_size = 2 ^ 37

-- a copy of the next message, which fits where it is spooled
pub record IsShare (L : Ledger) (m : Message) (s : Share) : Type 0 where
  pub there : IsTrue (is_there L.endpoints s.copy.endpoint)
  pub message : s.copy.message ≡ L.next.message
  pub size : s.copy.size ≡ size_of m
  pub origin : s.copy.origin ≡ Published
  pub fits : s.is_spooled ≡ true → used_bytes L.copies s.copy.endpoint + s.copy.size ≤ greatest_quota
  pub small : s.is_spooled ≡ false → s.copy.size ≤ largest_size

-- each copy in an endpoint of its own, under numbers that aren't spent
pub record MayPublish (L : Ledger) (m : Message) (shares : List Share) : Type 0 where
  pub unspent : L.next.message < spent
  pub copies : L.copies.next + length shares ≤ last_copy + 1
  pub each : All (IsShare L m) shares
  pub apart : AllPairs (λ s t. (s.copy.endpoint == t.copy.endpoint) ≡ false) shares

-- where the held copy is one of the endpoint's: its flow is the first there, if that is exclusive; and if that is
-- partitioned, no other flow holds a copy of its partition
pub record HasTurn (L : Ledger) (h : HeldCopy) (e : EndpointView) : Type 0 where
  pub first :
      is_exclusive e.attributes.access_type ≡ true → is_in L.copies.made e.number h ≡ true →
      is_first (flows_of L.flows e.number) h.flow ≡ true
  pub alone :
      is_partitioned e.attributes ≡ true → (partition : ℕ) →
      is_in_partition L.copies.made e.number partition h ≡ true →
      All (λ g. is_in_partition L.copies.made e.number partition g ≡ true → g.flow ≡ h.flow) L.copies.held

-- a free copy of the flow's endpoint, which was handed out fewer times than there are units, where it is the flow's turn
pub record MayHold (L : Ledger) (copy flow : ℕ) : Type 0 where
  pub free : is_free L.copies copy ≡ true
  pub bound : IsTrue (is_bound_for L.flows L.copies.made (record { copy = copy; flow = flow }))
  pub attempts : All (λ a. (a.copy == copy) ≡ true → a.count + 1 < L.next.unit) L.copies.attempts
  pub turn : All (HasTurn L (record { copy = copy; flow = flow })) L.endpoints

-- a flow of an endpoint that is there, under the next number
pub record MayBind (L : Ledger) (f : FlowView) : Type 0 where
  pub number : f.number ≡ L.next.flow
  pub unspent : f.number < spent
  pub there : IsTrue (has_endpoint L.endpoints f)
  pub caller : IsTrue (is_caller f.caller)

-- a copy of a logged message, which fits
pub record MayRepeat (L : Ledger) (c : NewCopy) : Type 0 where
  pub there : IsTrue (is_there L.endpoints c.endpoint)
  pub message : has_message L.messages (numbered L.copies.next c) ≡ true
  pub origin : is_by_move c.origin ≡ false
  pub fits : used_bytes L.copies c.endpoint + c.size ≤ greatest_quota
  pub unspent : L.copies.next ≤ last_copy

-- a copy of the same message without a deadline, which fits, for a spooled one that wasn't moved before
pub record MayMove (L : Ledger) (copy : ℕ) (new : NewCopy) : Type 0 where
  pub spooled : is_spooled L.copies copy ≡ true
  pub first : All (λ c. (c.number == copy) ≡ true → is_by_move c.origin ≡ false) L.copies.made
  pub there : IsTrue (is_there L.endpoints new.endpoint)
  pub origin : new.origin ≡ Moved copy
  pub deadline : new.deadline ≡ None
  pub same : is_of_message L.copies.made copy new.message ≡ true
  pub message : has_message L.messages (numbered L.copies.next new) ≡ true
  pub fits : used_bytes L.copies new.endpoint + new.size ≤ greatest_quota

-- a replay under the next number
pub record MayStart (L : Ledger) (r : Replay) : Type 0 where
  pub number : r.number ≡ L.next.replay
  pub unspent : r.number < spent

-- no copy is spooled in an endpoint that goes, and no flow is bound to it; no copy is held by a flow that goes; what
-- closes for good was spooled
abbrev pub IsAllowed : Change → Ledger → Type 0
IsAllowed (comes e) L = MayCome L e
IsAllowed (goes endpoint) L = (spooled_count L.copies (Some endpoint) ≡ 0) × (flow_count L.flows endpoint ≡ 0)
IsAllowed (becomes e) L = MayBecome L e
IsAllowed (publishes m shares) L = MayPublish L m shares
IsAllowed (logs log) L = AreLogged L.messages log
IsAllowed (repeats c) L = MayRepeat L c
IsAllowed (closes copy how) L = (is_spooled L.copies copy ≡ true) × (is_moved (Some how) ≡ false)
IsAllowed (moves copy new) L = MayMove L copy new
IsAllowed (holds copy flow) L = MayHold L copy flow
IsAllowed (frees copy) L = is_held L.copies.held copy ≡ true
IsAllowed (binds f) L = MayBind L f
IsAllowed (unbinds flow) L = (is_bound L.flows flow ≡ true) × All (λ h. (h.flow == flow) ≡ false) L.copies.held
IsAllowed unbinds_all L = L.copies.held ≡ []
IsAllowed (starts r) L = MayStart L r
IsAllowed (goes_on r) L = ⊤
IsAllowed (ends replay) L = ⊤

-- each change is allowed where the ones before it led
abbrev pub AreAllowed : List Change → Ledger → Type 0
AreAllowed [] L = ⊤
AreAllowed (c ∷ cs) L = IsAllowed c L × AreAllowed cs (changed c L)

-- the changes of a step
abbrev pub changes_of : Step → List Change
changes_of (lacks refusal) = []
changes_of (does checks changes reply) = changes
changes_of (always changes reply) = changes

-- the unit that leads from one ledger to the other has its number, at most 2^62; no flow is bound after the last
pub record HasNumber (L M : Ledger) : Type 0 where
  pub number : L.next.unit ≤ spent
  pub last : spent ≤ L.next.unit → M.flows ≡ []
