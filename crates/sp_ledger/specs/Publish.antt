-- The step of a publish.
use Rattle.sp_base.specs.declared.refusal.Kind.TheVariants as kinds
use Rattle.sp_base.specs.declared.refusal.Refusal.TheVariants.{QuotaExceeded, UnknownEndpoint}
use Rattle.sp_config.specs.Attributes.{AttributesView, is_partitioned, quota_of}
use Rattle.sp_config.specs.Deadline.{deadline_of}
use Rattle.sp_copies.specs.History.{used_bytes}
use Rattle.sp_copies.specs.declared.closed.Fate.TheVariants as fates
use Rattle.sp_copies.specs.declared.made.Origin.TheVariants.{Published}
use Rattle.sp_endpoint.specs.Endpoint.{EndpointView}
use Rattle.sp_endpoint.specs.Endpoints.{queue_named}
use Rattle.sp_endpoint.specs.Takers.{takers}
use Rattle.sp_event.specs.declared.answer.PublishedCopy.{PublishedCopy}
use Rattle.sp_event.specs.declared.answer.Reply.TheVariants as replies
use Rattle.sp_ledger.specs.Changes.{Share, publishes}
use Rattle.sp_ledger.specs.Ledger.{Ledger}
use Rattle.sp_ledger.specs.Step.{Check, Step, does, is_copy_spent, is_spent, rule}
use Rattle.sp_message.specs.Partition.{partition_of}
use Rattle.sp_message.specs.Size.{dest_bytes, size_of}
use Rattle.sp_message.specs.declared.message.Dest.{Dest}
use Rattle.sp_message.specs.declared.message.Dest.TheVariants.{Topic, Queue}
use Rattle.sp_message.specs.declared.message.Message.{Message}
use Rattle.std.specs.Prelude.{Bool, List, [], false, if◌then◌else◌, is_none, length, map, nat_lt, true, ℕ, ◌++◌, ◌+◌, ◌∷◌}

-- a message is sent to a queue that isn't there; a topic that no endpoint takes is no fault
abbrev pub lacks_queue : Dest → List EndpointView → Bool
lacks_queue (Topic topic) endpoints = false
lacks_queue (Queue name) endpoints = is_none (queue_named name endpoints)

-- a copy of that size fits the endpoint's quota
abbrev pub quota_check : Ledger → ℕ → EndpointView → Check
quota_check L size e =
    let used = used_bytes L.copies e.number in
    rule (nat_lt (quota_of e.attributes) (used + size)) (QuotaExceeded e.name used size (quota_of e.attributes))

-- the partition that a message of this number belongs to: only a partitioned queue has several
abbrev pub partition_for : Message → ℕ → AttributesView → ℕ
partition_for m number a = if is_partitioned a then partition_of m number a.partition_count else 0

-- the copy of a message of this number for an endpoint, which is spooled at this moment
abbrev pub share_for : Message → ℕ → ℕ → EndpointView → Share
share_for m number moment e = record {
  copy = record {
    endpoint = e.number;
    message = number;
    size = size_of m;
    origin = Published;
    deadline = deadline_of e.attributes m.ttl moment;
    partition = partition_for m number e.attributes;
  };
  is_spooled = true;
}

-- what is told of the copies, which are numbered from here on
abbrev pub told_copies : ℕ → List EndpointView → List PublishedCopy
told_copies number [] = []
told_copies number (e ∷ es) =
    record { copy = number; endpoint = e.name; fate = fates.Spooled }
    ∷ told_copies (number + 1) es

-- a message is published, with a copy for each endpoint that takes it
abbrev pub publish : Message → Ledger → Step
publish m L =
    let into = takers L.endpoints m in
    does (rule (lacks_queue m.dest L.endpoints) (UnknownEndpoint (dest_bytes m.dest))
    ∷ map (quota_check L (size_of m)) into
    ++ is_spent L.next.message kinds.Message
    ∷ is_copy_spent (L.copies.next + length into)
    ∷ [])
    (publishes m (map (share_for m L.next.message L.now) into) ∷ [])
    (replies.Publish L.next.message (told_copies L.copies.next into))
