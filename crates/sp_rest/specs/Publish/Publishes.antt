-- The publish that a request is, or why it is refused.
use Rattle.std.specs.Prelude.{ℕ, List, Result, Ok, Err, if◌then◌else◌}
use Rattle.std.specs.Option.{ok_or}
use Rattle.sp_base.specs.Parts.{and_then}
use Rattle.sp_base.specs.declared.refusal.Refusal.{Refusal}
use Rattle.sp_base.specs.declared.refusal.Refusal.TheVariants.{BadRequest, DirectMode}
use Rattle.sp_message.specs.declared.message.Dest.{Dest}
use Rattle.sp_message.specs.declared.message.Message.{Message}
use Rattle.sp_event.specs.declared.request.Event.{Event}
use Rattle.sp_event.specs.declared.request.Event.TheVariants.{Publish}
use Rattle.sp_rest.specs.declared.publish.headers.Headers.{Headers}
use Rattle.sp_rest.specs.Publish.Destination.{dest_for, query_of, has_words}
use Rattle.sp_rest.specs.Publish.Headers.{headers_in}
use Rattle.sp_rest.specs.Wire.Parts.{Request}

-- the message to a destination
abbrev pub message_to : Dest → Headers → List ℕ → Message
message_to dest headers payload = record {
  dest = dest;
  payload = payload;
  ttl = headers.ttl;
  eligible = headers.eligible;
  properties = headers.properties;
}

-- a message that is sent: a direct one is refused, and then one to no topic
abbrev pub sent : Headers → Result Dest Refusal → List ℕ → Result Event Refusal
sent headers dest payload =
    if headers.direct then Err DirectMode else and_then dest (λ dest. Ok (Publish (message_to dest headers payload)))

-- the publish; a request is bad at 5 by its method and path, at 6 by its query, at 7 by its fields
abbrev pub publish_of : Request → Result Event Refusal
publish_of request =
    and_then (ok_or (dest_for request.method request.target) (BadRequest 5)) (λ dest.
    if has_words (query_of request.target) then Err (BadRequest 6)
    else and_then (ok_or (headers_in request.fields) (BadRequest 7)) (λ headers.
    sent headers dest request.body))
