-- Copies that are handed out, as JSON.
use Rattle.std.specs.Prelude.{List, map, codes}
use Rattle.serde_json.specs.View.{items_of}
use Rattle.serde_json.specs.Data.{Data, string, object, array, Members, member, no_members, put}
use Rattle.sp_message.specs.declared.message.Dest.{Dest}
use Rattle.sp_message.specs.declared.message.Dest.TheVariants.{Topic, Queue}
use Rattle.sp_event.specs.declared.answer.Delivery.{Delivery}
use Rattle.sp_json.specs.Members.{whole}
use Rattle.sp_json.specs.Payloads.{with_payload}
use Rattle.sp_json.specs.Properties.{properties_members}

-- fields with where a message was sent to
abbrev pub with_destination : Dest → Members → Members
with_destination (Topic topic) ms = put (codes "topic") (string topic) ms
with_destination (Queue name) ms = put (codes "queue") (string name) ms

-- a copy as it is handed out
abbrev pub delivery_data : Delivery → Data
delivery_data d = object (with_payload d.payload (with_destination d.dest
    (member (codes "attempt") (whole d.attempt)
    (member (codes "copy") (whole d.copy)
    (member (codes "message") (whole d.message)
    (member (codes "properties") (object (properties_members d.properties)) no_members))))))

abbrev pub deliveries_data : List Delivery → Data
deliveries_data deliveries = array (items_of (map delivery_data deliveries))
