-- What replies tell of copies, as JSON.
use Rattle.std.specs.Prelude.{List, Option, Some, None, map, fold, codes}
use Rattle.serde_json.specs.View.{items_of}
use Rattle.serde_json.specs.Data.{Data, string, object, array, Members, member, no_members, put}
use Rattle.sp_copies.specs.declared.closed.CauseCount.{CauseCount}
use Rattle.sp_event.specs.declared.answer.CopyDetails.{CopyDetails}
use Rattle.sp_event.specs.declared.answer.CopyFate.{CopyFate}
use Rattle.sp_event.specs.declared.answer.PublishedCopy.{PublishedCopy}
use Rattle.sp_json.specs.Fates.{cause_word, with_fate}
use Rattle.sp_json.specs.Members.{whole}

-- a copy that was made, its endpoint and its fate
abbrev pub told_data : PublishedCopy → Data
told_data c = object (with_fate c.fate
    (member (codes "copy") (whole c.copy)
    (member (codes "endpoint") (string c.endpoint) no_members)))

abbrev pub copies_data : List PublishedCopy → Data
copies_data copies = array (items_of (map told_data copies))

-- a copy and its fate
abbrev pub fate_data : CopyFate → Data
fate_data c = object (with_fate c.fate (member (codes "copy") (whole c.copy) no_members))

abbrev pub closed_data : List CopyFate → Data
closed_data closed = array (items_of (map fate_data closed))

-- the causes by name, each with its count
abbrev pub with_cause : Members → CauseCount → Members
with_cause ms k = put (cause_word k.cause) (whole k.count) ms

abbrev pub causes_data : List CauseCount → Data
causes_data counts = object (fold with_cause no_members counts)

-- fields with the details of a copy, where they are told
abbrev pub with_details : Option CopyDetails → Members → Members
with_details None ms = ms
with_details (Some details) ms =
    put (codes "attempts") (whole details.attempts)
    (put (codes "endpoint") (whole details.endpoint)
    (put (codes "message") (whole details.message) ms))
