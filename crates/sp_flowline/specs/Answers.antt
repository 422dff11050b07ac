-- The line of an answer.
use Rattle.std.specs.Prelude.{ℕ, List, [], ◌∷◌, ◌++◌, true, codes}
use Rattle.serde_json.specs.Data.{Data, boolean, string, object, member, no_members, put}
use Rattle.serde_json.specs.Written.{compact_text}
use Rattle.sp_base.specs.declared.refusal.Refusal.{Refusal}
use Rattle.sp_base.specs.Refusal.{number_of, rule_name}
use Rattle.sp_event.specs.declared.answer.Answered.{Answered}
use Rattle.sp_event.specs.declared.answer.Answered.TheVariants.{Gave, Refused, Memory, Disk, Full}
use Rattle.sp_json.specs.Members.{whole}
use Rattle.sp_json.specs.Refusals.{shown_members}
use Rattle.sp_flowline.specs.Replies.{reply_data}

-- a refusal: the number and the name of its rule, and the values that it shows
abbrev pub refusal_data : Refusal → Data
refusal_data refusal =
    object (put (codes "no") (whole (number_of refusal))
    (put (codes "rule") (string (rule_name refusal)) (shown_members refusal)))

abbrev pub refused_data : Refusal → ℕ → Data
refused_data refusal unit =
    object (member (codes "refused") (refusal_data refusal) (member (codes "unit") (whole unit) no_members))

abbrev pub full_data : ℕ → ℕ → ℕ → Data
full_data len need most = object (member (codes "full") (object
    (member (codes "len") (whole len)
    (member (codes "max") (whole most)
    (member (codes "need") (whole need) no_members)))) no_members)

-- an answer at a number of units, as a JSON value
abbrev pub answer_data : Answered → ℕ → Data
answer_data (Gave reply) unit = reply_data reply unit
answer_data (Refused refusal index) unit = refused_data refusal unit
answer_data Memory unit = object (member (codes "memory") (boolean true) no_members)
answer_data Disk unit = object (member (codes "fault") (string (codes "disk")) no_members)
answer_data (Full len need most) unit = full_data len need most

-- the answer's line: the compact text of its value, and a line feed
abbrev pub line_of : Answered → ℕ → List ℕ
line_of answered unit = compact_text (answer_data answered unit) ++ 10 ∷ []
