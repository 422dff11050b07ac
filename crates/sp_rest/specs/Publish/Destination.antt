-- Where a request publishes to, by its method and its target.
use Rattle.std.specs.Prelude.{ℕ, ◌==◌, Bool, not, List, drop, codes, bytes_eq, nat_eq, Option, Some, None, Result, Ok, if◌then◌else◌}
use Rattle.std.specs.List.{before_first, after_first, list_any, starts_with}
use Rattle.percent_encoding.specs.Percent.{percent_decode}
use Rattle.sp_base.specs.Name.{is_name}
use Rattle.sp_base.specs.declared.refusal.Refusal.{Refusal}
use Rattle.sp_message.specs.Destination.{topic_from}
use Rattle.sp_message.specs.declared.message.Dest.{Dest}
use Rattle.sp_message.specs.declared.message.Dest.TheVariants.{Queue}

abbrev pub is_question_mark : ℕ → Bool
is_question_mark b = b == 63

-- the path ends at the first question mark, and the query stands after it
abbrev pub path_of : List ℕ → List ℕ
path_of target = before_first is_question_mark target

abbrev pub query_of : List ℕ → List ℕ
query_of target = after_first is_question_mark target

-- the query has a word: a byte that isn't the `&` between words
abbrev pub has_words : List ℕ → Bool
has_words query = list_any (λ b. not (b == 38)) query

-- the queue of this name, if it is a name
abbrev pub queue_from : List ℕ → Option (Result Dest Refusal)
queue_from text = if is_name text then Some (Ok (Queue text)) else None

-- where a path leads: what follows /TOPIC/ or /QUEUE/ is the topic or the queue's name, percent-encoded
abbrev pub dest_at : List ℕ → Option (Result Dest Refusal)
dest_at path =
    if starts_with nat_eq path (codes "/TOPIC/") then Some (topic_from (percent_decode (drop 7 path)))
    else (if starts_with nat_eq path (codes "/QUEUE/") then queue_from (percent_decode (drop 7 path))
    else None)

-- where a request publishes to; none, if its method is another than POST or its path leads nowhere
abbrev pub dest_for : List ℕ → List ℕ → Option (Result Dest Refusal)
dest_for method target = if bytes_eq method (codes "POST") then dest_at (path_of target) else None
