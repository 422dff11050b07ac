-- What a tree of subscriptions holds.
use Rattle.std.specs.Prelude.{◌≡◌, ◌==◌, ◌<◌, ℕ, Bool, true, false, ◌&&◌, ◌||◌, not, List, bytes_eq, nat_lt}
use Rattle.sp_base.specs.Rows.{Roomy}
use Rattle.sp_base.specs.Topic.{levels}
use Rattle.sp_topic.specs.Matching.{excepts, selects}
use Rattle.sp_topic.specs.Subscription.{is_exception, topic_of}
use Rattle.sp_topic.specs.Subscriptions.{has_text}
use Rattle.sp_tree.specs.Nodes.{has_number, held, root}
use Rattle.sp_tree.specs.Path.{ends_in_rest, steps}
use Rattle.sp_tree.specs.declared.node.Node.{Node}

-- the endpoints that stand where a subscription ends
abbrev pub holders : List Node → List ℕ → Roomy ℕ
holders tree text =
    held tree (root tree) (steps (levels (topic_of text))) (ends_in_rest (levels (topic_of text))) (is_exception text)

-- the tree holds the subscription for the endpoint
unfoldable pub has_pair : List Node → ℕ → List ℕ → Bool
has_pair tree endpoint text = has_number (holders tree text).items endpoint

-- the next insert of the subscription takes no memory
unfoldable pub has_room : List Node → List ℕ → Bool
has_room tree text = nat_lt 0 (holders tree text).room

-- both hold the same pairs
abbrev pub SamePairs : List Node → List Node → Type 0
SamePairs old new = (endpoint : ℕ) (text : List ℕ) → has_pair new endpoint text ≡ has_pair old endpoint text

-- the new one holds this pair too
abbrev pub AddsPair : List Node → List Node → ℕ → List ℕ → Type 0
AddsPair old new e t =
    (endpoint : ℕ) (text : List ℕ) → has_pair new endpoint text
    ≡ (has_pair old endpoint text || (e == endpoint && bytes_eq t text))

-- the new one holds all pairs but this one
abbrev pub TakesPairOut : List Node → List Node → ℕ → List ℕ → Type 0
TakesPairOut old new e t =
    (endpoint : ℕ) (text : List ℕ) → has_pair new endpoint text
    ≡ (has_pair old endpoint text && not (endpoint == e && bytes_eq text t))

-- what could be inserted without memory still can
abbrev pub KeepsRoom : List Node → List Node → Type 0
KeepsRoom old new = (text : List ℕ) → has_room old text ≡ true → has_room new text ≡ true

-- some plain subscription that the tree holds for the endpoint matches the topic, and no exception does
abbrev pub Takes : List Node → ℕ → List ℕ → Type 0
Takes tree endpoint topic =
    ((text : List ℕ) × (has_pair tree endpoint text ≡ true) × (selects text topic ≡ true))
    × ((text : List ℕ) → has_pair tree endpoint text ≡ true → excepts text topic ≡ false)

-- the texts are those that the tree holds for the endpoint
abbrev pub AreTextsOf : List Node → ℕ → List (List ℕ) → Type 0
AreTextsOf tree endpoint texts = (text : List ℕ) → has_text texts text ≡ has_pair tree endpoint text
