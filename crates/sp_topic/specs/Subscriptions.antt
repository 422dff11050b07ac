-- What the subscriptions of one endpoint take together.
use Rattle.std.specs.Prelude.{ℕ, Bool, ◌&&◌, not, List, bytes_eq}
use Rattle.std.specs.List.{list_any}
use Rattle.sp_topic.specs.Matching.{selects, excepts}

-- the text is one of them
abbrev pub has_text : List (List ℕ) → List ℕ → Bool
has_text texts text = list_any (λ t. bytes_eq t text) texts

-- some plain subscription matches the topic, and no exception does
abbrev pub takes : List (List ℕ) → List ℕ → Bool
takes subscriptions topic =
    list_any (λ s. selects s topic) subscriptions && not (list_any (λ s. excepts s topic) subscriptions)
