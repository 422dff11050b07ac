-- Subscriptions: a topic's text, which an exception has after a `!`.
use Rattle.std.specs.Prelude.{◌≡◌, ◌==◌, ◌+◌, ℕ, Bool, false, List, [], ◌∷◌, drop, if◌then◌else◌, Option, None}
use Rattle.std.specs.Option.{option_map}
use Rattle.sp_base.specs.Topic.{topic_fault}

-- an exception is a text that begins with `!`
abbrev pub is_exception : List ℕ → Bool
is_exception [] = false
is_exception (byte ∷ rest) = byte == 33

-- the topic that a subscription names: an exception is read without its `!`
abbrev pub topic_of : List ℕ → List ℕ
topic_of text = if is_exception text then drop 1 text else text

-- why bytes are no subscription: where their topic is none, by its offset in the whole text
unfoldable pub subscription_fault : List ℕ → Option ℕ
subscription_fault text =
    if is_exception text then option_map (λ at. at + 1) (topic_fault (drop 1 text)) else topic_fault text

-- the bytes are a subscription
abbrev pub IsSubscription : List ℕ → Type 0
IsSubscription text = subscription_fault text ≡ None
