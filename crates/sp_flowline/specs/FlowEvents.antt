-- What the fields of a request ask of flows. None where one has a value outside its form.
use Rattle.std.specs.Prelude.{ℕ, ◌^◌, List, [], ◌∷◌, Option, Some, None, Result, Ok, Err, option_map, option_and_then}
use Rattle.std.specs.Prelude.{codes, if◌then◌else◌}
use Rattle.serde_json.specs.Data.{Data}
use Rattle.sp_base.specs.Choice.{choice_named}
use Rattle.sp_base.specs.declared.refusal.Refusal.{Refusal}
use Rattle.sp_base.specs.declared.refusal.Refusal.TheVariants.{BadSubscription}
use Rattle.sp_event.specs.declared.request.Event.{Event}
use Rattle.sp_event.specs.declared.request.Event.TheVariants.{Bind, Unbind, Pull, Settle}
use Rattle.sp_topic.specs.Subscription.{is_exception}
use Rattle.sp_event.specs.declared.request.Outcome.{Outcome}
use Rattle.sp_event.specs.declared.request.Outcome.TheVariants.{Accepted, Failed, Rejected}
use Rattle.sp_json.specs.Fields.{has_key, text_at, optional_text_at, name_at, ranged_at, ranged_or}
use Rattle.sp_base.specs.Parts.{formed, and_then}
use Rattle.sp_json.specs.Selectors.{selector_from}
use Rattle.sp_json.specs.Subscriptions.{subscription_at}

-- a subscription, unless it is an exception
abbrev pub plain_of : List ℕ → Result (List ℕ) Refusal
plain_of subscription = if is_exception subscription then Err (BadSubscription 0) else Ok subscription

-- the subscription in a field that may be absent, which is no exception
abbrev pub optional_plain_at : List ℕ → Data → Result (Option (List ℕ)) Refusal
optional_plain_at key d =
    if has_key key d then and_then (and_then (subscription_at key d) plain_of) (λ topic. Ok (Some topic)) else Ok None

-- a new flow on the endpoint of a name, with a topic for a topic endpoint and a selector; a topic that is none is told
-- before a selector that is none
abbrev pub bind_in : Data → Result Event Refusal
bind_in d =
    and_then (formed (name_at (codes "endpoint") d)) (λ endpoint.
    and_then (formed (optional_text_at (codes "selector") d)) (λ text.
    and_then (optional_plain_at (codes "topic") d) (λ topic.
    and_then (selector_from text) (λ selector.
    Ok (Bind endpoint selector topic)))))

-- the end of a flow
abbrev pub unbind_in : Data → Option Event
unbind_in d = option_map Unbind (ranged_at 0 (2 ^ 62) (codes "flow") d)

-- copies for a flow, at most so many: one, where it isn't said
abbrev pub pull_in : Data → Option Event
pull_in d =
    option_and_then (λ flow. option_map (Pull flow) (ranged_or 1 64 1 (codes "count") d))
    (ranged_at 0 (2 ^ 62) (codes "flow") d)

-- all outcomes, and the word for each
abbrev pub all_outcomes : List Outcome
all_outcomes = Accepted ∷ Failed ∷ Rejected ∷ []

abbrev pub outcome_word : Outcome → List ℕ
outcome_word Accepted = codes "accepted"
outcome_word Failed = codes "failed"
outcome_word Rejected = codes "rejected"

abbrev pub outcome_named : List ℕ → Option Outcome
outcome_named word = choice_named outcome_word all_outcomes word

-- a copy that a flow settles, and what became of it
abbrev pub settle_in : Data → Option Event
settle_in d =
    option_and_then (λ flow.
    option_and_then (λ copy.
    option_map (Settle flow copy) (option_and_then outcome_named (text_at (codes "outcome") d)))
    (ranged_at 0 (2 ^ 62) (codes "copy") d))
    (ranged_at 0 (2 ^ 62) (codes "flow") d)
