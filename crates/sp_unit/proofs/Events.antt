-- An event that is read is the one that was written, and what was written is read again.
use Rattle.std.proofs.Common.{◌≡◌, ◌∙◌, ◌<◌, ◌≤◌, ◌^◌, ◌++◌, ℕ, zero, suc, true, List, [], ◌∷◌, length, Option, Some, None, refl, ap, subst, arith, append_assoc}
use Rattle.std.specs.Prelude.{IfSome}
use Rattle.std.specs.Option.{is_none}
use Rattle.sp_topic.specs.Subscription.{subscription_fault}
use Rattle.sp_topic.proofs.SubscriptionFaults.{subscription_bound}
use Rattle.sp_selector.specs.Takes.{selector_fault}
use Rattle.sp_selector.proofs.Answered.{no_fault}
use Rattle.sp_config.specs.declared.kind.EndpointKind.{EndpointKind}
use Rattle.sp_config.specs.declared.kind.EndpointKind.TheVariants as kind
use Rattle.sp_event.specs.declared.request.Event.{Event}
use Rattle.sp_event.specs.declared.request.Event.TheVariants as event
use Rattle.sp_event.specs.declared.request.Outcome.{Outcome}
use Rattle.sp_event.specs.declared.request.Outcome.TheVariants as outcome
use Rattle.sp_message.specs.Decoding.{◌>>=◌, number_within_at, option_at, text_that_at}
use Rattle.sp_message.specs.Encoding.{number_bytes, option_bytes, text_bytes}
use Rattle.sp_message.specs.MessageBytes.{message_bytes}
use Rattle.sp_message.specs.MessageReading.{message_at, name_at}
use Rattle.sp_message.proofs.Codecs.{IsBytes, IsCodec, Takes, Takes-byte, Takes-then, bind_some, number_within_codec, option_codec, refit, short_text_codec, some_is}
use Rattle.sp_message.proofs.Messages.{message_codec, name_codec}
use Rattle.sp_unit.specs.UnitBytes.{IsEvent, event_bytes, greatest_number, is_selector, is_subscription, kind_byte, outcome_byte, settings_bytes}
use Rattle.sp_unit.specs.UnitReading.{bind_at, change_at, counted_at, delete_copies_at, deprovision_at, event_at, fields_at, kind_at, outcome_at, provision_at, publish_at, pull_at, selector_at, settings_at, settle_at, subscribe_at, subscription_at, unbind_at, unsubscribe_at}
use Rattle.sp_unit.proofs.Attributes.{settings_codec}

-- ---- the parts

is_none_none : {A : Type 0} (o : Option A) → is_none o ≡ true → o ≡ None
is_none_none None e = refl
is_none_none (Some x) e = absurd cc

short_subscription : (text : List ℕ) → is_subscription text ≡ true → length text < 2 ^ 32
short_subscription text h = omega (arith, subscription_bound text (is_none_none (subscription_fault text) h))

short_selector : (text : List ℕ) → is_selector text ≡ true → length text < 2 ^ 32
short_selector text h = let whole = no_fault text (is_none_none (selector_fault text) h) in omega (arith, whole.1.short)

subscription_codec : IsCodec (λ text. is_subscription text ≡ true) text_bytes subscription_at
unfolding subscription_at text_that_at
subscription_codec = short_text_codec is_subscription short_subscription

selector_codec : IsCodec (λ text. is_selector text ≡ true) text_bytes selector_at
unfolding selector_at text_that_at
selector_codec = short_text_codec is_selector short_selector

topic_option : IsCodec (λ o. IfSome o (λ text. is_subscription text ≡ true)) (option_bytes text_bytes)
    (option_at subscription_at)
topic_option = option_codec (λ text. is_subscription text ≡ true) text_bytes subscription_at subscription_codec

selector_option : IsCodec (λ o. IfSome o (λ text. is_selector text ≡ true)) (option_bytes text_bytes)
    (option_at selector_at)
selector_option = option_codec (λ text. is_selector text ≡ true) text_bytes selector_at selector_codec

counted_codec : IsCodec (λ n. (0 ≤ n) × (n ≤ greatest_number)) number_bytes counted_at
unfolding counted_at
counted_codec = number_within_codec 0 greatest_number (omega arith)

copy_codec : IsCodec (λ n. n ≤ greatest_number) number_bytes counted_at
copy_codec =
    refit (λ n. (0 ≤ n) × (n ≤ greatest_number)) (λ n. n ≤ greatest_number) number_bytes counted_at counted_codec
    (λ n h. h.1) (λ n h. (omega arith, h))

copy_option : IsCodec (λ o. IfSome o (λ n. n ≤ greatest_number)) (option_bytes number_bytes) (option_at counted_at)
copy_option = option_codec (λ n. n ≤ greatest_number) number_bytes counted_at copy_codec

count_codec : IsCodec (λ n. (1 ≤ n) × (n ≤ 64)) number_bytes (number_within_at 1 64)
count_codec = number_within_codec 1 64 (omega arith)

kind_codec : IsCodec (λ (k : EndpointKind). Unit {0}) (λ k. kind_byte k ∷ []) kind_at
unfolding kind_at
kind_codec = record { takes = takes; again = again }
  where
    takes : (bytes : List ℕ) (k : EndpointKind) (rest : List ℕ) → IsBytes bytes → kind_at bytes ≡ Some (k, rest)
        → Takes bytes (kind_byte k ∷ []) rest × Unit {0}
    takes [] k rest is e = absurd cc
    takes (zero ∷ bytes) k rest is e =
        subst (λ (x : EndpointKind × List ℕ). Takes (0 ∷ bytes) (kind_byte x.0 ∷ []) x.1 × Unit {0})
        (some_is (kind.Queue, bytes) (k, rest) e) (record { parts = refl; rest_fits = λ i. is (suc i) }, tt)
    takes (suc zero ∷ bytes) k rest is e =
        subst (λ (x : EndpointKind × List ℕ). Takes (1 ∷ bytes) (kind_byte x.0 ∷ []) x.1 × Unit {0})
        (some_is (kind.TopicEndpoint, bytes) (k, rest) e) (record { parts = refl; rest_fits = λ i. is (suc i) }, tt)
    takes (suc (suc n) ∷ bytes) k rest is e = absurd cc

    again : (k : EndpointKind) (rest : List ℕ) → Unit {0} → kind_at ((kind_byte k ∷ []) ++ rest) ≡ Some (k, rest)
    again kind.Queue rest h = refl
    again kind.TopicEndpoint rest h = refl

outcome_codec : IsCodec (λ (o : Outcome). Unit {0}) (λ o. outcome_byte o ∷ []) outcome_at
unfolding outcome_at
outcome_codec = record { takes = takes; again = again }
  where
    takes : (bytes : List ℕ) (o : Outcome) (rest : List ℕ) → IsBytes bytes → outcome_at bytes ≡ Some (o, rest)
        → Takes bytes (outcome_byte o ∷ []) rest × Unit {0}
    takes [] o rest is e = absurd cc
    takes (zero ∷ bytes) o rest is e =
        subst (λ (x : Outcome × List ℕ). Takes (0 ∷ bytes) (outcome_byte x.0 ∷ []) x.1 × Unit {0})
        (some_is (outcome.Accepted, bytes) (o, rest) e) (record { parts = refl; rest_fits = λ i. is (suc i) }, tt)
    takes (suc zero ∷ bytes) o rest is e =
        subst (λ (x : Outcome × List ℕ). Takes (1 ∷ bytes) (outcome_byte x.0 ∷ []) x.1 × Unit {0})
        (some_is (outcome.Failed, bytes) (o, rest) e) (record { parts = refl; rest_fits = λ i. is (suc i) }, tt)
    takes (suc (suc zero) ∷ bytes) o rest is e =
        subst (λ (x : Outcome × List ℕ). Takes (2 ∷ bytes) (outcome_byte x.0 ∷ []) x.1 × Unit {0})
        (some_is (outcome.Rejected, bytes) (o, rest) e) (record { parts = refl; rest_fits = λ i. is (suc i) }, tt)
    takes (suc (suc (suc n)) ∷ bytes) o rest is e = absurd cc

    again : (o : Outcome) (rest : List ℕ) → Unit {0} → outcome_at ((outcome_byte o ∷ []) ++ rest) ≡ Some (o, rest)
    again outcome.Accepted rest h = refl
    again outcome.Failed rest h = refl
    again outcome.Rejected rest h = refl

-- ---- what is read of each event

-- the event at the front, behind its tag
abbrev Told : ℕ → List ℕ → Event × List ℕ → Type 0
Told tag bytes x = Takes (tag ∷ bytes) (event_bytes x.0) x.1 × IsEvent x.0

provision_told : (bytes : List ℕ) (x : Event × List ℕ) → IsBytes bytes → provision_at bytes ≡ Some x → Told 1 bytes x
unfolding provision_at
provision_told bytes x is e =
    let a = bind_some (name_at bytes)
    (λ endpoint. kind_at endpoint.1 >>= λ kind. settings_at kind.1 >>= λ attributes. Some
    (event.Provision endpoint.0 kind.0 attributes.0, attributes.1)) x e in
    let b = bind_some (kind_at a.0.1)
    (λ kind. settings_at kind.1 >>= λ attributes. Some (event.Provision a.0.0 kind.0 attributes.0, attributes.1)) x
    a.2 in
    let c = bind_some (settings_at b.0.1) (λ attributes. Some (event.Provision a.0.0 b.0.0 attributes.0, attributes.1))
    x b.2 in
    let ta = name_codec.takes bytes a.0.0 a.0.1 is a.1 in
    let tb = kind_codec.takes a.0.1 b.0.0 b.0.1 ta.0.rest_fits b.1 in
    let tc = settings_codec.takes b.0.1 c.0.0 c.0.1 tb.0.rest_fits c.1 in
    let last = Takes-then a.0.1 (kind_byte b.0.0 ∷ []) b.0.1 (settings_bytes c.0.0) c.0.1 tb.0 tc.0 in
    let whole = Takes-then bytes (text_bytes a.0.0) a.0.1 (kind_byte b.0.0 ∷ settings_bytes c.0.0) c.0.1 ta.0 last in
    subst (Told 1 bytes) (some_is (event.Provision a.0.0 b.0.0 c.0.0, c.0.1) x c.2)
    (Takes-byte 1 bytes _ c.0.1 whole, (ta.1, tc.1))

deprovision_told : (bytes : List ℕ) (x : Event × List ℕ) → IsBytes bytes → deprovision_at bytes ≡ Some x
    → Told 2 bytes x
unfolding deprovision_at
deprovision_told bytes x is e =
    let a = bind_some (name_at bytes) (λ endpoint. Some (event.Deprovision endpoint.0, endpoint.1)) x e in
    let ta = name_codec.takes bytes a.0.0 a.0.1 is a.1 in
    subst (Told 2 bytes) (some_is (event.Deprovision a.0.0, a.0.1) x a.2)
    (Takes-byte 2 bytes (text_bytes a.0.0) a.0.1 ta.0, ta.1)

change_told : (bytes : List ℕ) (x : Event × List ℕ) → IsBytes bytes → change_at bytes ≡ Some x → Told 3 bytes x
unfolding change_at
change_told bytes x is e =
    let a = bind_some (name_at bytes)
    (λ endpoint. settings_at endpoint.1 >>= λ attributes. Some (event.Change endpoint.0 attributes.0, attributes.1)) x
    e in
    let b = bind_some (settings_at a.0.1) (λ attributes. Some (event.Change a.0.0 attributes.0, attributes.1)) x a.2 in
    let ta = name_codec.takes bytes a.0.0 a.0.1 is a.1 in
    let tb = settings_codec.takes a.0.1 b.0.0 b.0.1 ta.0.rest_fits b.1 in
    let whole = Takes-then bytes (text_bytes a.0.0) a.0.1 (settings_bytes b.0.0) b.0.1 ta.0 tb.0 in
    subst (Told 3 bytes) (some_is (event.Change a.0.0 b.0.0, b.0.1) x b.2)
    (Takes-byte 3 bytes _ b.0.1 whole, (ta.1, tb.1))

subscribe_told : (bytes : List ℕ) (x : Event × List ℕ) → IsBytes bytes → subscribe_at bytes ≡ Some x → Told 4 bytes x
unfolding subscribe_at
subscribe_told bytes x is e =
    let a = bind_some (name_at bytes)
    (λ endpoint. subscription_at endpoint.1 >>= λ text. Some (event.Subscribe endpoint.0 text.0, text.1)) x e in
    let b = bind_some (subscription_at a.0.1) (λ text. Some (event.Subscribe a.0.0 text.0, text.1)) x a.2 in
    let ta = name_codec.takes bytes a.0.0 a.0.1 is a.1 in
    let tb = subscription_codec.takes a.0.1 b.0.0 b.0.1 ta.0.rest_fits b.1 in
    let whole = Takes-then bytes (text_bytes a.0.0) a.0.1 (text_bytes b.0.0) b.0.1 ta.0 tb.0 in
    subst (Told 4 bytes) (some_is (event.Subscribe a.0.0 b.0.0, b.0.1) x b.2)
    (Takes-byte 4 bytes _ b.0.1 whole, (ta.1, tb.1))

unsubscribe_told : (bytes : List ℕ) (x : Event × List ℕ) → IsBytes bytes → unsubscribe_at bytes ≡ Some x
    → Told 5 bytes x
unfolding unsubscribe_at
unsubscribe_told bytes x is e =
    let a = bind_some (name_at bytes)
    (λ endpoint. subscription_at endpoint.1 >>= λ text. Some (event.Unsubscribe endpoint.0 text.0, text.1)) x e in
    let b = bind_some (subscription_at a.0.1) (λ text. Some (event.Unsubscribe a.0.0 text.0, text.1)) x a.2 in
    let ta = name_codec.takes bytes a.0.0 a.0.1 is a.1 in
    let tb = subscription_codec.takes a.0.1 b.0.0 b.0.1 ta.0.rest_fits b.1 in
    let whole = Takes-then bytes (text_bytes a.0.0) a.0.1 (text_bytes b.0.0) b.0.1 ta.0 tb.0 in
    subst (Told 5 bytes) (some_is (event.Unsubscribe a.0.0 b.0.0, b.0.1) x b.2)
    (Takes-byte 5 bytes _ b.0.1 whole, (ta.1, tb.1))

publish_told : (bytes : List ℕ) (x : Event × List ℕ) → IsBytes bytes → publish_at bytes ≡ Some x → Told 6 bytes x
unfolding publish_at
publish_told bytes x is e =
    let a = bind_some (message_at bytes) (λ message. Some (event.Publish message.0, message.1)) x e in
    let ta = message_codec.takes bytes a.0.0 a.0.1 is a.1 in
    subst (Told 6 bytes) (some_is (event.Publish a.0.0, a.0.1) x a.2)
    (Takes-byte 6 bytes (message_bytes a.0.0) a.0.1 ta.0, ta.1)

bind_told : (bytes : List ℕ) (x : Event × List ℕ) → IsBytes bytes → bind_at bytes ≡ Some x → Told 7 bytes x
unfolding bind_at
bind_told bytes x is e =
    let a = bind_some (name_at bytes)
    (λ endpoint. option_at selector_at endpoint.1 >>= λ selector. option_at subscription_at
    selector.1 >>= λ topic. Some (event.Bind endpoint.0 selector.0 topic.0, topic.1)) x e in
    let b = bind_some (option_at selector_at a.0.1)
    (λ selector. option_at subscription_at selector.1 >>= λ topic. Some (event.Bind a.0.0 selector.0 topic.0, topic.1))
    x a.2 in
    let c = bind_some (option_at subscription_at b.0.1) (λ topic. Some (event.Bind a.0.0 b.0.0 topic.0, topic.1)) x
    b.2 in
    let ta = name_codec.takes bytes a.0.0 a.0.1 is a.1 in
    let tb = selector_option.takes a.0.1 b.0.0 b.0.1 ta.0.rest_fits b.1 in
    let tc = topic_option.takes b.0.1 c.0.0 c.0.1 tb.0.rest_fits c.1 in
    let last = Takes-then a.0.1 (option_bytes text_bytes b.0.0) b.0.1 (option_bytes text_bytes c.0.0) c.0.1 tb.0 tc.0 in
    let whole = Takes-then bytes (text_bytes a.0.0) a.0.1
    (option_bytes text_bytes b.0.0 ++ option_bytes text_bytes c.0.0) c.0.1 ta.0 last in
    subst (Told 7 bytes) (some_is (event.Bind a.0.0 b.0.0 c.0.0, c.0.1) x c.2)
    (Takes-byte 7 bytes _ c.0.1 whole, (ta.1, tb.1, tc.1))

unbind_told : (bytes : List ℕ) (x : Event × List ℕ) → IsBytes bytes → unbind_at bytes ≡ Some x → Told 8 bytes x
unfolding unbind_at
unbind_told bytes x is e =
    let a = bind_some (counted_at bytes) (λ flow. Some (event.Unbind flow.0, flow.1)) x e in
    let ta = counted_codec.takes bytes a.0.0 a.0.1 is a.1 in
    subst (Told 8 bytes) (some_is (event.Unbind a.0.0, a.0.1) x a.2)
    (Takes-byte 8 bytes (number_bytes a.0.0) a.0.1 ta.0, ta.1.1)

pull_told : (bytes : List ℕ) (x : Event × List ℕ) → IsBytes bytes → pull_at bytes ≡ Some x → Told 9 bytes x
unfolding pull_at
pull_told bytes x is e =
    let a = bind_some (counted_at bytes)
    (λ flow. number_within_at 1 64 flow.1 >>= λ count. Some (event.Pull flow.0 count.0, count.1)) x e in
    let b = bind_some (number_within_at 1 64 a.0.1) (λ count. Some (event.Pull a.0.0 count.0, count.1)) x a.2 in
    let ta = counted_codec.takes bytes a.0.0 a.0.1 is a.1 in
    let tb = count_codec.takes a.0.1 b.0.0 b.0.1 ta.0.rest_fits b.1 in
    let whole = Takes-then bytes (number_bytes a.0.0) a.0.1 (number_bytes b.0.0) b.0.1 ta.0 tb.0 in
    subst (Told 9 bytes) (some_is (event.Pull a.0.0 b.0.0, b.0.1) x b.2)
    (Takes-byte 9 bytes _ b.0.1 whole, (ta.1.1, tb.1.0, tb.1.1))

settle_told : (bytes : List ℕ) (x : Event × List ℕ) → IsBytes bytes → settle_at bytes ≡ Some x → Told 10 bytes x
unfolding settle_at
settle_told bytes x is e =
    let a = bind_some (counted_at bytes)
    (λ flow. counted_at flow.1 >>= λ copy. outcome_at copy.1 >>= λ outcome. Some
    (event.Settle flow.0 copy.0 outcome.0, outcome.1)) x e in
    let b = bind_some (counted_at a.0.1)
    (λ copy. outcome_at copy.1 >>= λ outcome. Some (event.Settle a.0.0 copy.0 outcome.0, outcome.1)) x a.2 in
    let c = bind_some (outcome_at b.0.1) (λ outcome. Some (event.Settle a.0.0 b.0.0 outcome.0, outcome.1)) x b.2 in
    let ta = counted_codec.takes bytes a.0.0 a.0.1 is a.1 in
    let tb = counted_codec.takes a.0.1 b.0.0 b.0.1 ta.0.rest_fits b.1 in
    let tc = outcome_codec.takes b.0.1 c.0.0 c.0.1 tb.0.rest_fits c.1 in
    let last = Takes-then a.0.1 (number_bytes b.0.0) b.0.1 (outcome_byte c.0.0 ∷ []) c.0.1 tb.0 tc.0 in
    let whole = Takes-then bytes (number_bytes a.0.0) a.0.1 (number_bytes b.0.0 ++ (outcome_byte c.0.0 ∷ [])) c.0.1
    ta.0 last in
    subst (Told 10 bytes) (some_is (event.Settle a.0.0 b.0.0 c.0.0, c.0.1) x c.2)
    (Takes-byte 10 bytes _ c.0.1 whole, (ta.1.1, tb.1.1))

tick_told : (bytes : List ℕ) (x : Event × List ℕ) → IsBytes bytes → Some (event.Tick, bytes) ≡ Some x → Told 11 bytes x
tick_told bytes x is e =
    subst (Told 11 bytes) (some_is (event.Tick, bytes) x e) (record { parts = refl; rest_fits = is }, tt)

delete_copies_told : (bytes : List ℕ) (x : Event × List ℕ) → IsBytes bytes → delete_copies_at bytes ≡ Some x
    → Told 12 bytes x
unfolding delete_copies_at
delete_copies_told bytes x is e =
    let a = bind_some (name_at bytes)
    (λ endpoint. option_at counted_at endpoint.1 >>= λ copy. Some (event.DeleteCopies endpoint.0 copy.0, copy.1)) x e in
    let b = bind_some (option_at counted_at a.0.1) (λ copy. Some (event.DeleteCopies a.0.0 copy.0, copy.1)) x a.2 in
    let ta = name_codec.takes bytes a.0.0 a.0.1 is a.1 in
    let tb = copy_option.takes a.0.1 b.0.0 b.0.1 ta.0.rest_fits b.1 in
    let whole = Takes-then bytes (text_bytes a.0.0) a.0.1 (option_bytes number_bytes b.0.0) b.0.1 ta.0 tb.0 in
    subst (Told 12 bytes) (some_is (event.DeleteCopies a.0.0 b.0.0, b.0.1) x b.2)
    (Takes-byte 12 bytes _ b.0.1 whole, (ta.1, tb.1))

restart_told : (bytes : List ℕ) (x : Event × List ℕ) → IsBytes bytes → Some (event.Restart, bytes) ≡ Some x
    → Told 17 bytes x
restart_told bytes x is e =
    subst (Told 17 bytes) (some_is (event.Restart, bytes) x e) (record { parts = refl; rest_fits = is }, tt)

fields_told : (tag : ℕ) (bytes : List ℕ) (x : Event × List ℕ) → IsBytes bytes → fields_at tag bytes ≡ Some x
    → Told tag bytes x
unfolding fields_at
fields_told zero bytes x is e = absurd cc
fields_told (suc zero) bytes x is e = provision_told bytes x is e
fields_told (suc (suc zero)) bytes x is e = deprovision_told bytes x is e
fields_told (suc (suc (suc zero))) bytes x is e = change_told bytes x is e
fields_told (suc (suc (suc (suc zero)))) bytes x is e = subscribe_told bytes x is e
fields_told (suc (suc (suc (suc (suc zero))))) bytes x is e = unsubscribe_told bytes x is e
fields_told (suc (suc (suc (suc (suc (suc zero)))))) bytes x is e = publish_told bytes x is e
fields_told (suc (suc (suc (suc (suc (suc (suc zero))))))) bytes x is e = bind_told bytes x is e
fields_told (suc (suc (suc (suc (suc (suc (suc (suc zero)))))))) bytes x is e = unbind_told bytes x is e
fields_told (suc (suc (suc (suc (suc (suc (suc (suc (suc zero))))))))) bytes x is e = pull_told bytes x is e
fields_told (suc (suc (suc (suc (suc (suc (suc (suc (suc (suc zero)))))))))) bytes x is e = settle_told bytes x is e
fields_told (suc (suc (suc (suc (suc (suc (suc (suc (suc (suc (suc zero))))))))))) bytes x is e = tick_told bytes x is e
fields_told (suc (suc (suc (suc (suc (suc (suc (suc (suc (suc (suc (suc zero)))))))))))) bytes x is e =
    delete_copies_told bytes x is e
fields_told (suc (suc (suc (suc (suc (suc (suc (suc (suc (suc (suc (suc (suc zero))))))))))))) bytes x is e = absurd cc
fields_told (suc (suc (suc (suc (suc (suc (suc (suc (suc (suc (suc (suc (suc (suc zero)))))))))))))) bytes x is e = absurd cc
fields_told (suc (suc (suc (suc (suc (suc (suc (suc (suc (suc (suc (suc (suc (suc (suc zero))))))))))))))) bytes x is e = absurd cc
fields_told (suc (suc (suc (suc (suc (suc (suc (suc (suc (suc (suc (suc (suc (suc (suc (suc zero)))))))))))))))) bytes x is e = absurd cc
fields_told (suc (suc (suc (suc (suc (suc (suc (suc (suc (suc (suc (suc (suc (suc (suc (suc (suc zero))))))))))))))))) bytes x is e =
    restart_told bytes x is e
fields_told (suc (suc (suc (suc (suc (suc (suc (suc (suc (suc (suc (suc (suc (suc (suc (suc (suc (suc n)))))))))))))))))) bytes x is e =
    absurd cc

-- ---- what is written is read again

-- three parts before the rest
three : (a b c rest : List ℕ) → (a ++ (b ++ c)) ++ rest ≡ a ++ (b ++ (c ++ rest))
three a b c rest = simp append_assoc

event_again : (e : Event) (rest : List ℕ) → IsEvent e → event_at (event_bytes e ++ rest) ≡ Some (e, rest)
unfolding event_at fields_at provision_at deprovision_at change_at subscribe_at unsubscribe_at publish_at bind_at
    unbind_at pull_at settle_at delete_copies_at
event_again (event.Provision endpoint kind attributes) rest h =
    ap provision_at (three (text_bytes endpoint) (kind_byte kind ∷ []) (settings_bytes attributes) rest)
    ∙ rw (
      name_codec.again endpoint ((kind_byte kind ∷ []) ++ (settings_bytes attributes ++ rest)) h.0,
      kind_codec.again kind (settings_bytes attributes ++ rest) tt,
      settings_codec.again attributes rest h.1,
    ) refl
event_again (event.Deprovision endpoint) rest h = rw (name_codec.again endpoint rest h) refl
event_again (event.Change endpoint attributes) rest h =
    ap change_at (append_assoc (text_bytes endpoint) (settings_bytes attributes) rest)
    ∙ rw (name_codec.again endpoint (settings_bytes attributes ++ rest) h.0, settings_codec.again attributes rest h.1)
    refl
event_again (event.Subscribe endpoint text) rest h =
    ap subscribe_at (append_assoc (text_bytes endpoint) (text_bytes text) rest)
    ∙ rw (name_codec.again endpoint (text_bytes text ++ rest) h.0, subscription_codec.again text rest h.1) refl
event_again (event.Unsubscribe endpoint text) rest h =
    ap unsubscribe_at (append_assoc (text_bytes endpoint) (text_bytes text) rest)
    ∙ rw (name_codec.again endpoint (text_bytes text ++ rest) h.0, subscription_codec.again text rest h.1) refl
event_again (event.Publish message) rest h = rw (message_codec.again message rest h) refl
event_again (event.Bind endpoint selector topic) rest h =
    ap bind_at (three (text_bytes endpoint) (option_bytes text_bytes selector) (option_bytes text_bytes topic) rest)
    ∙ rw (
      name_codec.again endpoint (option_bytes text_bytes selector ++ (option_bytes text_bytes topic ++ rest)) h.0,
      selector_option.again selector (option_bytes text_bytes topic ++ rest) h.1,
      topic_option.again topic rest h.2,
    ) refl
event_again (event.Unbind flow) rest h = rw (counted_codec.again flow rest (omega arith, h)) refl
event_again (event.Pull flow count) rest h =
    ap pull_at (append_assoc (number_bytes flow) (number_bytes count) rest)
    ∙ rw (
      counted_codec.again flow (number_bytes count ++ rest) (omega arith, h.0),
      count_codec.again count rest (h.1, h.2),
    ) refl
event_again (event.Settle flow copy outcome) rest h =
    ap settle_at (three (number_bytes flow) (number_bytes copy) (outcome_byte outcome ∷ []) rest)
    ∙ rw (
      counted_codec.again flow (number_bytes copy ++ ((outcome_byte outcome ∷ []) ++ rest)) (omega arith, h.0),
      counted_codec.again copy ((outcome_byte outcome ∷ []) ++ rest) (omega arith, h.1),
      outcome_codec.again outcome rest tt,
    ) refl
event_again event.Tick rest h = refl
event_again (event.DeleteCopies endpoint copy) rest h =
    ap delete_copies_at (append_assoc (text_bytes endpoint) (option_bytes number_bytes copy) rest)
    ∙ rw (name_codec.again endpoint (option_bytes number_bytes copy ++ rest) h.0, copy_option.again copy rest h.1) refl
event_again event.Restart rest h = refl

pub event_codec : IsCodec IsEvent event_bytes event_at
unfolding event_at
event_codec = record { takes = takes; again = event_again }
  where
    takes : (bytes : List ℕ) (x : Event) (rest : List ℕ) → IsBytes bytes → event_at bytes ≡ Some (x, rest)
        → Takes bytes (event_bytes x) rest × IsEvent x
    takes [] x rest is e = absurd cc
    takes (tag ∷ bytes) x rest is e = fields_told tag bytes (x, rest) (λ i. is (suc i)) e
