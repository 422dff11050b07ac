-- Subscriptions in the fields of an object.
use Rattle.std.specs.Prelude.{ℕ, List, Result, option_map}
use Rattle.serde_json.specs.Data.{Data}
use Rattle.sp_base.specs.declared.refusal.Refusal.{Refusal}
use Rattle.sp_base.specs.declared.refusal.Refusal.TheVariants.{BadSubscription}
use Rattle.sp_topic.specs.Subscription.{subscription_fault}
use Rattle.sp_json.specs.Fields.{text_at}
use Rattle.sp_base.specs.Parts.{formed, unless, and_then}

abbrev pub subscription_from : List ℕ → Result (List ℕ) Refusal
subscription_from text = unless (option_map BadSubscription (subscription_fault text)) text

-- the subscription in a field
abbrev pub subscription_at : List ℕ → Data → Result (List ℕ) Refusal
subscription_at key d = and_then (formed (text_at key d)) subscription_from
