-- The reasons for which bytes are no subscription.
use Rattle.std.proofs.Common.{◌≡◌, ◌∙◌, ◌+◌, ◌<◌, ◌≤◌, ℕ, inl, inr, true, false, List, [], ◌∷◌, length, drop, refl, sym, ap, arith, Some, None, Option}
use Rattle.std.specs.Option.{option_map}
use Rattle.std.proofs.lemmas.Bool.{cond-false, cases_Bool, eqb-true}
use Rattle.sp_base.specs.Topic.{topic_fault}
use Rattle.sp_base.proofs.TopicFaults.{topic_some, topic_bound}
use Rattle.sp_topic.specs.Subscription.{is_exception, subscription_fault, IsSubscription}

pub fault_plain : (text : List ℕ) → is_exception text ≡ false → subscription_fault text ≡ topic_fault text
unfolding subscription_fault
fault_plain text h = cond-false _ _ _ h

fault_exception : (topic : List ℕ) → subscription_fault (33 ∷ topic) ≡ option_map (λ at. at + 1) (topic_fault topic)
unfolding subscription_fault
fault_exception topic = refl

pub exception_good : (topic : List ℕ) → topic_fault topic ≡ None → subscription_fault (33 ∷ topic) ≡ None
exception_good topic h = fault_exception topic ∙ ap (option_map (λ at. at + 1)) h

pub exception_bad : (topic : List ℕ) (at : ℕ) → topic_fault topic ≡ Some at → subscription_fault (33 ∷ topic) ≡ Some (at + 1)
exception_bad topic at h = fault_exception topic ∙ ap (option_map (λ at. at + 1)) h

no_fault : (fault : Option ℕ) → option_map (λ at. at + 1) fault ≡ None → fault ≡ None
no_fault None h = refl
no_fault (Some at) h = cc

-- an exception is a `!` and what follows
exception-parts : (text : List ℕ) → is_exception text ≡ true → text ≡ 33 ∷ drop 1 text
exception-parts [] h = cc
exception-parts (byte ∷ rest) h = ap (λ b. b ∷ rest) (eqb-true byte 33 h)

pub subscription_some : (text : List ℕ) → IsSubscription text → 0 < length text
subscription_some [] h = topic_some [] (sym (fault_plain [] refl) ∙ h)
subscription_some (byte ∷ rest) h = omega arith

pub subscription_bound : (text : List ℕ) → IsSubscription text → length text ≤ 251
subscription_bound text h =
    elim (cases_Bool (is_exception text)) [
      | inl marked ↦
          let parts = exception-parts text marked in
          let rest = topic_bound (drop 1 text) (no_fault _ (sym (fault_exception (drop 1 text)) ∙ ap subscription_fault (sym parts) ∙ h)) in
          omega (arith, rest, ap length parts)
      | inr plain ↦ let whole = topic_bound text (sym (fault_plain text plain) ∙ h) in omega (arith, whole)
    ]
