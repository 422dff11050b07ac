-- Each copy that is handed out is delivered.
use Rattle.sp_copies.specs.History.{is_closed, is_open_in, waiting_copies}
use Rattle.sp_copies.specs.declared.made.MadeCopy.{MadeCopy}
use Rattle.sp_endpoint.specs.Endpoint.{EndpointView}
use Rattle.sp_ledger.proofs.HandedOut.{waiting, waits}
use Rattle.sp_ledger.proofs.Listed.{and_right, none_found}
use Rattle.sp_ledger.specs.Ledger.{Ledger, Published, message_of}
use Rattle.sp_ledger.specs.OnFlows.{can_take, delivered, deliveries, pulled, reach}
use Rattle.sp_ledger.specs.Sound.{IsSound, has_message}
use Rattle.sp_message.specs.Size.{size_of}
use Rattle.std.proofs.Common.{ap, refl}
use Rattle.std.proofs.lemmas.List.Elements.{All-filter, All-head, All-tail, All-take, All-weaker}
use Rattle.std.proofs.lemmas.List.Folds.{list_any_none}
use Rattle.std.specs.List.{cons_option}
use Rattle.std.specs.Prelude.{All, Bool, IsTrue, List, None, Option, Some, [], false, is_some, map, not, option_map}
use Rattle.std.specs.Prelude.{true, ℕ, ◌&&◌, ◌==◌, ◌||◌, ◌∷◌, ◌≡◌}

-- a message that is there is found by its number
found_by_number : (messages : List Published) (c : MadeCopy) → has_message messages c ≡ true →
    is_some (message_of messages c.message) ≡ true
found_by_number messages c h = one (message_of messages c.message) refl
  where
    one : (found : Option Published) → message_of messages c.message ≡ found →
        is_some (message_of messages c.message) ≡ true
    one (Some m) is = ap is_some is
    one None is =
        absurd (let none : has_message messages c ≡ false = list_any_none {X = Published}
        (λ m. (m.number == c.message) && (size_of m.message == c.size)) messages
        (All-weaker (λ (m : Published). (m.number == c.message) ≡ false)
        (λ (m : Published). ((m.number == c.message) && (size_of m.message == c.size)) ≡ false)
        (λ m other. ap (λ b. b && (size_of m.message == c.size)) other) messages
        (none_found {X = Published} (λ m. m.number == c.message) messages (ap is_some is))) in cc)

each_found : (L : Ledger) (cs : List MadeCopy) → All (λ c. IsTrue (is_some (message_of L.messages c.message))) cs →
    map (λ d. d.copy) (deliveries L cs) ≡ map (λ c. c.number) cs
each_found L [] all = refl
each_found L (c ∷ cs) all =
    one (message_of L.messages c.message)
    (All-head (λ (x : MadeCopy). IsTrue (is_some (message_of L.messages x.message))) c cs all)
    (each_found L cs (All-tail (λ (x : MadeCopy). IsTrue (is_some (message_of L.messages x.message))) c cs all))
  where
    one : (found : Option Published) → IsTrue (is_some found) →
        map (λ d. d.copy) (deliveries L cs) ≡ map (λ x. x.number) cs →
        map (λ d. d.copy) (cons_option (option_map (delivered L c) found) (deliveries L cs)) ≡ c.number ∷ map
        (λ x. x.number) cs
    one None is rest = absurd (cc)
    one (Some m) is rest = ap (λ ns. c.number ∷ ns) rest

pub all_delivered : (L : Ledger) → IsSound L → (e : EndpointView) (flow count : ℕ) →
    map (λ d. d.copy) (deliveries L (pulled L e flow count)) ≡ map (λ c. c.number) (pulled L e flow count)
all_delivered L s e flow count =
    each_found L (pulled L e flow count)
    (All-take (λ (c : MadeCopy). IsTrue (is_some (message_of L.messages c.message))) _ (reach L e flow)
    (All-filter (can_take L e flow) (λ (c : MadeCopy). IsTrue (is_some (message_of L.messages c.message)))
    (waiting_copies L.copies e.number L.now)
    (All-weaker (λ (c : MadeCopy).
    (IsTrue (is_closed L.copies.closed c.number || has_message L.messages c) × IsTrue
    (is_open_in L.copies.closed e.number c)) × IsTrue (waits L.copies e.number L.now c))
    (λ (c : MadeCopy). IsTrue (is_some (message_of L.messages c.message)))
    (λ c h. found_by_number L.messages c
    (one (is_closed L.copies.closed c.number) h.0.0 (and_right (c.endpoint == e.number) _ h.0.1)))
    (waiting_copies L.copies e.number L.now)
    (waiting L.copies e.number L.now
    (λ (c : MadeCopy). IsTrue (is_closed L.copies.closed c.number || has_message L.messages c)) s.copies.messages))))
  where
    one : {there : Bool} (closed : Bool) → (closed || there) ≡ true → not closed ≡ true → there ≡ true
    one true h open_one = absurd (cc)
    one false h open_one = h
