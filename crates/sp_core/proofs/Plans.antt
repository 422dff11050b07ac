-- Plans of several changes.
use Rattle.sp_access.specs.Flows.{flow_count}
use Rattle.sp_base.specs.declared.refusal.Refusal.TheVariants.{BadSubscription, BindLimit, InUse, UnknownEndpoint}
use Rattle.sp_copies.specs.Counts.{spooled_count}
use Rattle.sp_endpoint.specs.Endpoints.{named}
use Rattle.sp_base.specs.declared.refusal.Kind.TheVariants as kinds
use Rattle.sp_base.specs.declared.refusal.Refusal.{Refusal}
use Rattle.sp_core.proofs.Deciding.{is_planned, is_refused, on_one}
use Rattle.sp_core.proofs.Spread.{first_of_two}
use Rattle.sp_core.specs.Decided.{bind_plan, verdict}
use Rattle.sp_plan.specs.Plan.{PlanState}
use Rattle.sp_endpoint.specs.Endpoint.{EndpointView}
use Rattle.sp_event.specs.declared.answer.Reply.TheVariants as replies
use Rattle.sp_ledger.proofs.Decided.{passes, passes-append}
use Rattle.sp_ledger.specs.Changes.{Change}
use Rattle.sp_ledger.specs.Ledger.{Ledger}
use Rattle.sp_ledger.specs.OnFlows.{bind, fits_kind, is_rebound, rebound, rebind_changes, topic_check}
use Rattle.sp_ledger.specs.Step.{Check, Step, does, first_refusal, is_copy_spent, is_spent, is_unit, on_found, rule, unit_check, unless}
use Rattle.std.proofs.Common.{ap, arith, refl, sym, ◌∙◌}
use Rattle.std.proofs.lemmas.Bool.{ltb-false}
use Rattle.std.specs.Prelude.{Bool, Err, List, None, Ok, Option, Some, [], cond, false, map, nat_le, not, true, ℕ, ◌&&◌, ◌^◌, ◌++◌, ◌+◌, ◌==◌, ◌∷◌, ◌≡◌, ◌≤◌}

-- one function after another
pub map_twice : {X Y Z : Type 0} (f : Y → Z) (g : X → Y) (xs : List X) → map (λ x. f (g x)) xs ≡ map f (map g xs)
map_twice f g [] = refl
map_twice {X} {Y} {Z} f g (x ∷ xs) = ap (λ (zs : List Z). f (g x) ∷ zs) (map_twice f g xs)

-- where a change comes last, something changes
pub last_unit : (cs : List Change) (c : Change) → is_unit (cs ++ c ∷ []) ≡ true
last_unit [] c = refl
last_unit (d ∷ cs) c = refl

-- the unit's check where something changes
pub unit_is : (L : Ledger) (changes : List Change) (checks : List Check) → is_unit changes ≡ true →
    first_refusal (checks ++ unit_check L changes ∷ []) ≡ first_refusal (checks ++ is_spent L.next.unit kinds.Unit ∷ [])
unit_is L changes checks is = ap (λ (b : Bool). first_refusal (checks ++ rule (Rattle.std.specs.Prelude.◌&&◌ b (Rattle.std.specs.Prelude.nat_le Rattle.sp_ledger.specs.Limits.spent L.next.unit)) (Rattle.sp_base.specs.declared.refusal.Refusal.TheVariants.IdsSpent kinds.Unit) ∷ [])) is

pub on_plain : (L : Ledger) (check : Check) (s : Step) → check.broken ≡ false → verdict L (unless check s) ≡ verdict L s
on_plain L check s plain = ap (λ (b : Bool). verdict L (cond b (Rattle.sp_ledger.specs.Step.lacks check.refusal) s)) plain

-- a first rule that isn't broken
pub first_passes : (check : Check) (rest : List Check) → None ≡ first_refusal (check ∷ []) → first_refusal (check ∷ rest) ≡ first_refusal rest
first_passes check rest none = first_of_two (check ∷ []) rest (sym none)

-- numbers are left for the copies of a publish that isn't refused
pub numbers_left : (L : Ledger) (first : Check) (quotas : List Check) (n : ℕ) →
    None ≡ first_refusal (first ∷ quotas ++ is_spent L.next.message kinds.Message ∷ is_copy_spent (L.copies.next + n) ∷ is_spent L.next.unit kinds.Unit ∷ []) →
    L.copies.next + n ≤ 2 ^ 62
numbers_left L first quotas n none =
    let numbers = is_spent L.next.message kinds.Message ∷ is_copy_spent (L.copies.next + n) ∷ is_spent L.next.unit kinds.Unit ∷ [] in
    let all = passes (first ∷ quotas ++ numbers) (sym none) in
    let both = passes-append quotas numbers all.1 in
    let room = ltb-false (2 ^ 61 + 1) (L.copies.next + n) both.1.1.0 in
    omega (arith, room)

-- what a bind checks, changes and tells, once the endpoint is found and it is known how it is bound
abbrev bind_checks : Ledger → Option (List ℕ) → EndpointView → EndpointView → List Check
bind_checks L topic e bound =
    rule (not (fits_kind e.kind topic)) (BadSubscription 0)
    ∷ rule (is_rebound e bound && not (flow_count L.flows e.number == 0))
    (InUse (flow_count L.flows e.number) (spooled_count L.copies (Some e.number)))
    ∷ rule (nat_le e.attributes.max_bind_count (flow_count L.flows e.number))
    (BindLimit (flow_count L.flows e.number) e.attributes.max_bind_count)
    ∷ is_spent L.next.flow kinds.Flow
    ∷ []

abbrev bind_step : Ledger → List ℕ → Option (List ℕ) → Option (List ℕ) → EndpointView → EndpointView → Step
bind_step L caller selector topic e bound =
    does (bind_checks L topic e bound) (bind_plan caller e bound selector L).changes (bind_plan caller e bound selector L).reply

-- it is that step
bind_is : (L : Ledger) (caller name : List ℕ) (selector topic : Option (List ℕ)) (e bound : EndpointView) →
    (topic_check topic).broken ≡ false → Some e ≡ named name L.endpoints → bound ≡ rebound e selector topic →
    verdict L (bind caller name selector topic L) ≡ verdict L (bind_step L caller selector topic e bound)
bind_is L caller name selector topic e bound plain found is =
    on_plain L (topic_check topic) (on_found (named name L.endpoints) (UnknownEndpoint name) on_endpoint) plain
    ∙ (on_one L (named name L.endpoints) e (UnknownEndpoint name) on_endpoint found
    ∙ ap (λ (b : EndpointView). verdict L (bind_step L caller selector topic e b)) (sym is))
  where
    on_endpoint : EndpointView → Step
    on_endpoint x = bind_step L caller selector topic x (rebound x selector topic)

bind_unit : (L : Ledger) (caller : List ℕ) (selector topic : Option (List ℕ)) (e bound : EndpointView) →
    first_refusal (bind_checks L topic e bound ++ unit_check L (bind_plan caller e bound selector L).changes ∷ [])
    ≡ first_refusal (bind_checks L topic e bound ++ is_spent L.next.unit kinds.Unit ∷ [])
bind_unit L caller selector topic e bound =
    unit_is L (bind_plan caller e bound selector L).changes (bind_checks L topic e bound) (last_unit (rebind_changes L e bound) _)

-- a bind that is refused by a rule on the endpoint or on numbers
pub bind_refused : (L : Ledger) (caller name : List ℕ) (selector topic : Option (List ℕ)) (e bound : EndpointView) (r : Refusal) →
    (topic_check topic).broken ≡ false → Some e ≡ named name L.endpoints → bound ≡ rebound e selector topic →
    Some r ≡ first_refusal (bind_checks L topic e bound ++ is_spent L.next.unit kinds.Unit ∷ []) →
    verdict L (bind caller name selector topic L) ≡ Err r
bind_refused L caller name selector topic e bound r plain found is some =
    bind_is L caller name selector topic e bound plain found is
    ∙ is_refused L (bind_checks L topic e bound) _ _ r (some ∙ sym (bind_unit L caller selector topic e bound))

-- a bind that isn't refused
pub bind_planned : (L : Ledger) (caller name : List ℕ) (selector topic : Option (List ℕ)) (e bound : EndpointView) (plan : PlanState) →
    (topic_check topic).broken ≡ false → Some e ≡ named name L.endpoints → bound ≡ rebound e selector topic →
    None ≡ first_refusal (bind_checks L topic e bound ++ is_spent L.next.unit kinds.Unit ∷ []) →
    plan ≡ bind_plan caller e bound selector L →
    verdict L (bind caller name selector topic L) ≡ Ok plan
bind_planned L caller name selector topic e bound plan plain found is none planned =
    bind_is L caller name selector topic e bound plain found is
    ∙ (is_planned L (bind_checks L topic e bound) _ _ (none ∙ sym (bind_unit L caller selector topic e bound))
    ∙ ap (λ (p : PlanState). Ok p) (sym planned))
