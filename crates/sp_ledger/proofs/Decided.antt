-- What a step comes to, from the checks that pass.
use Rattle.sp_base.specs.declared.refusal.Refusal.{Refusal}
use Rattle.sp_event.specs.declared.answer.Reply.{Reply}
use Rattle.sp_ledger.specs.Allowed.{AreAllowed, HasNumber, changes_of}
use Rattle.sp_ledger.specs.Changes.{Change, all_changed}
use Rattle.sp_ledger.specs.Ledger.{Ledger}
use Rattle.sp_ledger.specs.Limits.{spent}
use Rattle.sp_ledger.specs.Step.{Check, Step, accepted, always, carried_out, decided, does, first_refusal, idle, is_unit}
use Rattle.sp_ledger.specs.Step.{lacks, on_found, outcome_of, refused, unit_check, unless}
use Rattle.std.proofs.Common.{ap, arith, refl, subst, ◌∙◌}
use Rattle.std.proofs.lemmas.Bool.{leb-false, lt-leb}
use Rattle.std.proofs.lemmas.List.Elements.{All-cons, All-nil}
use Rattle.std.specs.Option.{option_or}
use Rattle.std.specs.Prelude.{All, Bool, List, None, Option, Some, [], cond, false, map, nat_le, true, ⊤, ◌&&◌, ◌++◌}
use Rattle.std.specs.Prelude.{◌<◌, ◌≤◌, ◌∷◌, ◌≡◌}

-- no rule is broken
abbrev pub Passes : List Check → Type 0
Passes [] = Unit {0}
Passes (check ∷ rest) = (check.broken ≡ false) × Passes rest

both_none : (broken : Bool) (refusal : Refusal) (rest : Option Refusal) → cond broken (Some refusal) rest ≡ None →
    (broken ≡ false) × (rest ≡ None)
both_none false refusal rest h = (refl, h)
both_none true refusal rest h = absurd (cc)

pub passes : (checks : List Check) → first_refusal checks ≡ None → Passes checks
passes [] h = tt
passes (check ∷ rest) h =
    let both = both_none check.broken check.refusal (first_refusal rest) h in
    (both.0, passes rest both.1)

-- both lists pass
pub passes-append : (xs ys : List Check) → Passes (xs ++ ys) → Passes xs × Passes ys
passes-append [] ys p = (tt, p)
passes-append (x ∷ xs) ys p = let rest = passes-append xs ys p.1 in ((p.0, rest.0), rest.1)

-- the check of each element passes
pub each_passes : {X : Type 0} (check : X → Check) (xs : List X) → Passes (map check xs) →
    All (λ x. (check x).broken ≡ false) xs
each_passes {X} check [] p = All-nil (λ (x : X). (check x).broken ≡ false)
each_passes {X} check (x ∷ xs) p = All-cons (λ (y : X). (check y).broken ≡ false) x xs p.0 (each_passes check xs p.1)

-- what holds of the changes and the reply of a step whose checks pass
abbrev pub OnPassed : (List Change → Reply → Type 0) → Step → Type 0
OnPassed P (lacks refusal) = ⊤
OnPassed P (does checks changes reply) = Passes checks → P changes reply
OnPassed P (always changes reply) = P changes reply

-- what holds of the changes of a step that nothing refuses
abbrev pub OnAlways : (List Change → Type 0) → Step → Type 0
OnAlways P (lacks refusal) = ⊤
OnAlways P (does checks changes reply) = ⊤
OnAlways P (always changes reply) = P changes

-- another fact of the same changes and reply
pub passed_weaker : (P Q : List Change → Reply → Type 0) →
    ((changes : List Change) (reply : Reply) → P changes reply → Q changes reply) → (s : Step) → OnPassed P s →
    OnPassed Q s
passed_weaker P Q w (lacks refusal) h = tt
passed_weaker P Q w (does checks changes reply) h = λ p. w changes reply (h p)
passed_weaker P Q w (always changes reply) h = w changes reply h

-- where it holds on what was found, it holds
pub passed_on_found :
    {X : Type 0} (P : List Change → Reply → Type 0) (refusal : Refusal) (s : X → Step) (found : Option X) →
    ((x : X) → found ≡ Some x → OnPassed P (s x)) → OnPassed P (on_found found refusal s)
passed_on_found P refusal s None holds = tt
passed_on_found P refusal s (Some x) holds = holds x refl

pub always_on_found :
    {X : Type 0} (P : List Change → Type 0) (refusal : Refusal) (s : X → Step) (found : Option X) →
    ((x : X) → OnAlways P (s x)) → OnAlways P (on_found found refusal s)
always_on_found P refusal s None holds = tt
always_on_found P refusal s (Some x) holds = holds x

pub always_unless : (P : List Change → Type 0) (check : Check) (s : Step) → OnAlways P s → OnAlways P (unless check s)
always_unless P check s holds = one check.broken
  where
    one : (b : Bool) → OnAlways P (cond b (lacks check.refusal) s)
    one true = tt
    one false = holds

pub passed_unless : (P : List Change → Reply → Type 0) (check : Check) (s : Step) → OnPassed P s →
    OnPassed P (unless check s)
passed_unless P check s holds = one check.broken
  where
    one : (b : Bool) → OnPassed P (cond b (lacks check.refusal) s)
    one true = tt
    one false = holds

-- a number that isn't spent is one after which flows may be bound
pub has_number : (L M : Ledger) → L.next.unit < spent → HasNumber L M
has_number L M lt = record { number = omega (arith, lt); last = λ le. absurd (omega (arith, lt, le)) }

module _ (L B : Ledger) where
  carried : (changes : List Change) (reply : Reply) (M : Ledger) (told : List Reply) →
      carried_out changes reply B ≡ accepted M told →
      (is_unit changes ≡ true) × (all_changed changes B ≡ M) × (reply ∷ [] ≡ told)
  carried [] reply M told e = absurd (cc)
  carried (c ∷ cs) reply M told e = let ledger : all_changed (c ∷ cs) B ≡ M = cc in let replies :
      reply ∷ [] ≡ told = cc in (refl, ledger, replies)

  -- what is accepted is what the changes leave
  pub where_accepted : (P : Ledger → List Reply → Type 0) (s : Step) →
      OnPassed (λ changes reply. P (all_changed changes B) (reply ∷ [])) s →
      (M : Ledger) (told : List Reply) → outcome_of L B s ≡ accepted M told → P M told
  where_accepted P (lacks refusal) holds M told e = absurd (cc)
  where_accepted P (does checks changes reply) holds M told e =
      one (first_refusal (checks ++ unit_check L changes ∷ [])) refl e
    where
      one : (refusal : Option Refusal) → first_refusal (checks ++ unit_check L changes ∷ []) ≡ refusal →
          decided refusal (carried_out changes reply B) ≡ accepted M told → P M told
      one (Some refusal) is k = absurd (cc)
      one None is k =
          let done = carried changes reply M told k in
          let both = passes-append checks (unit_check L changes ∷ [])
          (passes (checks ++ unit_check L changes ∷ []) is) in
          subst (λ m. P m told) done.1 (subst (λ t. P (all_changed changes B) t) done.2 (holds both.0))
  where_accepted P (always changes reply) holds M told e =
      let done = carried changes reply M told e in
      subst (λ m. P m told) done.1 (subst (λ t. P (all_changed changes B) t) done.2 holds)

  -- and the unit has its number, where it has one in a step that nothing refuses
  pub number_left : (s : Step) →
      OnAlways (λ changes. is_unit changes ≡ true → HasNumber L (all_changed changes B)) s →
      (M : Ledger) (told : List Reply) → outcome_of L B s ≡ accepted M told → HasNumber L M
  number_left (lacks refusal) holds M told e = absurd (cc)
  number_left (does checks changes reply) holds M told e =
      one (first_refusal (checks ++ unit_check L changes ∷ [])) refl e
    where
      one : (refusal : Option Refusal) → first_refusal (checks ++ unit_check L changes ∷ []) ≡ refusal →
          decided refusal (carried_out changes reply B) ≡ accepted M told → HasNumber L M
      one (Some refusal) is k = absurd (cc)
      one None is k =
          let done = carried changes reply M told k in
          let both = passes-append checks (unit_check L changes ∷ [])
          (passes (checks ++ unit_check L changes ∷ []) is) in
          let unit : nat_le spent L.next.unit ≡ false =
          subst (λ b. (b && nat_le spent L.next.unit) ≡ false) done.0 both.1.0 in
          has_number L M (leb-false spent L.next.unit unit)
  number_left (always changes reply) holds M told e =
      let done = carried changes reply M told e in subst (HasNumber L) done.1 (holds done.0)

  nothing : (changes : List Change) (reply : Reply) (told : List Reply) → carried_out changes reply B ≡ idle told →
      (changes ≡ []) × (reply ∷ [] ≡ told)
  nothing [] reply told k = let replies : reply ∷ [] ≡ told = cc in (refl, replies)
  nothing (c ∷ cs) reply told k = absurd (cc)

  -- what is idle changes nothing
  pub where_idle : (P : List Reply → Type 0) (s : Step) →
      OnPassed (λ changes reply. changes ≡ [] → P (reply ∷ [])) s → (told : List Reply) →
      outcome_of L B s ≡ idle told → P told
  where_idle P (lacks refusal) holds told e = absurd (cc)
  where_idle P (does checks changes reply) holds told e =
      one (first_refusal (checks ++ unit_check L changes ∷ [])) refl e
    where
      one : (refusal : Option Refusal) → first_refusal (checks ++ unit_check L changes ∷ []) ≡ refusal →
          decided refusal (carried_out changes reply B) ≡ idle told → P told
      one (Some refusal) is k = absurd (cc)
      one None is k =
          let done = nothing changes reply told k in
          let both = passes-append checks (unit_check L changes ∷ [])
          (passes (checks ++ unit_check L changes ∷ []) is) in
          subst P done.1 (holds both.0 done.0)
  where_idle P (always changes reply) holds told e =
      let done = nothing changes reply told e in subst P done.1 (holds done.0)

  -- whatever is accepted is what changes leave
  pub left_by : (s : Step) (M : Ledger) (told : List Reply) → outcome_of L B s ≡ accepted M told →
      (changes : List Change) × (all_changed changes B ≡ M)
  left_by (lacks refusal) M told e = absurd (cc)
  left_by (does checks changes reply) M told e = one (first_refusal (checks ++ unit_check L changes ∷ [])) e
    where
      one : (refusal : Option Refusal) → decided refusal (carried_out changes reply B) ≡ accepted M told →
          (changes : List Change) × (all_changed changes B ≡ M)
      one (Some refusal) k = absurd (cc)
      one None k = (changes, (carried changes reply M told k).1)
  left_by (always changes reply) M told e = (changes, (carried changes reply M told e).1)

  -- where no check is broken, the changes are carried out
  pub carried_out_where : (checks : List Check) (changes : List Change) (reply : Reply) →
      first_refusal (checks ++ unit_check L changes ∷ []) ≡ None →
      outcome_of L B (does checks changes reply) ≡ carried_out changes reply B
  carried_out_where checks changes reply none = ap (λ r. decided r (carried_out changes reply B)) none

  -- where one is, the first that is is told
  pub refused_where : (checks : List Check) (changes : List Change) (reply : Reply) (refusal : Refusal) →
      first_refusal (checks ++ unit_check L changes ∷ []) ≡ Some refusal →
      outcome_of L B (does checks changes reply) ≡ refused refusal
  refused_where checks changes reply refusal is = ap (λ r. decided r (carried_out changes reply B)) is

  -- a step's changes are allowed, and leave what is accepted
  pub parts_of : (s : Step) → OnPassed (λ changes reply. AreAllowed changes B) s →
      (M : Ledger) (told : List Reply) → outcome_of L B s ≡ accepted M told →
      AreAllowed (changes_of s) B × (all_changed (changes_of s) B ≡ M)
  parts_of (lacks refusal) may M told e = absurd (cc)
  parts_of (does checks changes reply) may M told e = one (first_refusal (checks ++ unit_check L changes ∷ [])) refl e
    where
      one : (refusal : Option Refusal) → first_refusal (checks ++ unit_check L changes ∷ []) ≡ refusal →
          decided refusal (carried_out changes reply B) ≡ accepted M told →
          AreAllowed changes B × (all_changed changes B ≡ M)
      one (Some refusal) is k = absurd (cc)
      one None is k = (
        may
            (passes-append checks (unit_check L changes ∷ []) (passes (checks ++ unit_check L changes ∷ []) is)).0,
        (carried changes reply M told k).1,
      )
  parts_of (always changes reply) may M told e = (may, (carried changes reply M told e).1)

-- the first refusal of two lists
pub first-append : (xs ys : List Check) → first_refusal (xs ++ ys) ≡ option_or (first_refusal xs) (first_refusal ys)
first-append [] ys = refl
first-append (x ∷ xs) ys = one x.broken (first-append xs ys)
  where
    one : (b : Bool) → first_refusal (xs ++ ys) ≡ option_or (first_refusal xs) (first_refusal ys) →
        cond b (Some x.refusal) (first_refusal (xs ++ ys)) ≡ option_or (cond b (Some x.refusal) (first_refusal xs))
        (first_refusal ys)
    one true later = refl
    one false later = later

-- where no check is broken and the unit's number isn't spent, changes are accepted, and none are idle
module _ (L B : Ledger) where
  pub accepted_where : (checks : List Check) (c : Change) (cs : List Change) (reply : Reply) →
      first_refusal checks ≡ None → L.next.unit < spent →
      outcome_of L B (does checks (c ∷ cs) reply) ≡ accepted (all_changed (c ∷ cs) B) (reply ∷ [])
  accepted_where checks c cs reply none lt =
      let broken : (true && nat_le spent L.next.unit) ≡ false = lt-leb spent L.next.unit lt in
      let last : first_refusal (unit_check L (c ∷ cs) ∷ []) ≡ None =
      ap (λ b. cond b (Some (unit_check L (c ∷ cs)).refusal) None) broken in
      carried_out_where L B checks (c ∷ cs) reply
      (first-append checks (unit_check L (c ∷ cs) ∷ [])
      ∙ (ap (λ first. option_or first (first_refusal (unit_check L (c ∷ cs) ∷ []))) none ∙ last))

  pub idle_where : (checks : List Check) (reply : Reply) → first_refusal checks ≡ None →
      outcome_of L B (does checks [] reply) ≡ idle (reply ∷ [])
  idle_where checks reply none =
      carried_out_where L B checks [] reply
      (first-append checks (unit_check L [] ∷ []) ∙ ap (λ first. option_or first None) none)
