-- Whether the event of a unit is accepted, by what was prepared of it.
use Rattle.std.proofs.Common.{◌≡◌, ◌∙◌, ℕ, List, [], ◌∷◌, Ok, Err, true, false, length, refl, sym, ap}
use Rattle.sp_base.specs.declared.declined.Declined.TheVariants.{Refused}
use Rattle.sp_base.specs.declared.declined.EventRefusal.{EventRefusal}
use Rattle.sp_core.specs.Decided.{CarriesOut, Prepares, ReadyState}
use Rattle.sp_core.specs.Stands.{Stands}
use Rattle.sp_core.specs.State.{CoreState}
use Rattle.sp_event.specs.declared.answer.Reply.{Reply}
use Rattle.sp_event.specs.declared.request.Event.{Event}
use Rattle.sp_ledger.specs.Events.{outcome}
use Rattle.sp_ledger.specs.Ledger.{Ledger}
use Rattle.sp_ledger.specs.Step.{Outcome, refused, idle, accepted, is_idle}
use Rattle.sp_store.specs.Units.{Accepts}
use Rattle.sp_unit.specs.UnitBytes.{UnitView}

-- a list of one element
pub one_of : {A : Type 0} (xs : List A) → length xs ≡ 1 → (x : A) × (xs ≡ x ∷ [])
one_of [] one = absurd cc
one_of (x ∷ []) one = (x, refl)
one_of (x ∷ y ∷ xs) one = absurd cc

not_idle : (o : Outcome) (M : Ledger) (told : List Reply) → o ≡ accepted M told → is_idle o ≡ true → ⊥
not_idle o M told is idles = absurd cc

module _ (old new : CoreState) (unit : UnitView) (L : Ledger) (stands : Stands old L) where
  same_outcome : (event : Event) → unit.events ≡ event ∷ [] → (moment : ℕ) → moment ≡ unit.moment → (M : Ledger)
      → (a : Accepts unit L M) → outcome moment unit.caller event L ≡ accepted M a.told
  same_outcome event one moment same M a =
      let both : event ∷ [] ≡ a.event ∷ [] = sym one ∙ a.one in
      let event_is : event ≡ a.event = cc in
      ap (λ (m : ℕ). outcome m unit.caller event L) same
      ∙ ap (λ (e : Event). outcome unit.moment unit.caller e L) event_is ∙ a.step

  -- an idle one isn't
  pub idle_is_none : (ready : ReadyState)
      → ((event : Event) → unit.events ≡ event ∷ [] → Prepares old new unit.moment unit.caller event (Ok ready))
      → ((event : Event) → unit.events ≡ event ∷ [] → is_idle (outcome ready.moment unit.caller event L) ≡ true)
      → (M : Ledger) → Accepts unit L M → ⊥
  idle_is_none ready prepares idles M a =
      not_idle (outcome ready.moment unit.caller a.event L) M a.told
      (same_outcome a.event a.one ready.moment (prepares a.event a.one).at M a) (idles a.event a.one)

  -- nor is a refused one
  pub refused_is_none : (r : EventRefusal)
      → ((event : Event) → unit.events ≡ event ∷ [] → Prepares old new unit.moment unit.caller event (Err (Refused r)))
      → (M : Ledger) → Accepts unit L M → ⊥
  refused_is_none r prepares M a =
      let refused_so : outcome unit.moment unit.caller a.event L ≡ refused r.refusal =
      (prepares a.event a.one).refused.1 L stands in
      both (sym refused_so ∙ a.step)
    where
      both : {N : Ledger} {told : List Reply} → refused r.refusal ≡ accepted N told → ⊥
      both same = absurd cc

  -- any other is
  pub accepted_then : (event : Event) → unit.events ≡ event ∷ [] → (moment : ℕ) → moment ≡ unit.moment
      → (core : CoreState) (given : List Reply) → is_idle (outcome moment unit.caller event L) ≡ false
      → CarriesOut (outcome moment unit.caller event L) L core given → (M : Ledger) × Accepts unit L M × Stands core M
  accepted_then event one moment same core given isnt done =
      by_cases (outcome moment unit.caller event L)
      (ap (λ (m : ℕ). outcome m unit.caller event L) (sym same)) isnt done
    where
      by_cases : (o : Outcome) → outcome unit.moment unit.caller event L ≡ o → is_idle o ≡ false → CarriesOut o L core given
          → (M : Ledger) × Accepts unit L M × Stands core M
      by_cases (refused refusal) is isnt done = absurd done
      by_cases (idle told) is isnt done = absurd cc
      by_cases (accepted M told) is isnt done =
          (M, record { event = event; told = told; one = one; step = is }, done.1)
