-- Changes are carried out one after another, each where the ones before led.
use Rattle.sp_core.specs.Decided.{ledger_after}
use Rattle.sp_core.specs.Room.{Has, HasRoom, Takes}
use Rattle.sp_plan.specs.Plan.{changes_of, need_of, no_need}
use Rattle.sp_plan.specs.declared.change.Change as own
use Rattle.sp_core.specs.Stands.{Stands}
use Rattle.sp_core.specs.State.{CoreState}
use Rattle.sp_ledger.specs.Allowed.{AreAllowed, IsAllowed}
use Rattle.sp_ledger.specs.Changes.{Change, all_changed, changed}
use Rattle.sp_ledger.specs.Ledger.{Ledger}
use Rattle.sp_ledger.specs.Step.{begun, is_unit}
use Rattle.std.proofs.Common.{arith, refl, subst}
use Rattle.std.proofs.lemmas.List.Sums.{sum_by-cons}
use Rattle.std.specs.Prelude.{List, [], length, sum_by, true, ℕ, ◌+◌, ◌<◌, ◌∷◌, ◌≡◌, ◌≤◌}

-- on the way: there is room for the rest, and each ledger from which the changes began has come to one for which the
-- core stands, where the rest is allowed and leads to the same end
pub record IsUnderWay (start : CoreState) (all : List Change) (now : CoreState) (rest : List Change) : Type 0 where
  pub room : HasRoom now rest
  pub may : (M : Ledger) × Stands now M × AreAllowed rest M
  pub led : (L : Ledger) → Stands start L → AreAllowed all L →
      (M : Ledger) × Stands now M × AreAllowed rest M × (all_changed rest M ≡ all_changed all L)

pub sets_out : (start : CoreState) (all : List Change) → HasRoom start all → ((L : Ledger) × Stands start L × AreAllowed all L) →
    IsUnderWay start all start all
sets_out start all room may = record { room = room; may = may; led = λ L s a. (L, s, a, refl) }

pub room_first : (now : CoreState) (c : Change) (rest : List Change) → HasRoom now (c ∷ rest) → Has now (need_of c)
room_first now c rest h = record {
  endpoints = let k : sum_by (λ d. (need_of d).endpoints) (c ∷ rest) ≤ now.endpoints.room = h.endpoints in let e = sum_by-cons (λ d. (need_of d).endpoints) c rest in omega (arith, k, e);
  messages = let k : sum_by (λ d. (need_of d).messages) (c ∷ rest) ≤ now.messages.room = h.messages in let e = sum_by-cons (λ d. (need_of d).messages) c rest in omega (arith, k, e);
  copies = let k : sum_by (λ d. (need_of d).copies) (c ∷ rest) ≤ now.copies.spare = h.copies in let e = sum_by-cons (λ d. (need_of d).copies) c rest in omega (arith, k, e);
  flows = let k : sum_by (λ d. (need_of d).flows) (c ∷ rest) ≤ now.flows.room = h.flows in let e = sum_by-cons (λ d. (need_of d).flows) c rest in omega (arith, k, e);
}

-- the room for the rest
room_rest : (old new : CoreState) (c : Change) (rest : List Change) → HasRoom old (c ∷ rest) → Takes (need_of c) old new → HasRoom new rest
room_rest old new c rest h t = record {
  endpoints =
      let k : sum_by (λ d. (need_of d).endpoints) (c ∷ rest) ≤ old.endpoints.room = h.endpoints in
      let e = sum_by-cons (λ d. (need_of d).endpoints) c rest in
      let l : old.endpoints.room ≤ new.endpoints.room + (need_of c).endpoints = t.endpoints in
      let goal : sum_by (λ d. (need_of d).endpoints) rest ≤ new.endpoints.room = omega (arith, k, l, e) in
      goal;
  messages =
      let k : sum_by (λ d. (need_of d).messages) (c ∷ rest) ≤ old.messages.room = h.messages in
      let e = sum_by-cons (λ d. (need_of d).messages) c rest in
      let l : old.messages.room ≤ new.messages.room + (need_of c).messages = t.messages in
      let goal : sum_by (λ d. (need_of d).messages) rest ≤ new.messages.room = omega (arith, k, l, e) in
      goal;
  copies =
      let k : sum_by (λ d. (need_of d).copies) (c ∷ rest) ≤ old.copies.spare = h.copies in
      let e = sum_by-cons (λ d. (need_of d).copies) c rest in
      let l : old.copies.spare ≤ new.copies.spare + (need_of c).copies = t.copies in
      let goal : sum_by (λ d. (need_of d).copies) rest ≤ new.copies.spare = omega (arith, k, l, e) in
      goal;
  flows =
      let k : sum_by (λ d. (need_of d).flows) (c ∷ rest) ≤ old.flows.room = h.flows in
      let e = sum_by-cons (λ d. (need_of d).flows) c rest in
      let l : old.flows.room ≤ new.flows.room + (need_of c).flows = t.flows in
      let goal : sum_by (λ d. (need_of d).flows) rest ≤ new.flows.room = omega (arith, k, l, e) in
      goal;
}

-- one change further
pub goes_on : (start : CoreState) (all : List Change) (old new : CoreState) (c : Change) (rest : List Change) →
    IsUnderWay start all old (c ∷ rest) → Takes (need_of c) old new →
    ((L : Ledger) → Stands old L → IsAllowed c L → Stands new (changed c L)) → IsUnderWay start all new rest
goes_on start all old new c rest way takes after = record {
  room = room_rest old new c rest way.room takes;
  may = let m = way.may in (changed c m.0, after m.0 m.1 m.2.0, m.2.1);
  led = λ L s a. let m = way.led L s a in (changed c m.0, after m.0 m.1 m.2.0, m.2.1, m.3);
}

-- the end
pub arrives : (start : CoreState) (all : List Change) (now : CoreState) → IsUnderWay start all now [] →
    (L : Ledger) → Stands start L → AreAllowed all L → Stands now (all_changed all L)
arrives start all now way L s a = let m = way.led L s a in subst (Stands now) m.3 m.1

-- the room is still there where none was needed
pub room_kept : (old new : CoreState) (cs : List Change) → HasRoom old cs → Takes no_need old new → HasRoom new cs
room_kept old new cs h t = record {
  endpoints = let x = h.endpoints in let y : old.endpoints.room ≤ new.endpoints.room + 0 = t.endpoints in omega (arith, x, y);
  messages = let x = h.messages in let y : old.messages.room ≤ new.messages.room + 0 = t.messages in omega (arith, x, y);
  copies = let x = h.copies in let y : old.copies.spare ≤ new.copies.spare + 0 = t.copies in omega (arith, x, y);
  flows = let x = h.flows in let y : old.flows.room ≤ new.flows.room + 0 = t.flows in omega (arith, x, y);
}

-- where something changes, and where nothing does
pub some_unit : (cs : List own.Change) → 0 < length cs → is_unit (changes_of cs) ≡ true
some_unit [] some = absurd (omega (arith, some))
some_unit (c ∷ cs) some = refl

pub after_some : (moment : ℕ) (cs : List own.Change) (L : Ledger) → 0 < length cs →
    ledger_after moment (changes_of cs) L ≡ all_changed (changes_of cs) (begun moment L)
after_some moment [] L some = absurd (omega (arith, some))
after_some moment (c ∷ cs) L some = refl

pub after_none : (moment : ℕ) (cs : List own.Change) (L : Ledger) → length cs ≡ 0 → ledger_after moment (changes_of cs) L ≡ L
after_none moment [] L none = refl
after_none moment (c ∷ cs) L none = absurd (omega (arith, none))
