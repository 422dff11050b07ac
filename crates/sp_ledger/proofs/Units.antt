-- Every accepted event is one unit, and draws its numbers from those that weren't drawn before.
use Rattle.sp_base.specs.Name.{is_caller}
use Rattle.sp_event.specs.declared.answer.Reply.{Reply}
use Rattle.sp_event.specs.declared.request.Event.{Event}
use Rattle.sp_ledger.proofs.Decided.{left_by}
use Rattle.sp_ledger.proofs.EachKind.{units_after}
use Rattle.sp_ledger.proofs.Shared.{shared_next}
use Rattle.sp_ledger.proofs.Steps.{accepted_changes}
use Rattle.sp_ledger.specs.Allowed.{AreAllowed, IsAllowed, changes_of}
use Rattle.sp_ledger.specs.Changes.{Change, all_changed, becomes, binds, changed, closes, comes, ends, frees, goes}
use Rattle.sp_ledger.specs.Changes.{goes_on, holds, logs, moves, publishes, repeats, starts, unbinds, unbinds_all}
use Rattle.sp_ledger.specs.Events.{outcome, step}
use Rattle.sp_ledger.specs.Ledger.{Ledger}
use Rattle.sp_ledger.specs.Sound.{IsLedger}
use Rattle.sp_ledger.specs.Step.{accepted, begun}
use Rattle.sp_ledger.specs.Told.{IsLater}
use Rattle.std.proofs.Common.{arith, le_trans, refl, subst, ◌∙◌}
use Rattle.std.specs.Prelude.{List, [], max, true, ℕ, ◌+◌, ◌∷◌, ◌≡◌, ◌≤◌}

-- no change turns the clock
now_after : (c : Change) (L : Ledger) → (changed c L).now ≡ L.now
now_after (comes e) L = refl
now_after (goes endpoint) L = refl
now_after (becomes e) L = refl
now_after (publishes m shares) L = refl
now_after (logs log) L = refl
now_after (repeats c) L = refl
now_after (closes copy how) L = refl
now_after (moves copy new) L = refl
now_after (holds copy flow) L = refl
now_after (frees copy) L = refl
now_after (binds f) L = refl
now_after (unbinds flow) L = refl
now_after unbinds_all L = refl
now_after (starts r) L = refl
now_after (goes_on r) L = refl
now_after (ends replay) L = refl

nows_after : (changes : List Change) (L : Ledger) → (all_changed changes L).now ≡ L.now
nows_after [] L = refl
nows_after (c ∷ cs) L = nows_after cs (changed c L) ∙ now_after c L

pub one_unit : (L : Ledger) (moment : ℕ) (caller : List ℕ) (event : Event) (M : Ledger) (told : List Reply) →
    outcome moment caller event L ≡ accepted M told → (M.next.unit ≡ L.next.unit + 1) × (M.now ≡ max L.now moment)
one_unit L moment caller event M told e =
    let B = begun moment L in
    let by = left_by L B (step caller event B) M told e in (
      subst (λ (N : Ledger). N.next.unit ≡ L.next.unit + 1) by.1 (units_after by.0 B),
      subst (λ (N : Ledger). N.now ≡ max L.now moment) by.1 (nows_after by.0 B),
    )

-- the next numbers of a ledger that stays but for what draws one
fields : (L M : Ledger) → L.next.endpoint ≤ M.next.endpoint → L.next.message ≤ M.next.message →
    L.copies.next ≤ M.copies.next → L.next.flow ≤ M.next.flow → L.next.replay ≤ M.next.replay →
    L.next.unit ≤ M.next.unit → IsLater L M
fields L M endpoint message copy flow replay unit = record {
  endpoint = endpoint;
  message = message;
  copy = copy;
  flow = flow;
  replay = replay;
  unit = unit;
}

stays : (n : ℕ) → n ≤ n
stays n = omega arith

more : (n : ℕ) → n ≤ n + 1
more n = omega arith

one_later : (c : Change) (L : Ledger) → IsAllowed c L → IsLater L (changed c L)
one_later (comes e) L may =
    let number = may.number in
    fields L (changed (comes e) L) (omega (arith, number)) (stays _) (stays _) (stays _) (stays _) (stays _)
one_later (goes endpoint) L may =
    fields L (changed (goes endpoint) L) (stays _) (stays _) (stays _) (stays _) (stays _) (stays _)
one_later (becomes e) L may =
    fields L (changed (becomes e) L) (stays _) (stays _) (stays _) (stays _) (stays _) (stays _)
one_later (publishes m shares) L may =
    let next = shared_next L.flows L.endpoints L.messages L.next.endpoint L.next.unit L.now shares L.copies in
    fields L (changed (publishes m shares) L) (stays _) (more _) (omega (arith, next)) (stays _) (stays _) (stays _)
one_later (logs log) L may =
    fields L (changed (logs log) L) (stays _) (stays _) (stays _) (stays _) (stays _) (stays _)
one_later (repeats c) L may =
    fields L (changed (repeats c) L) (stays _) (stays _) (more _) (stays _) (stays _) (stays _)
one_later (closes copy how) L may =
    fields L (changed (closes copy how) L) (stays _) (stays _) (stays _) (stays _) (stays _) (stays _)
one_later (moves copy new) L may =
    fields L (changed (moves copy new) L) (stays _) (stays _) (more _) (stays _) (stays _) (stays _)
one_later (holds copy flow) L may =
    fields L (changed (holds copy flow) L) (stays _) (stays _) (stays _) (stays _) (stays _) (stays _)
one_later (frees copy) L may =
    fields L (changed (frees copy) L) (stays _) (stays _) (stays _) (stays _) (stays _) (stays _)
one_later (binds f) L may =
    let number = may.number in
    fields L (changed (binds f) L) (stays _) (stays _) (stays _) (omega (arith, number)) (stays _) (stays _)
one_later (unbinds flow) L may =
    fields L (changed (unbinds flow) L) (stays _) (stays _) (stays _) (stays _) (stays _) (stays _)
one_later unbinds_all L may =
    fields L (changed unbinds_all L) (stays _) (stays _) (stays _) (stays _) (stays _) (stays _)
one_later (starts r) L may =
    let number = may.number in
    fields L (changed (starts r) L) (stays _) (stays _) (stays _) (stays _) (omega (arith, number)) (stays _)
one_later (goes_on r) L may =
    fields L (changed (goes_on r) L) (stays _) (stays _) (stays _) (stays _) (stays _) (stays _)
one_later (ends replay) L may =
    fields L (changed (ends replay) L) (stays _) (stays _) (stays _) (stays _) (stays _) (stays _)

later_on : (L M N : Ledger) → IsLater L M → IsLater M N → IsLater L N
later_on L M N p q =
    fields L N (le_trans p.endpoint q.endpoint) (le_trans p.message q.message) (le_trans p.copy q.copy)
    (le_trans p.flow q.flow) (le_trans p.replay q.replay) (le_trans p.unit q.unit)

all_later : (changes : List Change) (L : Ledger) → AreAllowed changes L → IsLater L (all_changed changes L)
all_later [] L may = fields L L (stays _) (stays _) (stays _) (stays _) (stays _) (stays _)
all_later (c ∷ cs) L may =
    later_on L (changed c L) (all_changed cs (changed c L)) (one_later c L may.0) (all_later cs (changed c L) may.1)

pub event_later : (L : Ledger) → IsLedger L → (moment : ℕ) (caller : List ℕ) → is_caller caller ≡ true →
    (event : Event) (M : Ledger) (told : List Reply) → outcome moment caller event L ≡ accepted M told → IsLater L M
event_later L s moment caller short event M told e =
    let B = begun moment L in
    let cs = changes_of (step caller event B) in
    let by = accepted_changes L s moment caller short event M told e in
    let begins = fields L B (stays _) (stays _) (stays _) (stays _) (stays _) (more _) in
    subst (IsLater L) by.1 (later_on L B (all_changed cs B) begins (all_later cs B by.0))
