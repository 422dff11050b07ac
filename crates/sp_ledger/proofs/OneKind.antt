-- Lists of changes of one kind are allowed, one after another.
use Rattle.sp_copies.proofs.Marks.{eqb-turned}
use Rattle.sp_copies.specs.Counts.{is_moved}
use Rattle.sp_copies.specs.History.{is_free, is_spooled, once_more, with_closed, with_held}
use Rattle.sp_copies.specs.declared.closed.Closing.{Closing}
use Rattle.sp_copies.specs.declared.held.CopyAttempts.{CopyAttempts}
use Rattle.sp_copies.specs.declared.held.HeldCopy.{HeldCopy}
use Rattle.sp_copies.specs.declared.made.MadeCopy.{MadeCopy}
use Rattle.sp_endpoint.specs.Endpoint.{EndpointView}
use Rattle.sp_ledger.proofs.CopiesKept.{still_spooled_beside}
use Rattle.sp_ledger.proofs.HandedOut.{none_greater, still_free}
use Rattle.sp_ledger.proofs.Listed.{All-both, or_left, or_right, pairs_head, pairs_tail}
use Rattle.sp_ledger.specs.Allowed.{AreAllowed, HasTurn}
use Rattle.sp_ledger.specs.Changes.{all_changed, changed, closes, holds}
use Rattle.sp_ledger.specs.Ledger.{Ledger}
use Rattle.sp_ledger.specs.One.{is_bound_for}
use Rattle.sp_ledger.specs.Turns.{is_in_partition}
use Rattle.std.proofs.Common.{refl, subst, sym, ◌∙◌}
use Rattle.std.proofs.lemmas.Bool.{eqb-true}
use Rattle.std.proofs.lemmas.List.Elements.{All-head, All-map, All-push, All-tail, All-weaker}
use Rattle.std.specs.List.{list_any}
use Rattle.std.specs.Prelude.{All, AllPairs, Bool, IsTrue, List, Some, [], cond, false, map, true, ℕ, ◌+◌, ◌<◌, ◌==◌}
use Rattle.std.specs.Prelude.{◌∷◌, ◌≡◌}

-- spooled copies of other numbers close, one after another, and nothing else changes
pub closes_all : (how : Closing) (cs : List MadeCopy) (K : Ledger) →
    all_changed (map (λ c. closes c.number how) cs) K ≡ record K
    { copies = (all_changed (map (λ c. closes c.number how) cs) K).copies }
closes_all how [] K = refl
closes_all how (c ∷ cs) K = closes_all how cs (changed (closes c.number how) K)

pub close_allowed : (how : Closing) → is_moved (Some how) ≡ false → (cs : List MadeCopy) (K : Ledger) →
    All (λ c. is_spooled K.copies c.number ≡ true) cs → AllPairs (λ c d. (c.number == d.number) ≡ false) cs →
    AreAllowed (map (λ c. closes c.number how) cs) K
close_allowed how unmoved [] K spooled apart = tt
close_allowed how unmoved (c ∷ cs) K spooled apart = (
  (All-head (λ (d : MadeCopy). is_spooled K.copies d.number ≡ true) c cs spooled, unmoved),
  close_allowed how unmoved cs (changed (closes c.number how) K)
      (All-weaker (λ (d : MadeCopy). (is_spooled K.copies d.number ≡ true) × ((c.number == d.number) ≡ false))
      (λ (d : MadeCopy). is_spooled (with_closed c.number how K.now K.copies) d.number ≡ true)
      (λ d both. still_spooled_beside K.copies (record { copy = c.number; how = how; moment = K.now })
      d.number both.1 both.0) cs
      (All-both (λ (d : MadeCopy). is_spooled K.copies d.number ≡ true)
      (λ (d : MadeCopy). (c.number == d.number) ≡ false) cs
      (All-tail (λ (d : MadeCopy). is_spooled K.copies d.number ≡ true) c cs spooled)
      (pairs_head (λ (a b : MadeCopy). (a.number == b.number) ≡ false) c cs apart)))
      (pairs_tail (λ (a b : MadeCopy). (a.number == b.number) ≡ false) c cs apart),
)

-- free copies of rising numbers are held, one after another
pub hold_allowed : (flow : ℕ) (cs : List MadeCopy) (K : Ledger) → All (λ c. is_free K.copies c.number ≡ true) cs →
    AllPairs (λ c d. c.number < d.number) cs →
    All (λ c. IsTrue (is_bound_for K.flows K.copies.made (record { copy = c.number; flow = flow }))) cs →
    All (λ a. list_any (λ c. c.number == a.copy) cs ≡ true → a.count + 1 < K.next.unit) K.copies.attempts →
    All (λ c. All (HasTurn K (record { copy = c.number; flow = flow })) K.endpoints) cs →
    AreAllowed (map (λ c. holds c.number flow) cs) K
hold_allowed flow [] K unheld rise bound few turns = tt
hold_allowed flow (c ∷ cs) K unheld rise bound few turns =
    let above = pairs_head (λ (a b : MadeCopy). a.number < b.number) c cs rise in (
      record {
        free = All-head (λ (d : MadeCopy). is_free K.copies d.number ≡ true) c cs unheld;
        bound = All-head (λ (d : MadeCopy). IsTrue
            (is_bound_for K.flows K.copies.made (record { copy = d.number; flow = flow }))) c cs bound;
        attempts = All-weaker
            (λ (a : CopyAttempts). list_any (λ (d : MadeCopy). d.number == a.copy) (c ∷ cs) ≡ true →
            a.count + 1 < K.next.unit)
            (λ (a : CopyAttempts). (a.copy == c.number) ≡ true → a.count + 1 < K.next.unit)
            (λ a h is. h (or_left (c.number == a.copy) _ (eqb-turned c.number a.copy ∙ is))) K.copies.attempts few;
        turn = All-head (λ (d : MadeCopy). All (HasTurn K (record { copy = d.number; flow = flow })) K.endpoints)
            c cs turns;
      },
      hold_allowed flow cs (changed (holds c.number flow) K)
          (All-weaker (λ (d : MadeCopy). (is_free K.copies d.number ≡ true) × (c.number < d.number))
          (λ (d : MadeCopy). is_free (with_held c.number flow K.copies) d.number ≡ true)
          (λ d h. still_free K.copies flow c.number d.number h.1 h.0) cs
          (All-both (λ (d : MadeCopy). is_free K.copies d.number ≡ true) (λ (d : MadeCopy). c.number < d.number)
          cs (All-tail (λ (d : MadeCopy). is_free K.copies d.number ≡ true) c cs unheld) above))
          (pairs_tail (λ (a b : MadeCopy). a.number < b.number) c cs rise)
          (All-tail (λ (d : MadeCopy). IsTrue
          (is_bound_for K.flows K.copies.made (record { copy = d.number; flow = flow }))) c cs bound)
          (All-map (λ (a : CopyAttempts). list_any (λ (d : MadeCopy). d.number == a.copy) cs ≡ true →
          a.count + 1 < K.next.unit) (λ (a : CopyAttempts). cond (a.copy == c.number) (once_more a) a)
          K.copies.attempts
          (All-weaker (λ (a : CopyAttempts). list_any (λ (d : MadeCopy). d.number == a.copy) (c ∷ cs) ≡ true →
          a.count + 1 < K.next.unit)
          (λ (a : CopyAttempts). list_any
          (λ (d : MadeCopy). d.number == (cond (a.copy == c.number) (once_more a) a).copy) cs ≡ true →
          (cond (a.copy == c.number) (once_more a) a).count + 1 < K.next.unit)
          (λ a h. later a above h (a.copy == c.number) refl) K.copies.attempts few))
          (All-weaker (λ (d : MadeCopy). All (HasTurn K (record { copy = d.number; flow = flow })) K.endpoints)
          (λ (d : MadeCopy). All (HasTurn (changed (holds c.number flow) K) (record { copy = d.number; flow = flow }))
          K.endpoints)
          (λ d ts. All-weaker (HasTurn K (record { copy = d.number; flow = flow }))
          (HasTurn (changed (holds c.number flow) K) (record { copy = d.number; flow = flow })) (still_turn d) K.endpoints ts)
          cs (All-tail (λ (d : MadeCopy). All (HasTurn K (record { copy = d.number; flow = flow })) K.endpoints)
          c cs turns)),
    )
  where
    still_turn : (d : MadeCopy) (e : EndpointView) → HasTurn K (record { copy = d.number; flow = flow }) e →
        HasTurn (changed (holds c.number flow) K) (record { copy = d.number; flow = flow }) e
    still_turn d e t = record {
      first = t.first;
      alone = λ pa p is. All-push (λ (g : HeldCopy). is_in_partition K.copies.made e.number p g ≡ true → g.flow ≡ flow)
          K.copies.held (record { copy = c.number; flow = flow }) (t.alone pa p is) (λ here. refl);
    }

    later : (a : CopyAttempts) → All (λ (d : MadeCopy). c.number < d.number) cs →
        (list_any (λ (d : MadeCopy). d.number == a.copy) (c ∷ cs) ≡ true → a.count + 1 < K.next.unit) →
        (b : Bool) → (a.copy == c.number) ≡ b →
        list_any (λ (d : MadeCopy). d.number == (cond b (once_more a) a).copy) cs ≡ true →
        (cond b (once_more a) a).count + 1 < K.next.unit
    later a above h true is among =
        absurd (let none : list_any (λ (d : MadeCopy). d.number == a.copy) cs ≡ false = subst
        (λ k. list_any (λ (d : MadeCopy). d.number == k) cs ≡ false) (sym (eqb-true _ _ is))
        (none_greater c.number cs above) in cc)
    later a above h false is among = h (or_right (c.number == a.copy) _ among)
