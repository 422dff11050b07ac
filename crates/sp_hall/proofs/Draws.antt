-- Drawing a ticket keeps the hall's rule.
use Rattle.std.proofs.Common.{◌≡◌, ℕ, ◌+◌, ◌%◌, ◌^◌, ◌<◌, ◌≤◌, List, set, Bool, true, false, refl, sym, ap, ◌∙◌, arith, Option, sum_by, if◌then◌else◌}
use Rattle.std.specs.Prelude.{slice_index}
use Rattle.std.proofs.Math.Nat.{mod-eq_of_lt}
use mathlib.Core.Logic.{dite}
use mathlib.Core.Option.{none}
use native.Mathlib.Decide.{ℕ_discrete}
use Rattle.atomic_table.specs.Table.{State, Me, keeps, step, Allows}
use Rattle.sp_hall.specs.Rule.{waits, Fits, Ruled, with_ticket, Draws}
use Rattle.sp_hall.specs.declared.object.Shown.{Shown}
use Rattle.sp_hall.specs.declared.seat.View.{View}
use Rattle.sp_hall.proofs.Views.{off, sum_set, sum_le, each_set, distinct_set, turn_set, turn_was}

module _ {E S : Type 0} where
  pub no_wait : (v : View E S) → v.drawn ≡ false → waits v ≡ 0
  no_wait v idle = ap (λ (x : Bool). if x then 1 else 0) idle

  pub one_wait : (v : View E S) → v.drawn ≡ true → waits v ≡ 1
  one_wait v drawn = ap (λ (x : Bool). if x then 1 else 0) drawn

  -- a view that waits has a part
  pub one_waits : (v : View E S) → (v.parts ≡ 0 → (v.drawn ≡ false) × (v.made ≡ 0)) → waits v ≤ v.parts
  one_waits v h = dite (ℕ_discrete v.parts 0) (λ e. let z = no_wait v (h e).0 in omega arith) (λ ne. at_most v.drawn ne)
    where
      at_most : (b : Bool) → (v.parts ≡ 0 → ⊥) → (if b then 1 else 0) ≤ v.parts
      at_most true ne = omega arith
      at_most false ne = omega arith

  -- a view keeps what holds of it when one ticket more is drawn
  later : (drawn finished : ℕ) (opened now : Shown E S) (v : View E S) → Fits drawn finished opened now v → Fits (drawn + 1) finished opened now v
  later drawn finished opened now v h =
      record {
        ticket = λ d. let b = h.ticket d in (b.0, (let c = b.1 in omega arith));
        turn = h.turn;
        spent = h.spent;
        opened = h.opened;
        seen = h.seen;
        short = h.short;
      }

module _ {O E S : Type 0} (shows : O → Shown E S) where
  -- at most as many wait as there are parts
  pub few_wait : (opened : Shown E S) (s : State (Option O) (View E S)) → Ruled shows opened s → sum_by waits s.views ≤ 2 ^ 62
  few_wait opened s h = let a = sum_le waits (λ v. v.parts) s.views (λ i v e. one_waits v (h.each i v e).spent) in let b = h.parts in omega arith

  pub draws : (opened : Shown E S) (slots id : ℕ) (me : Me (Option O) (View E S)) → me.0.drawn ≡ false → 0 < me.0.parts
      → Allows (Ruled shows opened) slots id me 0 (λ n. (n + 1) % 2 ^ 64) (Draws shows (step slots 0 1 0 none) me)
  draws opened slots id me idle some_part s h len at fits =
      let v = me.0 in
      let t = h.drawn in
      let w = with_ticket v t in
      let mine = h.each id v at in
      let found : slice_index s.words 0 ≡ t = ap (λ (l : List ℕ). slice_index l 0) h.words in
      let not_turn : v.turn ≡ true → ⊥ = λ e. off (sym idle ∙ (mine.turn e).0) in
      let total = sum_set waits s.views id v w at in
      let none_yet : waits v ≡ 0 = no_wait v idle in
      let few = few_wait opened s h in
      let low = h.bound in
      let sum = h.waiting in
      let fits_word : t + 1 < 2 ^ 64 = omega arith in
      let next : (slice_index s.words 0 + 1) % 2 ^ 64 ≡ t + 1 = ap (λ (n : ℕ). (n + 1) % 2 ^ 64) found ∙ mod-eq_of_lt fits_word in
      let same_ticket : with_ticket v t ≡ with_ticket v (slice_index s.words 0) = ap (with_ticket v) (sym found) in (
        w,
        keeps,
        tt,
        record {
          drawn = t + 1;
          finished = h.finished;
          now = h.now;
          words = ap (λ (n : ℕ). set s.words 0 n) next ∙ ap (λ (l : List ℕ). set l 0 (t + 1)) h.words;
          waiting = omega arith;
          bound = h.bound;
          distinct = distinct_set s.views id w h.distinct (λ _ j u ne p d e. let b = ((h.each j u p).ticket d).1 in absurd (omega arith));
          each = each_set (Fits (t + 1) h.finished opened h.now) s.views id w
              (record {
                ticket = λ _. (omega arith, omega arith);
                turn = λ e. absurd (not_turn e);
                spent = λ e. absurd (omega arith);
                opened = mine.opened;
                seen = mine.seen;
                short = mine.short;
              })
              (λ i u ne p. later t h.finished opened h.now u (h.each i u p));
          parts = let a = sum_set (λ u. u.parts) s.views id v w at in let b = h.parts in omega arith;
          made = let a = sum_set (λ u. u.made) s.views id v w at in let b = h.made in omega arith;
          later = h.later;
          counted = h.counted;
          small = h.small;
          home = h.home;
          away = λ gone. turn_set s.views id v w at refl (h.away gone);
          out = λ far. h.out (turn_was s.views id v w at refl far);
        },
        (same_ticket, refl),
      )
