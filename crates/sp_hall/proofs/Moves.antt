-- Looking and finishing keep the hall's rule.
use Rattle.std.proofs.Common.{◌≡◌, ◌≢◌, ℕ, ◌+◌, ◌%◌, ◌^◌, ◌<◌, ◌≤◌, List, [], ◌∷◌, length, set, true, false, refl, sym, ap, ◌∙◌, subst, arith, Option, Some, None}
use Rattle.std.specs.Prelude.{slice_index}
use Rattle.std.proofs.Math.Nat.{mod-eq_of_lt}
use Rattle.std.proofs.lemmas.List.{set-get_or}
use mathlib.Core.Option.{Option as Slot, some, none, some-injective, some-ne-none}
use mathlib.Core.Logic.{dite}
use native.Mathlib.Decide.{ℕ_discrete}
use lib.ListN.{get_elem?}
use Rattle.atomic_table.specs.Table.{State, Me, Act, keeps, takes, gives, put_back, rest, step, stepped, Allows, Valid, carried_after}
use Rattle.atomic_table.proofs.Lists.{set_here, set_again}
use Rattle.sp_hall.specs.Rule.{waits, Fits, Ruled, IsAnyAtTurn, at_turn, after_call, Looks, Finishes}
use Rattle.sp_hall.specs.States.{IsCounted, Leads}
use Rattle.sp_hall.specs.declared.object.Shown.{Shown}
use Rattle.sp_hall.specs.declared.seat.View.{View}
use Rattle.sp_hall.proofs.Draws.{one_wait}
use Rattle.sp_hall.proofs.Later.{begins_refl, leads_refl, leads_trans}
use Rattle.sp_hall.proofs.Views.{off, there, first_of, sum_set, one_le, each_set, distinct_set}

module _ {O E S : Type 0} (shows : O → Shown E S) where
  -- the object is home where it is a waiting seat's turn
  finds : (opened : Shown E S) (slots id : ℕ) (v : View E S) (s : State (Option O) (View E S)) (h : Ruled shows opened s)
      → length s.homes ≡ 1 → get_elem? s.views id ≡ some v → v.drawn ≡ true → v.turn ≡ false → h.finished ≡ v.ticket
      → (o : O) × (get_elem? s.homes 0 ≡ some (some (Some o))) × (shows o ≡ h.now)
  finds opened slots id v s h len at drawn idle same = let p = first_of s.homes len in by_place p.0 p.1
    where
      by_place : (x : Slot (Option O)) → get_elem? s.homes 0 ≡ some x → (o : O) × (get_elem? s.homes 0 ≡ some (some (Some o))) × (shows o ≡ h.now)
      by_place none e =
          let far = h.away e in
          let turn = (h.each far.0 far.1 far.2).turn far.3 in
          let here : far.0 ≡ id = h.distinct far.0 id far.1 v far.2 at turn.0 drawn (turn.1 ∙ same) in
          let it : far.1 ≡ v = some-injective far.1 v (sym far.2 ∙ ap (get_elem? s.views) here ∙ at) in
          absurd (off (sym idle ∙ ap (λ (y : View E S). y.turn) (sym it) ∙ far.3))
      by_place (some y) e = let o = h.home y e in (o.0, e ∙ ap (λ (z : Option O). some (some z)) o.1, o.2)

  pub looks : (opened : Shown E S) (slots id : ℕ) (me : Me (Option O) (View E S)) → me.0.drawn ≡ true → me.0.turn ≡ false → 0 < me.0.parts → me.1 ≡ [] → slots ≡ 1
      → Allows (Ruled shows opened) slots id me 1 (λ n. n) (Looks shows (step slots 1 0 0 none) me)
  looks opened slots id me drawn idle some_part empty one s h len at fits = dite (ℕ_discrete (slice_index s.words 1) me.0.ticket) my_turn not_yet
    where
      Answer : Type 0
      Answer = (w : View E S) × (a : Act (Option O)) × Valid s.homes me.1 a × Ruled shows opened (stepped s 1 (slice_index s.words 1) id me.1 w a) × Looks shows (step slots 1 0 0 none) me (slice_index s.words 1) (w, carried_after me.1 a)

      not_yet : ¬ (slice_index s.words 1 ≡ me.0.ticket) → Answer
      not_yet ne =
          let same : stepped s 1 (slice_index s.words 1) id me.1 me.0 keeps ≡ s = λ i. record { words = set-get_or s.words 1 0 i; homes = s.homes; views = set_again s.views id me.0 at i } in
          (me.0, keeps, tt, subst (Ruled shows opened) (sym same) h, ((λ e. absurd (ne e)), (λ _. refl)))

      my_turn : slice_index s.words 1 ≡ me.0.ticket → Answer
      my_turn e =
          let v = me.0 in
          let mine = h.each id v at in
          let found : slice_index s.words 1 ≡ h.finished = ap (λ (l : List ℕ). slice_index l 1) h.words in
          let same : h.finished ≡ v.ticket = sym found ∙ e in
          let f = finds opened slots id v s h (len ∙ one) at drawn idle same in
          let o = f.0 in
          let w = at_turn v (shows o) in
          let gone : get_elem? (set s.homes 0 none) 0 ≡ some none = set_here s.homes 0 none (there s.homes 0 _ f.1) in
          let seen : Leads v.seen (shows o) = subst (Leads v.seen) (sym f.2) (mine.seen some_part) in
          let made : v.made ≤ (shows o).count =
          let a = one_le (λ u. u.made) s.views id v at in
          let b = h.made in
          let c : (shows o).count ≡ h.now.count = ap (λ (x : Shown E S). x.count) f.2 in
          omega arith in (
            w,
            takes 0 (Some o),
            f.1,
            record {
              drawn = h.drawn;
              finished = h.finished;
              now = h.now;
              words = set-get_or s.words 1 0 ∙ h.words;
              waiting = let a = sum_set waits s.views id v w at in let d = h.waiting in omega arith;
              bound = h.bound;
              distinct = distinct_set s.views id w h.distinct (λ d j u ne p dj t. ne (sym (h.distinct id j v u at p drawn dj t)));
              each = each_set (Fits h.drawn h.finished opened h.now) s.views id w
                  (record {
                    ticket = mine.ticket;
                    turn = λ _. (drawn, sym same, f.2);
                    spent = mine.spent;
                    opened = mine.opened;
                    seen = mine.seen;
                    short = mine.short;
                  })
                  (λ i u ne p. h.each i u p);
              parts = let a = sum_set (λ u. u.parts) s.views id v w at in let d = h.parts in omega arith;
              made = let a = sum_set (λ u. u.made) s.views id v w at in let d = h.made in omega arith;
              later = h.later;
              counted = h.counted;
              small = h.small;
              home = λ y p. absurd (some-ne-none y (some-injective (some y) none (sym p ∙ gone)));
              away = λ _. (id, w, set_here s.views id w (there s.views id v at), refl);
              out = λ _. gone;
            },
            (
              (λ _. record {
                object = o;
                carries = ap (λ c. (0, Some o) ∷ c) empty;
                view = refl;
                seen = seen;
                counted = subst IsCounted (sym f.2) h.counted;
                made = made;
              }),
              (λ ne. absurd (ne e)),
            ),
          )

  -- what is held first
  abbrev held : List (ℕ × Option O) → Option O
  held [] = None
  held (x ∷ xs) = x.1

  same_object : (o o' : O) → Some o ≡ Some o' → o ≡ o'
  same_object o o' e = cc

  finishes : (opened : Shown E S) (slots id : ℕ) (me : Me (Option O) (View E S)) (o : O) → me.0.drawn ≡ true → me.0.turn ≡ true → 0 < me.0.parts → me.0.ticket < 2 ^ 62
      → me.1 ≡ (0, Some o) ∷ [] → Leads me.0.base (shows o) → IsCounted (shows o) → (shows o).count < 2 ^ 64 → slots ≡ 1
      → Allows (Ruled shows opened) slots id me 1 (λ n. (n + 1) % 2 ^ 64) (Finishes shows (step slots 1 1 0 none) me)
  finishes opened slots id me o drawn turn some_part early carries grown counted small one s h len at fits =
      let v = me.0 in
      let mine = h.each id v at in
      let tn = mine.turn turn in
      let w = after_call v (shows o) in
      let found : slice_index s.words 1 ≡ h.finished = ap (λ (l : List ℕ). slice_index l 1) h.words in
      let low = tn.1 in
      let fits_word : h.finished + 1 < 2 ^ 64 = omega arith in
      let next : (slice_index s.words 1 + 1) % 2 ^ 64 ≡ h.finished + 1 = ap (λ (n : ℕ). (n + 1) % 2 ^ 64) found ∙ mod-eq_of_lt fits_word in
      let long : 0 < length s.homes = let l = len in omega arith in
      let back : get_elem? (put_back s.homes me.1) 0 ≡ some (some (Some o)) = ap (λ (c : List (ℕ × Option O)). get_elem? (put_back s.homes c) 0) carries ∙ set_here s.homes 0 (some (Some o)) long in
      let longer : Leads h.now (shows o) = subst (λ (x : Shown E S). Leads x (shows o)) tn.2 grown in
      let others : (i : ℕ) (u : View E S) → i ≢ id → get_elem? s.views i ≡ some u → u.drawn ≡ true → ¬ (u.ticket ≡ h.finished) = λ i u ne p d t. ne (h.distinct i id u v p at d drawn (t ∙ sym tn.1)) in
      let nobody : ¬ (IsAnyAtTurn (set s.views id w)) = λ far. each_set (λ u. u.turn ≡ true → ⊥) s.views id w
      (λ t. off t)
      (λ i u ne p t. let b = (h.each i u p).turn t in others i u ne p b.0 b.1)
      far.0 far.1 far.2 far.3 in (
        w,
        gives,
        tt,
        record {
          drawn = h.drawn;
          finished = h.finished + 1;
          now = shows o;
          words = ap (λ (n : ℕ). set s.words 1 n) next ∙ ap (λ (l : List ℕ). set l 1 (h.finished + 1)) h.words;
          waiting = let a = sum_set waits s.views id v w at in let b = one_wait v drawn in let d = h.waiting in omega arith;
          bound = omega arith;
          distinct = distinct_set s.views id w h.distinct (λ d. absurd (off d));
          each = each_set (Fits h.drawn (h.finished + 1) opened (shows o)) s.views id w
              (record {
                ticket = λ d. absurd (off d);
                turn = λ t. absurd (off t);
                spent = λ z. absurd (omega arith);
                opened = mine.opened;
                seen = λ _. leads_refl (shows o);
                short = λ _. begins_refl (shows o).list;
              })
              (λ i u ne p.
              let fit = h.each i u p in
              record {
                ticket = λ d. let b = fit.ticket d in let low' = b.0 in let apart = others i u ne p d in (omega arith, b.1);
                turn = λ t. let b = fit.turn t in absurd (others i u ne p b.0 b.1);
                spent = fit.spent;
                opened = fit.opened;
                seen = λ z. leads_trans u.seen h.now (shows o) (fit.seen z) longer;
                short = fit.short;
              });
          parts = let a = sum_set (λ u. u.parts) s.views id v w at in let d = h.parts in omega arith;
          made =
              let a = sum_set (λ u. u.made) s.views id v w at in
              let d = h.made in
              let b : v.base.count ≡ h.now.count = ap (λ (x : Shown E S). x.count) tn.2 in
              let up = longer.count in
              omega arith;
          later = leads_trans opened h.now (shows o) h.later longer;
          counted = counted;
          small = small;
          home = λ y p. (o, some-injective y (Some o) (some-injective (some y) (some (Some o)) (sym p ∙ back)), refl);
          away = λ p. absurd (some-ne-none (Some o) (some-injective (some (Some o)) none (sym back ∙ p)));
          out = λ far. absurd (nobody far);
        },
        λ o' e'. let q = same_object o o' (ap held (sym carries ∙ e')) in (ap (λ x. after_call v (shows x)) q, ap rest carries),
      )

  -- the same of a seat that has put the object into the slot
  pub finishes_put : (opened : Shown E S) (slots id : ℕ) (me put : Me (Option O) (View E S)) (o : O) → me.0.drawn ≡ true → me.0.turn ≡ true → 0 < me.0.parts → me.0.ticket < 2 ^ 62
      → me.1 ≡ (0, None) ∷ [] → put ≡ (me.0, (0, Some o) ∷ rest me.1) → Leads me.0.base (shows o) → IsCounted (shows o) → (shows o).count < 2 ^ 64 → slots ≡ 1
      → Allows (Ruled shows opened) slots id put 1 (λ n. (n + 1) % 2 ^ 64) (Finishes shows (step slots 1 1 0 none) put)
  finishes_put opened slots id me put o drawn turn some_part early empty is grown counted small one =
      let full : Me (Option O) (View E S) = (me.0, (0, Some o) ∷ []) in
      let same : put ≡ full = is ∙ ap (λ (c : List (ℕ × Option O)). (me.0, (0, Some o) ∷ rest c)) empty in
      subst (λ (m : Me (Option O) (View E S)). Allows (Ruled shows opened) slots id m 1 (λ n. (n + 1) % 2 ^ 64) (Finishes shows (step slots 1 1 0 none) m)) (sym same)
      (finishes opened slots id full o drawn turn some_part early refl grown counted small one)
