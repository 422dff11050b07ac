-- The hall as it is made, and as it is closed.
use Rattle.std.proofs.Common.{◌≡◌, ◌≢◌, ℕ, ◌^◌, ◌<◌, List, [], ◌∷◌, length, set, false, refl, sym, ap, ◌∙◌, subst, arith, Option, Some, sum_by}
use mathlib.Core.Logic.{dite}
use mathlib.Core.Option.{Option as Slot, some, none, some-injective, some-ne-none}
use native.Mathlib.Decide.{ℕ_discrete}
use lib.ListN.{get_elem?}
use Rattle.atomic_table.specs.Table.{State, opening, Final, Seen}
use Rattle.atomic_table.proofs.Lists.{set_else}
use Rattle.sp_hall.specs.Seats.{IsLast}
use Rattle.sp_hall.specs.Rule.{Fits, Ruled, opening_view, spent_view}
use Rattle.sp_hall.specs.States.{Leads, IsCounted}
use Rattle.sp_hall.specs.declared.object.Shown.{Shown}
use Rattle.sp_hall.specs.declared.seat.View.{View}
use Rattle.sp_hall.proofs.Later.{begins_refl, leads_refl}
use Rattle.sp_hall.proofs.Views.{off, single, sum_set, sum_zero, one_le, each_set}

module _ {O E S : Type 0} (shows : O → Shown E S) where
  pub opens : (o : O) → IsCounted (shows o) → (shows o).count < 2 ^ 64 → Ruled shows (shows o) (opening (0 ∷ 0 ∷ []) (Some o ∷ []) (opening_view (shows o)))
  opens o counted small =
      let v = opening_view (shows o) in
      record {
        drawn = 0;
        finished = 0;
        now = shows o;
        words = refl;
        waiting = refl;
        bound = omega arith;
        distinct = λ i j u x ei ej di dj t. absurd (off (ap (λ (y : View E S). y.drawn) (single v u i ei) ∙ di));
        each = λ i u e. subst (Fits 0 0 (shows o) (shows o)) (single v u i e) (record {
          ticket = λ d. absurd (off d);
          turn = λ t. absurd (off t);
          spent = λ z. absurd (omega arith);
          opened = λ _. refl;
          seen = λ _. leads_refl (shows o);
          short = λ _. begins_refl (shows o).list;
        });
        parts = refl;
        made = omega arith;
        later = leads_refl (shows o);
        counted = counted;
        small = small;
        home = λ y p. (o, sym (some-injective (Some o) y (some-injective (some (Some o)) (some y) p)), refl);
        away = λ p. absurd (some-ne-none (Some o) (some-injective (some (Some o)) none p));
        out = λ far. absurd (off (ap (λ (y : View E S). y.turn) (single v far.1 far.0 far.2) ∙ far.3));
      }

  has_one : (l : List (Slot (Option O))) → length l ≡ 1 → ¬ (get_elem? l 0 ≡ none)
  has_one [] e none_there = omega arith
  has_one (x ∷ xs) e none_there = some-ne-none x none_there

  -- the slot has the object as it is in the end
  pub record HasLast (opened : Shown E S) (v : View E S) (y : Option O) : Type 0 where
    pub object : O
    pub is : y ≡ Some object
    pub last : IsLast opened v (shows object)

  pub closes : (opened : Shown E S) (id : ℕ) (v : View E S) (ws : List ℕ) (xs : List (Option O)) → length xs ≡ 1 → v.parts ≡ 2 ^ 62 → v.drawn ≡ false
      → Final (Seen (Ruled shows opened) id v) ws xs → (y : Option O) → get_elem? xs 0 ≡ some y → HasLast opened v y
  closes opened id v ws xs one all idle final y there_y = by_home (get_elem? s.homes 0) refl
    where
      s : State (Option O) (View E S)
      s = final.0

      h : Ruled shows opened s
      h = final.1.0

      at : get_elem? s.views id ≡ some v
      at = final.1.1

      e : View E S
      e = spent_view

      alone : (i : ℕ) (u : View E S) → i ≢ id → get_elem? s.views i ≡ some u → u.parts ≡ 0
      alone i u ne p =
          let a = sum_set (λ x. x.parts) s.views id v e at in
          let b = one_le (λ x. x.parts) (set s.views id e) i u (set_else s.views id i e ne ∙ p) in
          let c = h.parts in
          omega arith

      rest_made : sum_by (λ x. x.made) (set s.views id e) ≡ 0
      rest_made = sum_zero (λ x. x.made) (set s.views id e) (each_set (λ x. x.made ≡ 0) s.views id e refl (λ i u ne p. ((h.each i u p).spent (alone i u ne p)).1))

      by_home : (x : Slot (Slot (Option O))) → get_elem? s.homes 0 ≡ x → HasLast opened v y
      by_home none p = absurd (has_one s.homes (final.3 ∙ one) p)
      by_home (some none) p =
          let far = h.away p in
          let drawn = ((h.each far.0 far.1 far.2).turn far.3).0 in
          absurd (dite (ℕ_discrete far.0 id)
          (λ (q : far.0 ≡ id). off (sym idle ∙ ap (λ (x : View E S). x.drawn) (some-injective v far.1 (sym at ∙ ap (get_elem? s.views) (sym q) ∙ far.2)) ∙ drawn))
          (λ (ne : far.0 ≢ id). off (sym (((h.each far.0 far.1 far.2).spent (alone far.0 far.1 ne far.2)).0) ∙ drawn)))
      by_home (some (some z)) p =
          let o = h.home z p in
          let mine = h.each id v at in
          let part : 0 < v.parts = omega arith in
          let a = sum_set (λ x. x.made) s.views id v e at in
          let b = rest_made in
          let c = h.made in
          let d : (shows o.0).count ≡ h.now.count = ap (λ (x : Shown E S). x.count) o.2 in
          record {
            object = o.0;
            is = some-injective y z (sym there_y ∙ final.4 0 z p) ∙ o.1;
            last = record {
              seen = subst (Leads v.seen) (sym o.2) (mine.seen part);
              count = omega arith;
              later = subst (Leads opened) (sym o.2) h.later;
              counted = subst IsCounted (sym o.2) h.counted;
            };
          }

  -- the same of the object that is taken out of it
  pub last_of : (opened : Shown E S) (v : View E S) (y : Option O) (o : O) → y ≡ Some o → HasLast opened v y → IsLast opened v (shows o)
  last_of opened v y o is w =
      let same : w.object ≡ o = let a = w.is in cc in
      subst (λ (x : O). IsLast opened v (shows x)) same w.last
