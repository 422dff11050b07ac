-- Cutting a view in two and joining two keep the hall's rule.
use Rattle.std.proofs.Common.{◌≡◌, ℕ, ◌^◌, ◌<◌, set, Bool, true, false, refl, sym, ◌∙◌, subst, arith, Option}
use Rattle.std.specs.Prelude.{slice_index}
use Rattle.std.proofs.lemmas.List.{set-get_or}
use mathlib.Core.Option.{some, none}
use lib.ListN.{get_elem?}
use Rattle.atomic_table.specs.Table.{Me, keeps, step, Allows, Splits, Joins}
use Rattle.atomic_table.proofs.Lists.{set_else, set_again}
use Rattle.sp_hall.specs.Rule.{waits, Fits, Ruled, left_part, right_part, met, spent_view, Compares}
use Rattle.sp_hall.specs.declared.object.Shown.{Shown}
use Rattle.sp_hall.specs.declared.seat.View.{View}
use Rattle.sp_hall.proofs.Draws.{no_wait}
use Rattle.sp_hall.proofs.Later.{begins_refl, both_before, longer_begins}
use Rattle.sp_hall.proofs.Views.{off, sum_set, sum_snoc, one_le, each_set, each_snoc, distinct_set, distinct_snoc, turn_set, turn_was, turn_longer, turn_before}

module _ {O E S : Type 0} (shows : O → Shown E S) where
  pub compares : (opened : Shown E S) (slots id : ℕ) (me : Me (Option O) (View E S)) → 0 < me.0.parts → Allows (Ruled shows opened) slots id me 0 (λ n. n) (Compares (step slots 0 0 0 none) me)
  compares opened slots id me some_part s h len at fits =
      let same : record { words = set s.words 0 (slice_index s.words 0); homes = s.homes; views = set s.views id me.0 } ≡ s = λ i. record { words = set-get_or s.words 0 0 i; homes = s.homes; views = set_again s.views id me.0 at i } in
      let small : me.0.made < 2 ^ 64 =
      let a = one_le (λ u. u.made) s.views id me.0 at in
      let b = h.made in
      let c = h.small in
      omega arith in
      (me.0, keeps, tt, subst (Ruled shows opened) (sym same) h, (refl, (h.each id me.0 at).short some_part, small))

  pub splits : (opened : Shown E S) (id : ℕ) (v : View E S) → 1 < v.parts → Splits (Ruled shows opened) id v (left_part v) (right_part v)
  splits opened id v some_parts s h at =
      let w = left_part v in
      let r = right_part v in
      let mine = h.each id v at in
      let first = set s.views id w in
      let part : 0 < v.parts = omega arith in
      record {
        drawn = h.drawn;
        finished = h.finished;
        now = h.now;
        words = h.words;
        waiting = let a = sum_set waits s.views id v w at in let b = sum_snoc waits first r in let d = h.waiting in omega arith;
        bound = h.bound;
        distinct = distinct_snoc first r (distinct_set s.views id w h.distinct (λ d j u ne p dj t. ne (sym (h.distinct id j v u at p d dj t)))) refl;
        each = each_snoc (Fits h.drawn h.finished opened h.now) first r
            (each_set (Fits h.drawn h.finished opened h.now) s.views id w
            (record {
              ticket = mine.ticket;
              turn = mine.turn;
              spent = λ z. absurd (omega arith);
              opened = λ _. mine.opened part;
              seen = λ _. mine.seen part;
              short = λ _. mine.short part;
            })
            (λ i u ne p. h.each i u p))
            (record {
              ticket = λ d. absurd (off d);
              turn = λ t. absurd (off t);
              spent = λ z. absurd (omega arith);
              opened = λ _. mine.opened part;
              seen = λ _. mine.seen part;
              short = λ _. begins_refl v.seen.list;
            });
        parts = let a = sum_set (λ u. u.parts) s.views id v w at in let b = sum_snoc (λ u. u.parts) first r in let d = h.parts in omega arith;
        made = let a = sum_set (λ u. u.made) s.views id v w at in let b = sum_snoc (λ u. u.made) first r in let d = h.made in omega arith;
        later = h.later;
        counted = h.counted;
        small = h.small;
        home = h.home;
        away = λ gone. turn_longer first r (turn_set s.views id v w at refl (h.away gone));
        out = λ far. h.out (turn_was s.views id v w at refl (turn_before first r refl far));
      }

  pub joins : (opened : Shown E S) (id : ℕ) (v : View E S) (other : ℕ) (w : View E S) → v.drawn ≡ false → w.drawn ≡ false → 0 < v.parts → 0 < w.parts
      → Joins (Ruled shows opened) id v other w (met v w) spent_view
  joins opened id v other w idle idle_w some_part some_other s h at apart there_w =
      let b = met v w in
      let e : View E S = spent_view in
      let first = set s.views id b in
      let at_w : get_elem? s.views other ≡ some w = sym (set_else s.views id other b apart) ∙ there_w in
      let mine = h.each id v at in
      let theirs = h.each other w at_w in
      let still : w.turn ≡ true → ⊥ = λ t. off (sym idle_w ∙ (theirs.turn t).0) in
      let P = Fits h.drawn h.finished opened h.now in
      let joined : P b =
      record {
        ticket = λ d. absurd (off (sym idle ∙ d));
        turn = λ t. absurd (off (sym idle ∙ (mine.turn t).0));
        spent = λ z. absurd (omega arith);
        opened = λ _. mine.opened some_part;
        seen = λ _. both_before v.seen w.seen h.now (mine.seen some_part) (theirs.seen some_other);
        short = λ _. longer_begins h.now.list v.seen.list w.seen.list (mine.seen some_part).list (theirs.seen some_other).list;
      } in
      let spent : P e =
      record {
        ticket = λ d. absurd (off d);
        turn = λ t. absurd (off t);
        spent = λ _. (refl, refl);
        opened = λ z. absurd (omega arith);
        seen = λ z. absurd (omega arith);
        short = λ z. absurd (omega arith);
      } in
      let false_turn : e.turn ≡ w.turn = no_turn w.turn still in
      record {
        drawn = h.drawn;
        finished = h.finished;
        now = h.now;
        words = h.words;
        waiting =
            let x = sum_set waits s.views id v b at in
            let y = sum_set waits first other w e there_w in
            let z = no_wait w idle_w in
            let d = h.waiting in omega arith;
        bound = h.bound;
        distinct = distinct_set first other e (distinct_set s.views id b h.distinct (λ d. absurd (off (sym idle ∙ d)))) (λ d. absurd (off d));
        each = each_set P first other e spent (λ i u _ p. each_set P s.views id b joined (λ j x _ q. h.each j x q) i u p);
        parts = let x = sum_set (λ u. u.parts) s.views id v b at in let y = sum_set (λ u. u.parts) first other w e there_w in let d = h.parts in omega arith;
        made = let x = sum_set (λ u. u.made) s.views id v b at in let y = sum_set (λ u. u.made) first other w e there_w in let d = h.made in omega arith;
        later = h.later;
        counted = h.counted;
        small = h.small;
        home = h.home;
        away = λ gone. turn_set first other w e there_w false_turn (turn_set s.views id v b at refl (h.away gone));
        out = λ far. h.out (turn_was s.views id v b at refl (turn_was first other w e there_w false_turn far));
      }
    where
      no_turn : (t : Bool) → (t ≡ true → ⊥) → false ≡ t
      no_turn true n = absurd (n refl)
      no_turn false n = refl
