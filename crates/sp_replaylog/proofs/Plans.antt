-- Plans, as the log and the replay go on.
use Rattle.std.proofs.Common.{◌≡◌, ◌∙◌, ◌<◌, ◌≤◌, ◌+◌, ◌&&◌, ℕ, zero, suc, Bool, true, false, cond, List, [], ◌∷◌, ◌++◌, inl, inr, Some, refl, sym, subst, ap, arith}
use Rattle.std.specs.Prelude.{All, AllPairs, nat_le}
use Rattle.std.specs.List.{slice_get}
use Rattle.std.proofs.lemmas.Bool.{and_left, and_right, cases_lt, cond-false, le-leb, lt-leb}
use Rattle.std.proofs.lemmas.List.Elements.{All-head, All-tail}
use Rattle.std.proofs.lemmas.Option.{get_or_from_slice_get, slice_get_within}
use Rattle.sp_replaylog.specs.Plan.{plan, taken}
use Rattle.sp_replaylog.specs.declared.entry.Entry.{Entry}

module _ (takes : Entry → Bool) where
  abbrev test : ℕ → ℕ → Entry → Bool
  test first last e = nat_le first e.number && nat_le e.number last && takes e

  too_low : (first last : ℕ) (e : Entry) → e.number < first → test first last e ≡ false
  too_low first last e h = and_left (nat_le first e.number && nat_le e.number last) (takes e) (and_left (nat_le first e.number) (nat_le e.number last) (lt-leb first e.number h))

  too_high : (first last : ℕ) (e : Entry) → last < e.number → test first last e ≡ false
  too_high first last e h = and_left (nat_le first e.number && nat_le e.number last) (takes e) (and_right (nat_le first e.number) (nat_le e.number last) (lt-leb e.number last h))

  -- from a lower first, nothing else about an entry that isn't lower
  low_alike : (first other last : ℕ) (e : Entry) → first ≤ e.number → other ≤ e.number → test first last e ≡ test other last e
  low_alike first other last e h k = ap (λ (b : Bool). b && nat_le e.number last && takes e) (le-leb first e.number h ∙ sym (le-leb other e.number k))

  inside : (first last : ℕ) (e : Entry) → first ≤ e.number → e.number ≤ last → test first last e ≡ takes e
  inside first last e h k = ap (λ (b : Bool). b && nat_le e.number last && takes e) (le-leb first e.number h) ∙ ap (λ (b : Bool). b && takes e) (le-leb e.number last k)

  pub later : (first last : ℕ) (entries : List Entry) (new : Entry) → last < new.number → plan takes first last (entries ++ new ∷ []) ≡ plan takes first last entries
  later first last [] new h = cond-false _ _ _ (too_high first last new h)
  later first last (e ∷ entries) new h = ap (λ (r : List Entry). cond (test first last e) (e ∷ r) r) (later first last entries new h)

  pub earlier : (first last : ℕ) (oldest : Entry) (entries : List Entry) → oldest.number < first → plan takes first last (oldest ∷ entries) ≡ plan takes first last entries
  earlier first last oldest entries h = cond-false _ _ _ (too_low first last oldest h)

  pub none_beyond : (first last : ℕ) (entries : List Entry) → last < first → plan takes first last entries ≡ []
  none_beyond first last [] h = refl
  none_beyond first last (e ∷ entries) h =
      cond-false _ _ _ (elim (cases_lt e.number first) [
        | inl low ↦ too_low first last e low
        | inr high ↦ too_high first last e (omega (arith, h, high))
      ]) ∙ none_beyond first last entries h

  -- all entries are above the first
  above : (first last : ℕ) (entries : List Entry) → All (λ e. first < e.number) entries → plan takes first last entries ≡ plan takes (first + 1) last entries
  above first last [] all = refl
  above first last (e ∷ entries) all =
      let high = All-head (λ (x : Entry). first < x.number) e entries all in
      let same = low_alike first (first + 1) last e (omega (arith, high)) (omega (arith, high)) in
      let rest = above first last entries (All-tail (λ (x : Entry). first < x.number) e entries all) in
      λ i. cond (same i) (e ∷ rest i) (rest i)

  abbrev Below : Entry → Entry → Type 0
  Below a b = a.number < b.number

  higher : (x : Entry) (entries : List Entry) → AllPairs Below (x ∷ entries) → All (Below x) entries
  higher x entries rise k d lt = rise 0 (suc k) d (omega arith) (omega arith)

  rest_rise : (x : Entry) (entries : List Entry) → AllPairs Below (x ∷ entries) → AllPairs Below entries
  rest_rise x entries rise i j d lt le = rise (suc i) (suc j) d (omega arith) (omega arith)

  -- a plan from the number of the oldest entry on
  from_oldest : (last : ℕ) (x : Entry) (entries : List Entry) → AllPairs Below (x ∷ entries) → x.number ≤ last → plan takes x.number last (x ∷ entries) ≡ taken takes x ++ plan takes (x.number + 1) last (x ∷ entries)
  from_oldest last x entries rise h =
      let own = inside x.number last x (omega arith) h in
      let rest = above x.number last entries (higher x entries rise) in
      (λ i. cond (own i) (x ∷ rest i) (rest i)) ∙ one (takes x) ∙ ap (λ (r : List Entry). taken takes x ++ r) (sym (earlier (x.number + 1) last x entries (omega arith)))
    where
      one : (b : Bool) → cond b (x ∷ plan takes (x.number + 1) last entries) (plan takes (x.number + 1) last entries) ≡ cond b (x ∷ []) [] ++ plan takes (x.number + 1) last entries
      one true = refl
      one false = refl

  pub by_first : (last : ℕ) (entries : List Entry) (place : ℕ) (e : Entry) → AllPairs Below entries → slice_get entries place ≡ Some e → e.number ≤ last → plan takes e.number last entries ≡ taken takes e ++ plan takes (e.number + 1) last entries
  by_first last [] place e rise is h = cc
  by_first last (x ∷ entries) zero e rise is h =
      let same : x ≡ e = cc in
      subst (λ (y : Entry). plan takes y.number last (x ∷ entries) ≡ taken takes y ++ plan takes (y.number + 1) last (x ∷ entries)) same (from_oldest last x entries rise (omega (arith, h, ap (λ (y : Entry). y.number) same)))
  by_first last (x ∷ entries) (suc place) e rise is h =
      let there = ap (λ (y : Entry). y.number) (get_or_from_slice_get entries place e e is) in
      let low : x.number < e.number = omega (arith, higher x entries rise place e (slice_get_within entries place e is), there) in
      earlier e.number last x entries low
      ∙ by_first last entries place e (rest_rise x entries rise) is h
      ∙ ap (λ (r : List Entry). taken takes e ++ r) (sym (earlier (e.number + 1) last x entries (omega (arith, low))))
