-- What a flow is handed out is free, and of its endpoint.
use Rattle.sp_copies.proofs.Marks.{eqb-turned}
use Rattle.sp_copies.specs.History.{History, has_come, is_free, is_held, is_made, is_open_in, is_spooled, open_copies}
use Rattle.sp_copies.specs.History.{waiting_copies, with_held}
use Rattle.sp_copies.specs.Sound.{IsSoundHistory}
use Rattle.sp_copies.specs.declared.held.HeldCopy.{HeldCopy}
use Rattle.sp_copies.specs.declared.made.MadeCopy.{MadeCopy}
use Rattle.sp_endpoint.specs.Endpoint.{EndpointView}
use Rattle.sp_ledger.proofs.Listed.{All-both, All-kept, and_both, and_left, and_right, any_self, lesser_is_not}
use Rattle.sp_ledger.proofs.Listed.{pairs_take}
use Rattle.sp_ledger.specs.Ledger.{Ledger}
use Rattle.sp_ledger.specs.OnFlows.{can_take, pulled, reach}
use Rattle.std.proofs.Common.{ap, refl, ◌∙◌}
use Rattle.std.proofs.lemmas.Bool.{eq-eqb, eqb-true}
use Rattle.std.proofs.lemmas.List.Elements.{All-filter, All-take, All-weaker}
use Rattle.std.proofs.lemmas.List.Folds.{list_any-append, list_any_none}
use Rattle.std.proofs.lemmas.List.Kept.{AllPairs-filter}
use Rattle.std.specs.List.{list_any}
use Rattle.std.specs.Prelude.{All, AllPairs, Bool, IsTrue, List, [], false, not, true, ℕ, ◌&&◌, ◌++◌, ◌<◌, ◌==◌, ◌||◌}
use Rattle.std.specs.Prelude.{◌∷◌, ◌≡◌}

-- what waits is free, and was made in the endpoint
module _ (H : History) (e moment : ℕ) where
  abbrev pub waits : MadeCopy → Bool
  waits c = not (is_held H.held c.number) && not (has_come c.deadline moment)

  -- what holds of each copy that was made holds of each that waits, with its tests
  pub waiting : (P : MadeCopy → Type 0) → All P H.made →
      All (λ c. (P c × IsTrue (is_open_in H.closed e c)) × IsTrue (waits c)) (waiting_copies H e moment)
  waiting P all =
      All-both (λ (c : MadeCopy). P c × IsTrue (is_open_in H.closed e c)) (λ (c : MadeCopy). IsTrue (waits c))
      (waiting_copies H e moment)
      (All-filter waits (λ (c : MadeCopy). P c × IsTrue (is_open_in H.closed e c)) (open_copies H e)
      (All-both P (λ (c : MadeCopy). IsTrue (is_open_in H.closed e c)) (open_copies H e)
      (All-filter (is_open_in H.closed e) P H.made all) (All-kept (is_open_in H.closed e) H.made)))
      (All-kept waits (open_copies H e))

  abbrev pub in_endpoint : MadeCopy → MadeCopy → Bool
  in_endpoint c d = (d.number == c.number) && (d.endpoint == e)

  pub waiting_free : All (λ c. is_free H c.number ≡ true) (waiting_copies H e moment)
  waiting_free =
      All-weaker (λ (c : MadeCopy).
      ((((c.number == c.number) ≡ true → is_made H.made c.number ≡ true)) × IsTrue (is_open_in H.closed e c))
      × IsTrue (waits c)) (λ (c : MadeCopy). is_free H c.number ≡ true)
      (λ c h.
      let made = h.0.0 (eq-eqb c.number c.number refl) in
      let spooled = and_right (c.endpoint == e) _ h.0.1 in
      and_both (is_spooled H c.number) _ (and_both (is_made H.made c.number) _ made spooled)
      (and_left (not (is_held H.held c.number)) _ h.1))
      (waiting_copies H e moment)
      (waiting (λ (c : MadeCopy). (c.number == c.number) ≡ true → is_made H.made c.number ≡ true)
      (any_self {X = MadeCopy} (λ c d. d.number == c.number) H.made))

  pub waiting_in : All (λ c. list_any (in_endpoint c) H.made ≡ true) (waiting_copies H e moment)
  waiting_in =
      All-weaker (λ (c : MadeCopy).
      ((in_endpoint c c ≡ true → list_any (in_endpoint c) H.made ≡ true) × IsTrue (is_open_in H.closed e c))
      × IsTrue (waits c)) (λ (c : MadeCopy). list_any (in_endpoint c) H.made ≡ true)
      (λ c h. h.0.0 (and_both (c.number == c.number) _ (eq-eqb c.number c.number refl)
      (and_left (c.endpoint == e) _ h.0.1)))
      (waiting_copies H e moment)
      (waiting (λ (c : MadeCopy). in_endpoint c c ≡ true → list_any (in_endpoint c) H.made ≡ true)
      (any_self {X = MadeCopy} in_endpoint H.made))

-- what is pulled is free, was made in the endpoint, rises, and may be taken
module _ (L : Ledger) (e : EndpointView) (flow count : ℕ) where
  -- what holds of each copy that waits
  among : (P : MadeCopy → Type 0) → All P (waiting_copies L.copies e.number L.now) → All P (pulled L e flow count)
  among P all = All-take P _ (reach L e flow)
      (All-filter (can_take L e flow) P (waiting_copies L.copies e.number L.now) all)

  pub pulled_free : All (λ c. is_free L.copies c.number ≡ true) (pulled L e flow count)
  pulled_free = among (λ (c : MadeCopy). is_free L.copies c.number ≡ true) (waiting_free L.copies e.number L.now)

  pub pulled_in : All (λ c. list_any (in_endpoint L.copies e.number L.now c) L.copies.made ≡ true) (pulled L e flow count)
  pulled_in = among (λ (c : MadeCopy). list_any (in_endpoint L.copies e.number L.now c) L.copies.made ≡ true)
      (waiting_in L.copies e.number L.now)

  -- with what holds of each copy that was made
  pub pulled_made : (P : MadeCopy → Type 0) → All P L.copies.made →
      All (λ c. P c × (c.endpoint ≡ e.number)) (pulled L e flow count)
  pulled_made P all = among (λ (c : MadeCopy). P c × (c.endpoint ≡ e.number))
      (All-weaker (λ (c : MadeCopy).
      (P c × IsTrue (is_open_in L.copies.closed e.number c)) × IsTrue (waits L.copies e.number L.now c))
      (λ (c : MadeCopy). P c × (c.endpoint ≡ e.number))
      (λ c h. (h.0.0, eqb-true _ _ (and_left (c.endpoint == e.number) _ h.0.1)))
      (waiting_copies L.copies e.number L.now) (waiting L.copies e.number L.now P all))

  pub pulled_taken : All (λ c. can_take L e flow c ≡ true) (pulled L e flow count)
  pulled_taken = All-take (λ (c : MadeCopy). can_take L e flow c ≡ true) _ (reach L e flow)
      (All-kept (can_take L e flow) (waiting_copies L.copies e.number L.now))

  pub reach_rises : IsSoundHistory L.copies → AllPairs (λ c d. c.number < d.number) (reach L e flow)
  reach_rises s =
      AllPairs-filter (λ (c d : MadeCopy). c.number < d.number) (can_take L e flow) _
      (AllPairs-filter (λ (c d : MadeCopy). c.number < d.number) _ _
      (AllPairs-filter (λ (c d : MadeCopy). c.number < d.number) (is_open_in L.copies.closed e.number)
      L.copies.made s.rise))

  pub pulled_rise : IsSoundHistory L.copies → AllPairs (λ c d. c.number < d.number) (pulled L e flow count)
  pulled_rise s = pairs_take (λ (c d : MadeCopy). c.number < d.number) _ (reach L e flow) (reach_rises s)

-- a copy stays free where a lesser one is handed out
pub still_free : (H : History) (flow c d : ℕ) → c < d → is_free H d ≡ true → is_free (with_held c flow H) d ≡ true
still_free H flow c d lt h = and_both (is_spooled H d) _ (and_left (is_spooled H d) _ h) (ap not unheld)
  where
    held_still : is_held H.held d ≡ false → is_held (H.held ++ record { copy = c; flow = flow } ∷ []) d ≡ false
    held_still no_one = list_any-append {X = HeldCopy} (λ x. x.copy == d) H.held
        (record { copy = c; flow = flow } ∷ [])
        ∙ (ap (λ b. b || ((c == d) || false)) no_one ∙ ap (λ b. b || false) (lesser_is_not c d lt))

    unheld : is_held (H.held ++ record { copy = c; flow = flow } ∷ []) d ≡ false
    unheld = held_still (one (is_held H.held d) refl)
      where
        one : (b : Bool) → is_held H.held d ≡ b → is_held H.held d ≡ false
        one false is = is
        one true is = absurd (let unheld : not (is_held H.held d) ≡ true = and_right (is_spooled H d) _ h in cc)

-- none of greater numbers is this one
pub none_greater : (k : ℕ) (cs : List MadeCopy) → All (λ c. k < c.number) cs → list_any (λ c. c.number == k) cs ≡ false
none_greater k cs all =
    list_any_none {X = MadeCopy} (λ c. c.number == k) cs
    (All-weaker (λ (c : MadeCopy). k < c.number) (λ (c : MadeCopy). (c.number == k) ≡ false)
    (λ c lt. eqb-turned c.number k ∙ lesser_is_not k c.number lt) cs all)
