-- What a flow is handed out, it is its turn to hold.
use Rattle.sp_access.specs.Activity.{flows_of, has_turn, is_active, is_first, is_owner, owner, suits}
use Rattle.sp_access.specs.Flows.{flow_numbered}
use Rattle.sp_access.specs.Flow.{FlowView}
use Rattle.sp_config.specs.Attributes.{is_exclusive, is_partitioned}
use Rattle.sp_copies.specs.History.{History, holder_in, holder_of, is_held}
use Rattle.sp_copies.specs.declared.held.HeldCopy.{HeldCopy}
use Rattle.sp_copies.specs.declared.made.MadeCopy.{MadeCopy}
use Rattle.sp_endpoint.specs.Endpoint.{EndpointView}
use Rattle.sp_endpoint.specs.Endpoints.{numbered}
use Rattle.sp_ledger.proofs.Fields.{only_found}
use Rattle.sp_ledger.proofs.Listed.{All-any, All-both, All-find, and_both, and_left, and_right, any_weaker}
use Rattle.sp_ledger.proofs.Listed.{any_found, find_passes, lesser_is_not, or_right, pairs_head, pairs_tail}
use Rattle.sp_ledger.proofs.TurnsKept.{in_of_partition}
use Rattle.sp_ledger.specs.Allowed.{HasTurn}
use Rattle.sp_ledger.specs.Ledger.{Ledger, Published, message_of}
use Rattle.sp_ledger.specs.OnFlows.{can_take, is_taken}
use Rattle.sp_ledger.specs.Sound.{IsSound}
use Rattle.sp_ledger.specs.Turns.{IsInTurn, is_in, is_in_partition}
use Rattle.std.proofs.Common.{ap, arith, refl, subst, sym, ◌∙◌}
use Rattle.std.proofs.lemmas.Bool.{eq-eqb, eqb-true}
use Rattle.std.proofs.lemmas.List.Elements.{All-cons, All-nil, All-weaker}
use Rattle.sp_selector.specs.Takes.{passes}
use Rattle.std.specs.List.{list_any}
use Rattle.std.specs.Prelude.{All, AllPairs, Bool, List, None, Option, Some, [], cond, false, find, option_and_then, option_map, true, ℕ, ◌&&◌, ◌<◌}
use Rattle.std.specs.Prelude.{◌==◌, ◌∷◌, ◌≡◌, ◌||◌}

-- where each two stand in a relation that goes both ways, each stands in it to all
pub each_to_each : {X : Type 0} (R : X → X → Type 0) → ((x : X) → R x x) → ((x y : X) → R x y → R y x) →
    (xs : List X) → AllPairs R xs → All (λ x. All (R x) xs) xs
each_to_each {X} R own turned [] pairs = All-nil (λ (x : X). All (R x) [])
each_to_each {X} R own turned (x ∷ xs) pairs =
    All-cons (λ (y : X). All (R y) (x ∷ xs)) x xs (All-cons (R x) x xs (own x) (pairs_head R x xs pairs))
    (All-weaker (λ (y : X). R x y × All (R y) xs) (λ (y : X). All (R y) (x ∷ xs))
    (λ y both. All-cons (R y) x xs (turned x y both.0) both.1) xs
    (All-both (R x) (λ (y : X). All (R y) xs) xs (pairs_head R x xs pairs)
    (each_to_each R own turned xs (pairs_tail R x xs pairs))))

-- the second is the first, where it has its key
abbrev SameKey : {X : Type 0} → (X → ℕ) → X → X → Type 0
SameKey key x y = (key y == key x) ≡ true → y ≡ x

-- where keys rise, each element is the one of its key
pub own_key : {X : Type 0} (key : X → ℕ) (xs : List X) → AllPairs (λ x y. key x < key y) xs →
    All (λ x. All (λ y. (key y == key x) ≡ true → y ≡ x) xs) xs
own_key {X} key xs rise =
    each_to_each (SameKey key) (λ x is. refl)
    (λ x y f is. sym (f (eq-eqb (key y) (key x) (sym (eqb-true _ _ is))))) xs
    (λ i j d lt below is. absurd (let less = rise i j d lt below in let same = eqb-true _ _ is in omega (arith, less, same)))

-- what is found is found by its key
pub found_by_key : {X : Type 0} (key : X → ℕ) (p : X → Bool) (xs : List X) (x : X) →
    AllPairs (λ y z. key y < key z) xs → find p xs ≡ Some x → find (λ y. key y == key x) xs ≡ Some x
found_by_key key p [] x rise found = absurd (cc)
found_by_key {X} key p (y ∷ ys) x rise found =
    one (λ k. found_by_key key p ys x (pairs_tail (λ (a b : X). key a < key b) y ys rise) k) (p y) found
  where
    one : (find p ys ≡ Some x → find (λ z. key z == key x) ys ≡ Some x) → (b : Bool) →
        cond b (Some y) (find p ys) ≡ Some x → cond (key y == key x) (Some y) (find (λ z. key z == key x) ys) ≡ Some x
    one later true k =
        let same : y ≡ x = cc in
        ap (λ b. cond b (Some y) (find (λ z. key z == key x) ys)) (eq-eqb (key y) (key x) (ap key same)) ∙ ap Some same
    one later false k =
        ap (λ b. cond b (Some y) (find (λ z. key z == key x) ys))
        (lesser_is_not (key y) (key x)
        (All-find (λ (z : X). key y < key z) p ys x (pairs_head (λ (a b : X). key a < key b) y ys rise) k))
        ∙ later k

-- a held copy's holder is found
holder_found : (held : List HeldCopy) (copy : ℕ) → is_held held copy ≡ true →
    (k : ℕ) × (holder_of held copy ≡ Some k)
holder_found [] copy is = absurd (cc)
holder_found (h ∷ hs) copy is = one (h.copy == copy) (λ k. holder_found hs copy k) is
  where
    one : (b : Bool) → (is_held hs copy ≡ true → (k : ℕ) × (holder_of hs copy ≡ Some k)) →
        (b || is_held hs copy) ≡ true →
        (k : ℕ) × (option_map (λ (x : HeldCopy). x.flow) (cond b (Some h) (find (λ (x : HeldCopy). x.copy == copy) hs)) ≡ Some k)
    one true later k = (h.flow, refl)
    one false later k = later k

-- the first that passes is found
first_found : {X : Type 0} (p : X → Bool) (xs : List X) → list_any p xs ≡ true → (x : X) × (find p xs ≡ Some x)
first_found p [] is = absurd (cc)
first_found {X} p (x ∷ xs) is = one (p x) (λ k. first_found p xs k) is
  where
    one : (b : Bool) → (list_any p xs ≡ true → (y : X) × (find p xs ≡ Some y)) → (b || list_any p xs) ≡ true →
        (y : X) × (cond b (Some x) (find p xs) ≡ Some y)
    one true later k = (x, refl)
    one false later k = later k

module _ (flows : List FlowView) (H : History) (e : EndpointView) (partition : ℕ) where
  abbrev In : HeldCopy → Bool
  In h = is_in_partition H.made e.number partition h

  abbrev Agree : HeldCopy → HeldCopy → Type 0
  Agree g h = In g ≡ true → In h ≡ true → g.flow ≡ h.flow

  abbrev test : MadeCopy → Bool
  test c = (c.endpoint == e.number) && (c.partition == partition) && is_held H.held c.number

  -- where one copy of a partition is held, its holder is that of each held copy
  pub one_holder : AllPairs Agree H.held → All (λ g. In g ≡ true → holder_in H e.number partition ≡ Some g.flow) H.held
  one_holder pairs =
      All-weaker (λ (g : HeldCopy). All (Agree g) H.held × (is_held H.held g.copy ≡ true))
      (λ (g : HeldCopy). In g ≡ true → holder_in H e.number partition ≡ Some g.flow)
      (λ g both is. by_least g both.0 both.1 is) H.held
      (All-both (λ (g : HeldCopy). All (Agree g) H.held) (λ (g : HeldCopy). is_held H.held g.copy ≡ true) H.held
      (each_to_each Agree (λ x a b. refl) (λ x y f a b. sym (f b a)) H.held pairs) (all_held H.held))
    where
      all_held : (held : List HeldCopy) → All (λ g. is_held held g.copy ≡ true) held
      all_held [] = All-nil (λ (g : HeldCopy). is_held [] g.copy ≡ true)
      all_held (h ∷ hs) =
          All-cons (λ (g : HeldCopy). is_held (h ∷ hs) g.copy ≡ true) h hs
          (ap (λ b. b || is_held hs h.copy) (eq-eqb h.copy h.copy refl))
          (All-weaker (λ (g : HeldCopy). is_held hs g.copy ≡ true) (λ (g : HeldCopy). is_held (h ∷ hs) g.copy ≡ true)
          (λ g is. or_right (h.copy == g.copy) (is_held hs g.copy) is) hs (all_held hs))

      -- the least held copy, and its holder
      by_least : (g : HeldCopy) → All (Agree g) H.held → is_held H.held g.copy ≡ true → In g ≡ true →
          holder_in H e.number partition ≡ Some g.flow
      by_least g agree held is =
          let least = first_found test H.made
          (any_weaker {X = MadeCopy} (λ c. (c.number == g.copy) && (c.endpoint == e.number) && (c.partition == partition))
          test (λ c k. as_test c g held k) H.made is) in
          let taken = find_passes test H.made least.0 least.1 in
          let holder = holder_found H.held least.0.number (and_right ((least.0.endpoint == e.number) && (least.0.partition == partition)) (is_held H.held least.0.number) taken) in
          ap (option_and_then (λ (c : MadeCopy). holder_of H.held c.number)) least.1
          ∙ (holder.1 ∙ ap Some (sym (same g agree is least.0 least.1 taken holder.0 holder.1)))
        where
          as_test : (c : MadeCopy) (g : HeldCopy) → is_held H.held g.copy ≡ true →
              ((c.number == g.copy) && (c.endpoint == e.number) && (c.partition == partition)) ≡ true → test c ≡ true
          as_test c g held k =
              let two = and_left ((c.number == g.copy) && (c.endpoint == e.number)) _ k in
              and_both ((c.endpoint == e.number) && (c.partition == partition)) _
              (and_both (c.endpoint == e.number) _ (and_right (c.number == g.copy) _ two)
              (and_right ((c.number == g.copy) && (c.endpoint == e.number)) _ k))
              (subst (λ n. is_held H.held n ≡ true) (sym (eqb-true _ _ (and_left (c.number == g.copy) _ two))) held)

          -- the least copy's holder has it, so that it agrees with all
          same : (g : HeldCopy) → All (Agree g) H.held → In g ≡ true → (c : MadeCopy) → find test H.made ≡ Some c →
              test c ≡ true → (k : ℕ) → holder_of H.held c.number ≡ Some k → g.flow ≡ k
          same g agree is c found taken k holds =
              by_holder g agree is c found taken k (find (λ (h : HeldCopy). h.copy == c.number) H.held) refl holds
            where
              by_holder : (g : HeldCopy) → All (Agree g) H.held → In g ≡ true → (c : MadeCopy) →
                  find test H.made ≡ Some c → test c ≡ true → (k : ℕ) → (o : Option HeldCopy) →
                  find (λ (h : HeldCopy). h.copy == c.number) H.held ≡ o → option_map (λ (h : HeldCopy). h.flow) o ≡ Some k →
                  g.flow ≡ k
              by_holder g agree is c found taken k None at holds = absurd (cc)
              by_holder g agree is c found taken k (Some h) at holds =
                  let copy = eqb-true _ _ (find_passes (λ (x : HeldCopy). x.copy == c.number) H.held h at) in
                  let two = and_left ((c.endpoint == e.number) && (c.partition == partition)) _ taken in
                  All-find (Agree g) (λ (x : HeldCopy). x.copy == c.number) H.held h agree at is
                  (any_found {X = MadeCopy} test
                  (λ d. (d.number == h.copy) && (d.endpoint == e.number) && (d.partition == partition)) H.made c found
                  (and_both ((c.number == h.copy) && (c.endpoint == e.number)) _
                  (and_both (c.number == h.copy) _ (eq-eqb _ _ (sym copy)) (and_left (c.endpoint == e.number) _ two))
                  (and_right (c.endpoint == e.number) _ two)))
                  ∙ cc

when_true : (b x : Bool) → b ≡ true → cond b x true ≡ true → x ≡ true
when_true true x is h = h
when_true false x is h = absurd (cc)

-- a copy of an endpoint that one of its flows may take, it is that flow's turn to hold
module _ (L : Ledger) (s : IsSound L) (f : FlowView) (e : EndpointView) (bound : flow_numbered L.flows f.number ≡ Some f)
    (there : numbered f.endpoint L.endpoints ≡ Some e) (c : MadeCopy) where
  abbrev Holder : Option ℕ
  Holder = holder_in L.copies e.number c.partition

  -- the test of turns is one of those that are asked
  asked : can_take L e f.number c ≡ true →
      has_turn e.attributes (flows_of L.flows e.number) f.number c.partition Holder ≡ true
  asked is =
      subst (λ n. has_turn e.attributes (flows_of L.flows n) f.number c.partition Holder ≡ true)
      (sym (eqb-true _ _ (find_passes (λ (x : EndpointView). x.number == f.endpoint) L.endpoints e there)))
      (one (message_of L.messages c.message) is)
    where
      one : (m : Option Published) → is_taken L.flows f.number e.attributes c.partition Holder m ≡ true →
          has_turn e.attributes (flows_of L.flows f.endpoint) f.number c.partition Holder ≡ true
      one None is = absurd (cc)
      one (Some m) is = and_right (passes f.selector m.message.properties) _
          (subst (λ o. suits L.flows e.attributes c.partition Holder m.message o ≡ true) bound is)

  pub turn_taken : can_take L e f.number c ≡ true → c.endpoint ≡ e.number →
      All (λ d. (d.number == c.number) ≡ true → d ≡ c) L.copies.made →
      All (HasTurn L (record { copy = c.number; flow = f.number })) L.endpoints
  turn_taken is here own =
      All-weaker (λ (d : EndpointView). (d.number == e.number) ≡ true → d ≡ e)
      (HasTurn L (record { copy = c.number; flow = f.number }))
      (λ d only. record {
        first = λ ex in_d. let same = only (eq-eqb _ _ (sym (in_which d.number in_d) ∙ here)) in
            subst (λ x. is_first (flows_of L.flows x.number) f.number ≡ true) (sym same)
            (active (subst (λ x. is_exclusive x.attributes.access_type ≡ true) same ex));
        alone = λ pa p in_d. let same = only (eq-eqb _ _ (sym (in_which d.number (in_of_partition L.copies.made d.number p
            (record { copy = c.number; flow = f.number }) in_d)) ∙ here)) in
            subst (λ x. All (λ g. is_in_partition L.copies.made x.number p g ≡ true → g.flow ≡ f.number) L.copies.held)
            (sym same)
            (subst (λ q. All (λ g. is_in_partition L.copies.made e.number q g ≡ true → g.flow ≡ f.number) L.copies.held)
            (in_partition d.number p in_d) (owned (subst (λ x. is_partitioned x.attributes ≡ true) same pa)));
      }) L.endpoints
      (only_found (λ x. x.number == f.endpoint) e L.endpoints s.endpoints.rise there)
    where
      in_which : (n : ℕ) → is_in L.copies.made n (record { copy = c.number; flow = f.number }) ≡ true → c.endpoint ≡ n
      in_which n k = All-any (λ (d : MadeCopy). (d.number == c.number) ≡ true → d ≡ c) (c.endpoint ≡ n)
          (λ d. (d.number == c.number) && (d.endpoint == n)) L.copies.made own
          (λ d only test. sym (ap (λ (x : MadeCopy). x.endpoint) (only (and_left (d.number == c.number) _ test)))
          ∙ eqb-true _ _ (and_right (d.number == c.number) _ test)) k

      in_partition : (n p : ℕ) → is_in_partition L.copies.made n p (record { copy = c.number; flow = f.number }) ≡ true →
          c.partition ≡ p
      in_partition n p k = All-any (λ (d : MadeCopy). (d.number == c.number) ≡ true → d ≡ c) (c.partition ≡ p)
          (λ d. (d.number == c.number) && (d.endpoint == n) && (d.partition == p)) L.copies.made own
          (λ d only test. sym (ap (λ (x : MadeCopy). x.partition)
          (only (and_left (d.number == c.number) _ (and_left ((d.number == c.number) && (d.endpoint == n)) _ test))))
          ∙ eqb-true _ _ (and_right ((d.number == c.number) && (d.endpoint == n)) _ test)) k

      active : is_exclusive e.attributes.access_type ≡ true → is_first (flows_of L.flows e.number) f.number ≡ true
      active ex = when_true (is_exclusive e.attributes.access_type) _ ex
          (and_left (is_active e.attributes (flows_of L.flows e.number) f.number) _ (asked is))

      owned : is_partitioned e.attributes ≡ true →
          All (λ g. is_in_partition L.copies.made e.number c.partition g ≡ true → g.flow ≡ f.number) L.copies.held
      owned pa =
          let t : IsInTurn L.flows L.copies e =
          All-find (IsInTurn L.flows L.copies) (λ (x : EndpointView). x.number == f.endpoint) L.endpoints e s.turns there in
          let owns = when_true (is_partitioned e.attributes) _ pa
          (and_right (is_active e.attributes (flows_of L.flows e.number) f.number) _ (asked is)) in
          All-weaker (λ (g : HeldCopy). is_in_partition L.copies.made e.number c.partition g ≡ true → Holder ≡ Some g.flow)
          (λ (g : HeldCopy). is_in_partition L.copies.made e.number c.partition g ≡ true → g.flow ≡ f.number)
          (λ g holds k. eqb-true _ _ (subst (λ o. is_owner (owner (flows_of L.flows e.number) c.partition o) f.number ≡ true)
          (holds k) owns)) L.copies.held (one_holder L.flows L.copies e c.partition (t.alone pa c.partition))
