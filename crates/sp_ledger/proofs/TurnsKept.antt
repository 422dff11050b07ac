-- Each change of a ledger leaves its endpoints in turn.
use Rattle.sp_access.specs.Activity.{flows_of, is_first}
use Rattle.sp_access.specs.Flows.{without_flow}
use Rattle.sp_access.specs.Flow.{FlowView}
use Rattle.sp_config.specs.Attributes.{AttributesView, is_exclusive, is_partitioned}
use Rattle.sp_copies.specs.Counts.{spooled_count}
use Rattle.sp_copies.specs.History.{History, all_shared, is_closed, is_made, is_spooled, let_go, numbered, with_made}
use Rattle.sp_copies.specs.History.{with_closed, with_held, with_share}
use Rattle.sp_copies.specs.Sound.{IsSoundHistory}
use Rattle.sp_copies.specs.declared.closed.Cause.TheVariants.{NotSpooled}
use Rattle.sp_copies.specs.declared.closed.Closing.TheVariants as closings
use Rattle.sp_copies.specs.declared.held.HeldCopy.{HeldCopy}
use Rattle.sp_copies.specs.declared.made.MadeCopy.{MadeCopy}
use Rattle.sp_copies.specs.declared.made.NewCopy.{NewCopy}
use Rattle.sp_copies.specs.declared.made.Share.{Share}
use Rattle.sp_endpoint.specs.Endpoint.{EndpointView}
use Rattle.sp_endpoint.specs.Endpoints.{replaced}
use Rattle.sp_ledger.proofs.Listed.{All-any, All-both, and_both, and_left, and_right, any_weaker, lesser_is_not}
use Rattle.sp_ledger.proofs.Listed.{none_counted, not_false}
use Rattle.sp_ledger.specs.Allowed.{HasTurn, MayBecome}
use Rattle.sp_ledger.specs.Ledger.{Ledger}
use Rattle.sp_ledger.specs.OnEndpoints.{differ, shares_otherwise}
use Rattle.sp_ledger.specs.Sound.{IsSound}
use Rattle.sp_ledger.specs.Turns.{IsInTurn, is_in, is_in_partition}
use Rattle.std.proofs.Common.{ap, arith, get_or, refl, subst, sym, ◌∙◌}
use Rattle.std.proofs.lemmas.Bool.{eqb-true}
use Rattle.std.proofs.lemmas.List.Elements.{All-filter, All-map, All-push, All-weaker, filter-append}
use Rattle.std.proofs.lemmas.List.Folds.{list_any-append, list_any_none}
use Rattle.std.proofs.lemmas.List.Kept.{AllPairs-filter}
use Rattle.std.proofs.lemmas.List.Quantifiers.{all_pairs_push}
use Rattle.std.specs.List.{list_any}
use Rattle.std.specs.Prelude.{All, AllPairs, Bool, IsTrue, List, Some, [], cond, false, nat_lt, not, true, ℕ, ◌&&◌}
use Rattle.std.specs.Prelude.{◌++◌, ◌+◌, ◌<◌, ◌==◌, ◌||◌, ◌∷◌, ◌≡◌}

-- a relation of each two, by what holds of each
pub pairs_weaker : {X : Type 0} (P : X → Type 0) (R S : X → X → Type 0) → ((x y : X) → P x → P y → R x y → S x y) →
    (xs : List X) → All P xs → AllPairs R xs → AllPairs S xs
pairs_weaker P R S f xs all pairs i j d lt below =
    f _ _ (all i d (omega (arith, lt, below))) (all j d below) (pairs i j d lt below)

abbrev pub HeldBelow : History → Type 0
HeldBelow H = All (λ h. h.copy < H.next) H.held

-- held copies have been made, so that their numbers are below the next one
pub held_below : (H : History) → IsSoundHistory H → HeldBelow H
held_below H s =
    All-weaker (λ (h : HeldCopy). IsTrue (is_spooled H h.copy)) (λ (h : HeldCopy). h.copy < H.next)
    (λ h is. All-any (λ (c : MadeCopy). c.number < H.next) (h.copy < H.next) (λ c. c.number == h.copy) H.made s.below
    (λ c lt here. subst (λ n. n < H.next) (eqb-true _ _ here) lt) (and_left (is_made H.made h.copy) _ is))
    H.held s.held_spooled

-- a copy that is made later isn't among the held ones
module _ (made : List MadeCopy) (c : MadeCopy) (h : HeldCopy) (lt : h.copy < c.number) where
  other : (c.number == h.copy) ≡ false
  other = one (c.number == h.copy) refl
    where
      one : (b : Bool) → (c.number == h.copy) ≡ b → (c.number == h.copy) ≡ false
      one false is = is
      one true is = absurd (let same = eqb-true c.number h.copy is in omega (arith, lt, same))

  -- the tests of copies that ask for the held one
  older : (q : MadeCopy → Bool) → list_any (λ d. (d.number == h.copy) && q d) (made ++ c ∷ []) ≡ true →
      list_any (λ d. (d.number == h.copy) && q d) made ≡ true
  older q is =
      one (list_any (λ d. (d.number == h.copy) && q d) made) refl
      (sym (list_any-append (λ (d : MadeCopy). (d.number == h.copy) && q d) made (c ∷ [])) ∙ is)
    where
      one : (b : Bool) → list_any (λ d. (d.number == h.copy) && q d) made ≡ b →
          (list_any (λ d. (d.number == h.copy) && q d) made || (((c.number == h.copy) && q c) || false)) ≡ true →
          list_any (λ d. (d.number == h.copy) && q d) made ≡ true
      one true found any = found
      one false none any =
          absurd (let no_one : false ≡ true = sym (ap (λ b. b || (((c.number == h.copy) && q c) || false)) none
          ∙ ap (λ b. (b && q c) || false) other) ∙ any in cc)

  pub in_older : (endpoint : ℕ) → is_in (made ++ c ∷ []) endpoint h ≡ true → is_in made endpoint h ≡ true
  in_older endpoint is = older (λ d. d.endpoint == endpoint) is

  pub partition_older : (endpoint partition : ℕ) → is_in_partition (made ++ c ∷ []) endpoint partition h ≡ true →
      is_in_partition made endpoint partition h ≡ true
  partition_older endpoint partition is =
      back made (older (λ d. (d.endpoint == endpoint) && (d.partition == partition)) (forth (made ++ c ∷ []) is))
    where
      turned : (a b d : Bool) → (a && b && d) ≡ true → (a && (b && d)) ≡ true
      turned true b d is = is
      turned false b d is = is

      forth : (made : List MadeCopy) → is_in_partition made endpoint partition h ≡ true →
          list_any (λ d. (d.number == h.copy) && ((d.endpoint == endpoint) && (d.partition == partition))) made ≡ true
      forth made is = any_weaker {X = MadeCopy} _ _
          (λ d k. turned (d.number == h.copy) (d.endpoint == endpoint) (d.partition == partition) k) made is

      re_turned : (a b d : Bool) → (a && (b && d)) ≡ true → (a && b && d) ≡ true
      re_turned true b d is = is
      re_turned false b d is = is

      back : (made : List MadeCopy) →
          list_any (λ d. (d.number == h.copy) && ((d.endpoint == endpoint) && (d.partition == partition))) made ≡ true →
          is_in_partition made endpoint partition h ≡ true
      back made is = any_weaker {X = MadeCopy} _ _
          (λ d k. re_turned (d.number == h.copy) (d.endpoint == endpoint) (d.partition == partition) k) made is

-- a copy of a partition is one of the endpoint
pub in_of_partition : (made : List MadeCopy) (endpoint partition : ℕ) (h : HeldCopy) →
    is_in_partition made endpoint partition h ≡ true → is_in made endpoint h ≡ true
in_of_partition made endpoint partition h is =
    any_weaker {X = MadeCopy} (λ c. (c.number == h.copy) && (c.endpoint == endpoint) && (c.partition == partition))
    (λ c. (c.number == h.copy) && (c.endpoint == endpoint))
    (λ c k. and_left ((c.number == h.copy) && (c.endpoint == endpoint)) _ k) made is

module _ (flows : List FlowView) (e : EndpointView) where
  abbrev First : List MadeCopy → HeldCopy → Type 0
  First made h = is_in made e.number h ≡ true → is_first (flows_of flows e.number) h.flow ≡ true

  abbrev Alone : List MadeCopy → ℕ → HeldCopy → HeldCopy → Type 0
  Alone made partition g h =
      is_in_partition made e.number partition g ≡ true → is_in_partition made e.number partition h ≡ true →
      g.flow ≡ h.flow

  -- some are held no more
  pub turn_let_go : (H K : History) (copy : ℕ) → K.made ≡ H.made → K.held ≡ let_go copy H.held →
      IsInTurn flows H e → IsInTurn flows K e
  turn_let_go H K copy same less t = record {
    first = λ ex. subst (λ m. All (First m) K.held) (sym same)
        (subst (All (First H.made)) (sym less) (All-filter (λ h. not (h.copy == copy)) (First H.made) H.held (t.first ex)));
    alone = λ pa p. subst (λ m. AllPairs (Alone m p) K.held) (sym same)
        (subst (AllPairs (Alone H.made p)) (sym less)
        (AllPairs-filter (Alone H.made p) (λ h. not (h.copy == copy)) H.held (t.alone pa p)));
  }

  -- a copy is made
  pub turn_made : (c : NewCopy) (H : History) → HeldBelow H → IsInTurn flows H e → IsInTurn flows (with_made c H) e
  turn_made c H below t =
      let new = numbered H.next c in
      record {
        first = λ ex. All-weaker (λ (h : HeldCopy). (h.copy < H.next) × First H.made h) (First (H.made ++ new ∷ []))
            (λ h both is. both.1 (in_older H.made new h both.0 e.number is)) H.held
            (All-both (λ (h : HeldCopy). h.copy < H.next) (First H.made) H.held below (t.first ex));
        alone = λ pa p. pairs_weaker (λ (h : HeldCopy). h.copy < H.next) (Alone H.made p) (Alone (H.made ++ new ∷ []) p)
            (λ g h lg lh same ig ih. same (partition_older H.made new g lg e.number p ig)
            (partition_older H.made new h lh e.number p ih)) H.held below (t.alone pa p);
      }

  -- none of its copies is held
  pub turn_unused : (H : History) → All (λ h. is_in H.made e.number h ≡ false) H.held → IsInTurn flows H e
  turn_unused H none = record {
    first = λ ex. All-weaker (λ (h : HeldCopy). is_in H.made e.number h ≡ false) (First H.made)
        (λ h not is. absurd (let no_one : false ≡ true = sym not ∙ is in cc)) H.held none;
    alone = λ pa p i j d lt below ig ih. absurd (let no_one : false ≡ true = sym (none j d below)
        ∙ in_of_partition H.made e.number p (get_or H.held j d) ih in cc);
  }

  -- a free copy is held by a flow whose turn it is
  pub turn_held : (L : Ledger) (copy flow : ℕ) → HasTurn L (record { copy = copy; flow = flow }) e → L.flows ≡ flows →
      IsInTurn flows L.copies e → IsInTurn flows (with_held copy flow L.copies) e
  turn_held L copy flow may same t =
      let new : HeldCopy = record { copy = copy; flow = flow } in
      record {
        first = λ ex. All-push (First L.copies.made) L.copies.held new (t.first ex)
            (λ is. subst (λ fs. is_first (flows_of fs e.number) flow ≡ true) same (may.first ex is));
        alone = λ pa p. all_pairs_push (Alone L.copies.made p) L.copies.held new (t.alone pa p)
            (λ k d below ig inew. may.alone pa p inew k d below ig);
      }

  -- copies are made, of which some close at once
  pub turn_shared : (moment : ℕ) (shares : List Share) (H : History) → HeldBelow H → IsInTurn flows H e →
      IsInTurn flows (all_shared moment shares H) e
  turn_shared moment [] H below t = t
  turn_shared moment (s ∷ ss) H below t =
      turn_shared moment ss (with_share moment s H) (still_below s.is_spooled) (one s.is_spooled)
    where
      more : All (λ h. h.copy < H.next + 1) H.held
      more = All-weaker (λ (h : HeldCopy). h.copy < H.next) (λ (h : HeldCopy). h.copy < H.next + 1)
          (λ h lt. omega (arith, lt)) H.held below

      still_below : (b : Bool) → HeldBelow (cond b (with_made s.copy H)
          (with_closed H.next (closings.Discarded NotSpooled) moment (with_made s.copy H)))
      still_below true = more
      still_below false = All-filter (λ (h : HeldCopy). not (h.copy == H.next)) (λ (h : HeldCopy). h.copy < H.next + 1)
          H.held more

      one : (b : Bool) → IsInTurn flows (cond b (with_made s.copy H)
          (with_closed H.next (closings.Discarded NotSpooled) moment (with_made s.copy H))) e
      one true = turn_made s.copy H below t
      one false = turn_let_go (with_made s.copy H)
          (with_closed H.next (closings.Discarded NotSpooled) moment (with_made s.copy H)) H.next refl refl
          (turn_made s.copy H below t)

-- the first of some flows is the first of more, and stays the first where another goes
first_of_more : (fs gs : List FlowView) (n : ℕ) → is_first fs n ≡ true → is_first (fs ++ gs) n ≡ true
first_of_more [] gs n is = absurd (cc)
first_of_more (f ∷ fs) gs n is = is

still_first : (fs : List FlowView) (endpoint flow n : ℕ) → (n == flow) ≡ false →
    is_first (flows_of fs endpoint) n ≡ true → is_first (flows_of (without_flow flow fs) endpoint) n ≡ true
still_first [] endpoint flow n stays is = is
still_first (f ∷ fs) endpoint flow n stays is =
    one (λ first. still_first fs endpoint flow n stays first) (f.endpoint == endpoint) (f.number == flow) refl refl is
  where
    one : (is_first (flows_of fs endpoint) n ≡ true → is_first (flows_of (without_flow flow fs) endpoint) n ≡ true) →
        (here gone : Bool) → (f.endpoint == endpoint) ≡ here → (f.number == flow) ≡ gone →
        is_first (cond here (f ∷ flows_of fs endpoint) (flows_of fs endpoint)) n ≡ true →
        is_first (flows_of (cond (not gone) (f ∷ without_flow flow fs) (without_flow flow fs)) endpoint) n ≡ true
    one later true false h g first = subst (λ b. is_first (cond b (f ∷ flows_of (without_flow flow fs) endpoint)
        (flows_of (without_flow flow fs) endpoint)) n ≡ true) (sym h) first
    one later true true h g first =
        absurd (let same : f.number ≡ n = eqb-true f.number n first in
        let not_gone : (f.number == flow) ≡ false = subst (λ k. (k == flow) ≡ false) (sym same) stays in
        let no_one : true ≡ false = sym g ∙ not_gone in cc)
    one later false false h g first = subst (λ b. is_first (cond b (f ∷ flows_of (without_flow flow fs) endpoint)
        (flows_of (without_flow flow fs) endpoint)) n ≡ true) (sym h) (later first)
    one later false true h g first = later first

-- a flow is bound, or one goes that holds nothing
pub turn_bound : (flows : List FlowView) (f : FlowView) (H : History) (e : EndpointView) → IsInTurn flows H e →
    IsInTurn (flows ++ f ∷ []) H e
turn_bound flows f H e t = record {
  first = λ ex. All-weaker (First flows e H.made) (First (flows ++ f ∷ []) e H.made)
      (λ h was is. subst (λ fs. is_first fs h.flow ≡ true)
      (sym (filter-append {X = FlowView} (λ g. g.endpoint == e.number) flows (f ∷ [])))
      (first_of_more (flows_of flows e.number) (flows_of (f ∷ []) e.number) h.flow (was is))) H.held (t.first ex);
  alone = t.alone;
}

pub turn_unbound : (flows : List FlowView) (flow : ℕ) (H : History) (e : EndpointView) →
    All (λ h. (h.flow == flow) ≡ false) H.held → IsInTurn flows H e → IsInTurn (without_flow flow flows) H e
turn_unbound flows flow H e none t = record {
  first = λ ex. All-weaker (λ (h : HeldCopy). ((h.flow == flow) ≡ false) × First flows e H.made h)
      (First (without_flow flow flows) e H.made)
      (λ h both is. still_first flows e.number flow h.flow both.0 (both.1 is)) H.held
      (All-both (λ (h : HeldCopy). (h.flow == flow) ≡ false) (First flows e H.made) H.held none (t.first ex));
  alone = t.alone;
}

-- an endpoint of the same number that shares its copies likewise
turn_like : (flows : List FlowView) (H : History) (d e : EndpointView) → d.number ≡ e.number →
    is_exclusive d.attributes.access_type ≡ is_exclusive e.attributes.access_type →
    is_partitioned d.attributes ≡ is_partitioned e.attributes → IsInTurn flows H d → IsInTurn flows H e
turn_like flows H d e number exclusive partitioned t = record {
  first = λ ex. subst (λ n. All (λ (h : HeldCopy). is_in H.made n h ≡ true → is_first (flows_of flows n) h.flow ≡ true)
      H.held) number (t.first (exclusive ∙ ex));
  alone = λ pa p. subst (λ n. AllPairs (λ (g h : HeldCopy). is_in_partition H.made n p g ≡ true →
      is_in_partition H.made n p h ≡ true → g.flow ≡ h.flow) H.held) number (t.alone (partitioned ∙ pa) p);
}

-- no copy that is made is in the endpoint, or it is closed
unused : (H : History) (s : IsSoundHistory H) (endpoint : ℕ) →
    All (λ c. ((c.endpoint == endpoint) && not (is_closed H.closed c.number)) ≡ false) H.made →
    All (λ h. is_in H.made endpoint h ≡ false) H.held
unused H s endpoint none =
    All-weaker (λ (h : HeldCopy). IsTrue (is_spooled H h.copy)) (λ (h : HeldCopy). is_in H.made endpoint h ≡ false)
    (λ h is. list_any_none {X = MadeCopy} (λ c. (c.number == h.copy) && (c.endpoint == endpoint)) H.made
    (All-weaker (λ (c : MadeCopy). ((c.endpoint == endpoint) && not (is_closed H.closed c.number)) ≡ false)
    (λ (c : MadeCopy). ((c.number == h.copy) && (c.endpoint == endpoint)) ≡ false)
    (λ c not_open. elsewhere h c is not_open (c.number == h.copy) (c.endpoint == endpoint) refl refl) H.made none))
    H.held s.held_spooled
  where
    elsewhere : (h : HeldCopy) (c : MadeCopy) → IsTrue (is_spooled H h.copy) →
        ((c.endpoint == endpoint) && not (is_closed H.closed c.number)) ≡ false → (a b : Bool) →
        (c.number == h.copy) ≡ a → (c.endpoint == endpoint) ≡ b → (a && b) ≡ false
    elsewhere h c is not_open false b ea eb = refl
    elsewhere h c is not_open true false ea eb = refl
    elsewhere h c is not_open true true ea eb =
        absurd (let open_copy : not (is_closed H.closed c.number) ≡ true =
        subst (λ n. not (is_closed H.closed n) ≡ true) (sym (eqb-true c.number h.copy ea))
        (and_right (is_made H.made h.copy) _ is) in
        let no_one : true ≡ false = sym (and_both (c.endpoint == endpoint) (not (is_closed H.closed c.number)) eb open_copy)
        ∙ not_open in cc)

-- an endpoint that comes has no copy yet
pub turns_coming : (L : Ledger) (e : EndpointView) → IsSound L → IsSoundHistory L.copies → e.number ≡ L.next.endpoint →
    All (IsInTurn L.flows L.copies) (L.endpoints ++ e ∷ [])
turns_coming L e s history number =
    All-push (IsInTurn L.flows L.copies) L.endpoints e s.turns
    (turn_unused L.flows e L.copies
    (unused L.copies history e.number
    (All-weaker (λ (c : MadeCopy). c.endpoint < L.next.endpoint)
    (λ (c : MadeCopy). ((c.endpoint == e.number) && not (is_closed L.copies.closed c.number)) ≡ false)
    (λ c lt. ap (λ b. b && not (is_closed L.copies.closed c.number))
    (lesser_is_not c.endpoint e.number (omega (arith, lt, number)))) L.copies.made s.copies.endpoints)))

same_of : (a b : Bool) → differ a b ≡ false → a ≡ b
same_of true true is = refl
same_of true false is = absurd (cc)
same_of false true is = absurd (cc)
same_of false false is = refl

or_neither : (a b : Bool) → (a || b) ≡ false → (a ≡ false) × (b ≡ false)
or_neither false false is = (refl, refl)
or_neither false true is = absurd (cc)
or_neither true b is = absurd (cc)

shares_likewise : (a b : AttributesView) → shares_otherwise a b ≡ false →
    (is_exclusive a.access_type ≡ is_exclusive b.access_type) × (is_partitioned a ≡ is_partitioned b)
shares_likewise a b is =
    let both = or_neither (differ (is_exclusive a.access_type) (is_exclusive b.access_type))
    (not (a.partition_count == b.partition_count)) is in
    let exclusive = same_of _ _ both.0 in
    let count : a.partition_count ≡ b.partition_count = eqb-true _ _ (not_false (a.partition_count == b.partition_count) both.1) in
    (exclusive, (λ i. not (exclusive i) && nat_lt 0 (count i)))

-- one has other fields
pub turns_becoming : (L : Ledger) (e : EndpointView) → IsSound L → IsSoundHistory L.copies → MayBecome L e →
    All (IsInTurn L.flows L.copies) (replaced e L.endpoints)
turns_becoming L e s history may =
    All-map (IsInTurn L.flows L.copies) (λ (d : EndpointView). cond (d.number == e.number) e d) L.endpoints
    (All-weaker (λ (d : EndpointView). ((d.number == e.number) ≡ true → shares_otherwise d.attributes e.attributes ≡ true →
    spooled_count L.copies (Some e.number) ≡ 0) × IsInTurn L.flows L.copies d)
    (λ (d : EndpointView). IsInTurn L.flows L.copies (cond (d.number == e.number) e d))
    (λ d both. one d both.0 both.1 (d.number == e.number) refl) L.endpoints
    (All-both (λ (d : EndpointView). (d.number == e.number) ≡ true → shares_otherwise d.attributes e.attributes ≡ true →
    spooled_count L.copies (Some e.number) ≡ 0) (IsInTurn L.flows L.copies) L.endpoints may.sharing s.turns))
  where
    other_sharing : (d : EndpointView) → d.number ≡ e.number → IsInTurn L.flows L.copies d →
        ((shares_otherwise d.attributes e.attributes ≡ true) → spooled_count L.copies (Some e.number) ≡ 0) → (b : Bool) →
        shares_otherwise d.attributes e.attributes ≡ b → IsInTurn L.flows L.copies e
    other_sharing d same t unless_none true is =
        turn_unused L.flows e L.copies (unused L.copies history e.number
        (none_counted {X = MadeCopy} (λ c. (c.endpoint == e.number) && not (is_closed L.copies.closed c.number)) L.copies.made
        (unless_none is)))
    other_sharing d same t unless_none false is =
        let likewise = shares_likewise d.attributes e.attributes is in
        turn_like L.flows L.copies d e same likewise.0 likewise.1 t

    one : (d : EndpointView) → ((d.number == e.number) ≡ true → shares_otherwise d.attributes e.attributes ≡ true →
        spooled_count L.copies (Some e.number) ≡ 0) → IsInTurn L.flows L.copies d → (b : Bool) →
        (d.number == e.number) ≡ b → IsInTurn L.flows L.copies (cond b e d)
    one d none t true is = other_sharing d (eqb-true _ _ is) t (none is) (shares_otherwise d.attributes e.attributes) refl
    one d none t false is = t
