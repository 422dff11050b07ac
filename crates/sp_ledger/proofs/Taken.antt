-- A message goes once to each endpoint that takes it, in the byte order of the names.
use Rattle.sp_copies.proofs.Marks.{eqb-turned}
use Rattle.sp_endpoint.specs.Endpoint.{EndpointView}
use Rattle.sp_endpoint.specs.Takers.{is_before, placed, takers, takes_message}
use Rattle.sp_ledger.proofs.Chosen.{where_passes}
use Rattle.sp_ledger.proofs.Listed.{All-both, lesser_is_not, pairs_head, pairs_tail}
use Rattle.sp_ledger.specs.Ledger.{Ledger}
use Rattle.sp_message.specs.declared.message.Message.{Message}
use Rattle.std.proofs.Common.{Equal, Greater, Less, Ordering, ap, arith, refl, sym, ◌∙◌}
use Rattle.std.proofs.lemmas.Cmp.{nat_list_cmp_total}
use Rattle.std.proofs.lemmas.List.Elements.{All-cons, All-contains_itself, All-filter, All-head, All-nil, All-tail}
use Rattle.std.proofs.lemmas.List.Elements.{All-weaker, filter_passes}
use Rattle.std.proofs.lemmas.List.Kept.{AllPairs-cons, AllPairs-filter}
use Rattle.std.proofs.lemmas.Map.Text.{is_eq-slice_cmp}
use Rattle.std.specs.Cmp.Lexicographic.{slice_cmp}
use Rattle.std.specs.Ordering.{is_eq, is_lt, nat_cmp, ordering_reverse}
use Rattle.std.specs.Prelude.{All, AllPairs, Bool, Contains, List, [], bytes_eq, cond, false, filter, fold, true, ◌<◌}
use Rattle.std.specs.Prelude.{◌==◌, ◌∷◌, ◌≡◌}

-- the first comes before the second in the byte order of the names, and their names are others
abbrev pub Before : EndpointView → EndpointView → Type 0
Before d e = is_before d.name e.name ≡ true

abbrev Other : EndpointView → EndpointView → Type 0
Other d e = bytes_eq d.name e.name ≡ false

is_less : (o : Ordering) → is_lt o ≡ true → o ≡ Less
is_less Less h = refl
is_less Equal h = absurd (cc)
is_less Greater h = absurd (cc)

before_trans : (d e f : EndpointView) → Before d e → Before e f → Before d f
before_trans d e f p q = ap is_lt (nat_list_cmp_total.trans d.name e.name f.name (is_less _ p) (is_less _ q))

-- of two names that differ one comes first
before_turned : (e f : EndpointView) → is_before e.name f.name ≡ false → Other f e → Before f e
before_turned e f not_first other = one (slice_cmp nat_cmp f.name e.name) refl
  where
    one : (o : Ordering) → slice_cmp nat_cmp f.name e.name ≡ o → Before f e
    one Less is = ap is_lt is
    one Equal is = absurd
        (let same : bytes_eq f.name e.name ≡ true = sym (is_eq-slice_cmp f.name e.name) ∙ ap is_eq is in cc)
    one Greater is = absurd
        (let first : is_before e.name f.name ≡ true = ap is_lt
        (nat_list_cmp_total.antisymm e.name f.name ∙ ap ordering_reverse is) in cc)

-- what holds of an endpoint and of those among which it is placed holds of all, and the other way round
placed_all : (P : EndpointView → Type 0) (e : EndpointView) (fs : List EndpointView) → P e → All P fs →
    All P (placed e fs)
placed_all P e [] p all = All-cons P e [] p all
placed_all P e (f ∷ fs) p all = one (is_before e.name f.name) (placed_all P e fs p (All-tail P f fs all))
  where
    one : (b : Bool) → All P (placed e fs) → All P (cond b (e ∷ f ∷ fs) (f ∷ placed e fs))
    one true later = All-cons P e (f ∷ fs) p all
    one false later = All-cons P f (placed e fs) (All-head P f fs all) later

all_placed : (P : EndpointView → Type 0) (e : EndpointView) (fs : List EndpointView) → All P (placed e fs) →
    P e × All P fs
all_placed P e [] all = (All-head P e [] all, All-nil P)
all_placed P e (f ∷ fs) all = one (is_before e.name f.name) (all_placed P e fs) all
  where
    one : (b : Bool) → (All P (placed e fs) → P e × All P fs) → All P (cond b (e ∷ f ∷ fs) (f ∷ placed e fs)) →
        P e × All P (f ∷ fs)
    one true later k = (All-head P e (f ∷ fs) k, All-tail P e (f ∷ fs) k)
    one false later k =
        let rest = later (All-tail P f (placed e fs) k) in
        (rest.0, All-cons P f fs (All-head P f (placed e fs) k) rest.1)

-- endpoints that are placed one after another among others
abbrev all_in : List EndpointView → List EndpointView → List EndpointView
all_in done es = fold (λ placed_ones e. placed e placed_ones) done es

by_name_all : (P : EndpointView → Type 0) (done es : List EndpointView) → All P done → All P es → All P (all_in done es)
by_name_all P done [] p q = p
by_name_all P done (e ∷ es) p q =
    by_name_all P (placed e done) es (placed_all P e done (All-head P e es q) p) (All-tail P e es q)

all_by_name : (P : EndpointView → Type 0) (done es : List EndpointView) → All P (all_in done es) → All P done × All P es
all_by_name P done [] all = (all, All-nil P)
all_by_name P done (e ∷ es) all =
    let later = all_by_name P (placed e done) es all in
    let here = all_placed P e done later.0 in
    (here.1, All-cons P e es here.0 later.1)

-- the names rise where an endpoint of another name is placed
placed_rise : (e : EndpointView) (fs : List EndpointView) → All (λ f. Other f e) fs → AllPairs Before fs →
    AllPairs Before (placed e fs)
placed_rise e [] others rise = AllPairs-cons Before e [] (All-nil (Before e)) rise
placed_rise e (f ∷ fs) others rise =
    one (is_before e.name f.name) refl
    (placed_rise e fs (All-tail (λ g. Other g e) f fs others) (pairs_tail Before f fs rise))
  where
    above : All (Before f) fs
    above = pairs_head Before f fs rise

    one : (b : Bool) → is_before e.name f.name ≡ b → AllPairs Before (placed e fs) →
        AllPairs Before (cond b (e ∷ f ∷ fs) (f ∷ placed e fs))
    one true is later = AllPairs-cons Before e (f ∷ fs)
        (All-cons (Before e) f fs is (All-weaker (Before f) (Before e) (λ g. before_trans e f g is) fs above)) rise
    one false is later =
        AllPairs-cons Before f (placed e fs)
        (placed_all (Before f) e fs (before_turned e f is (All-head (λ g. Other g e) f fs others)) above) later

by_name_rise : (done es : List EndpointView) → AllPairs Before done → AllPairs Other es →
    All (λ e. All (λ d. Other d e) done) es → AllPairs Before (all_in done es)
by_name_rise done [] rise differ apart = rise
by_name_rise done (e ∷ es) rise differ apart =
    by_name_rise (placed e done) es
    (placed_rise e done (All-head (λ x. All (λ d. Other d x) done) e es apart) rise)
    (pairs_tail Other e es differ)
    (All-weaker (λ x. Other e x × All (λ d. Other d x) done) (λ x. All (λ d. Other d x) (placed e done))
    (λ x both. placed_all (λ d. Other d x) e done both.0 both.1) es
    (All-both (Other e) (λ x. All (λ d. Other d x) done) es (pairs_head Other e es differ)
    (All-tail (λ x. All (λ d. Other d x) done) e es apart)))

-- a relation that holds of each two, whichever comes first, holds of them in their new order
module _ (R : EndpointView → EndpointView → Type 0) (turned : (d e : EndpointView) → R d e → R e d) where
  placed_pairs : (e : EndpointView) (fs : List EndpointView) → All (R e) fs → AllPairs R fs → AllPairs R (placed e fs)
  placed_pairs e [] all pairs = AllPairs-cons R e [] all pairs
  placed_pairs e (f ∷ fs) all pairs =
      one (is_before e.name f.name) (placed_pairs e fs (All-tail (R e) f fs all) (pairs_tail R f fs pairs))
    where
      one : (b : Bool) → AllPairs R (placed e fs) → AllPairs R (cond b (e ∷ f ∷ fs) (f ∷ placed e fs))
      one true later = AllPairs-cons R e (f ∷ fs) all pairs
      one false later = AllPairs-cons R f (placed e fs)
          (placed_all (R f) e fs (turned e f (All-head (R e) f fs all)) (pairs_head R f fs pairs)) later

  by_name_pairs : (done es : List EndpointView) → AllPairs R done → AllPairs R es → All (λ e. All (R e) done) es →
      AllPairs R (all_in done es)
  by_name_pairs done [] pairs rest apart = pairs
  by_name_pairs done (e ∷ es) pairs rest apart =
      by_name_pairs (placed e done) es
      (placed_pairs e done (All-head (λ x. All (R x) done) e es apart) pairs)
      (pairs_tail R e es rest)
      (All-weaker (λ x. R e x × All (R x) done) (λ x. All (R x) (placed e done))
      (λ x both. placed_all (R x) e done (turned e x both.0) both.1) es
      (All-both (R e) (λ x. All (R x) done) es (pairs_head R e es rest) (All-tail (λ x. All (R x) done) e es apart)))

none_apart : (R : EndpointView → EndpointView → Type 0) (es : List EndpointView) → All (λ e. All (R e) []) es
none_apart R es k d lt = All-nil (R _)

no_pairs : (R : EndpointView → EndpointView → Type 0) → AllPairs R []
no_pairs R i j d lt le = absurd (omega arith)

-- the names of the takers rise
pub takers_rise : (L : Ledger) (m : Message) → AllPairs Other L.endpoints → AllPairs Before (takers L.endpoints m)
takers_rise L m differ =
    let chosen = filter (takes_message m) L.endpoints in
    by_name_rise [] chosen (no_pairs Before) (AllPairs-filter Other (takes_message m) L.endpoints differ)
    (none_apart (λ e d. Other d e) chosen)

-- the numbers of two endpoints differ
abbrev pub Apart : EndpointView → EndpointView → Type 0
Apart d e = (d.number == e.number) ≡ false

-- and so do those of the takers
pub takers_apart : (L : Ledger) (m : Message) → AllPairs (λ d e. d.number < e.number) L.endpoints →
    AllPairs Apart (takers L.endpoints m)
takers_apart L m rise =
    let chosen = filter (takes_message m) L.endpoints in
    let apart : AllPairs Apart L.endpoints = λ i j d lt le. lesser_is_not _ _ (rise i j d lt le) in
    by_name_pairs Apart (λ d e h. eqb-turned e.number d.number ∙ h) [] chosen (no_pairs Apart)
    (AllPairs-filter Apart (takes_message m) L.endpoints apart) (none_apart Apart chosen)

-- what holds of each endpoint holds of each target
pub takers_all : (L : Ledger) (m : Message) (P : EndpointView → Type 0) → All P L.endpoints →
    All P (takers L.endpoints m)
takers_all L m P all =
    by_name_all P [] (filter (takes_message m) L.endpoints) (All-nil P) (All-filter (takes_message m) P L.endpoints all)

-- each target takes the message
pub takers_take : (L : Ledger) (m : Message) → All (λ e. takes_message m e ≡ true) (takers L.endpoints m)
takers_take L m = by_name_all (λ e. takes_message m e ≡ true) [] (filter (takes_message m) L.endpoints)
    (All-nil (λ (e : EndpointView). takes_message m e ≡ true))
    (filter_passes {X = EndpointView} (takes_message m) L.endpoints)

-- each endpoint that takes the message is a target
pub stand_as_takers : (L : Ledger) (m : Message) →
    All (λ e. takes_message m e ≡ true → Contains (takers L.endpoints m) e) L.endpoints
stand_as_takers L m =
    let chosen = filter (takes_message m) L.endpoints in
    where_passes (takes_message m) (Contains (takers L.endpoints m)) L.endpoints
    (all_by_name (Contains (takers L.endpoints m)) [] chosen (All-contains_itself (takers L.endpoints m))).1
