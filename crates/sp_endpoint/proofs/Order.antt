-- A stable sort by name and placing one after another lead to the same order.
use Rattle.std.proofs.Common.{◌≡◌, ℕ, Bool, true, false, not, ◌&&◌, cond, List, [], ◌∷◌, ◌++◌, map, refl, sym, ap}
use Rattle.std.proofs.Common.{◌∙◌, arith, append-nil, append_assoc, Bor}
use Rattle.std.specs.Prelude.{All, AllPairs, filter, fold}
use Rattle.std.specs.Cmp.{IsStrictWeakOrder}
use Rattle.std.specs.List.Sorted.{IsSortedBy, IsStableBy, ties}
use Rattle.std.proofs.lemmas.Cmp.{nat_list_cmp_total}
use Rattle.std.proofs.lemmas.List.Elements.{All-nil, All-cons, All-head, All-tail, All-weaker, filter-append}
use Rattle.std.proofs.lemmas.List.Kept.{AllPairs-cons}
use Rattle.std.proofs.lemmas.List.Sorted.{ranks_by, sorted_far}
use Rattle.sp_endpoint.specs.Endpoint.{EndpointView}
use Rattle.sp_endpoint.specs.Takers.{by_name, is_before, placed}
use Rattle.sp_endpoint.proofs.Places.{pairs_head, pairs_tail}

module _ {X : Type 0} (name : X → List ℕ) where
  abbrev pub before : X → X → Bool
  before x y = is_before (name x) (name y)

  pub weak : IsStrictWeakOrder before
  weak = ranks_by nat_list_cmp_total name

  abbrev NotBefore : X → X → Type 0
  NotBefore x y = before y x ≡ false

  abbrev Ordered : List X → Type 0
  Ordered xs = AllPairs NotBefore xs

  nothing_ordered : Ordered []
  nothing_ordered i j d lt le = absurd (omega (arith, le))

  -- none comes before itself
  itself : (x : X) → before x x ≡ false
  itself x = one (before x x) refl
    where
      one : (b : Bool) → before x x ≡ b → before x x ≡ false
      one false is = is
      one true is = weak.one_way x x is

  tied : (x y : X) → before x y ≡ false → before y x ≡ false → ties before x y ≡ true
  tied x y h k = λ i. not (h i) && not (k i)

  -- what doesn't come before one that x comes before stands behind x
  behind : (x y w : X) → before x y ≡ true → before w y ≡ false → before x w ≡ true
  behind x y w first h = one (before x w) refl
    where
      one : (b : Bool) → before x w ≡ b → before x w ≡ true
      one true is = is
      one false is = absurd (let none : before x y ≡ false = weak.chain x w y is h in cc)

  all_behind : (x y : X) (ws : List X) → before x y ≡ true → All (NotBefore y) ws → All (λ w. before x w ≡ true) ws
  all_behind x y ws first all = All-weaker (NotBefore y) (λ w. before x w ≡ true) (λ w h. behind x y w first h) ws all

  -- what x comes before ties with nothing that ties with x
  not_tied : (v x w : X) → before x v ≡ false → before x w ≡ true → ties before v w ≡ false
  not_tied v x w low first = one (before v w) refl
    where
      one : (b : Bool) → before v w ≡ b → ties before v w ≡ false
      one true is = λ i. not (is i) && not (before w v)
      one false is = absurd (let none : before x w ≡ false = weak.chain x v w low is in cc)

  none_tied : (v x : X) (ws : List X) → before x v ≡ false → All (λ w. before x w ≡ true) ws →
      filter (ties before v) ws ≡ []
  none_tied v x [] low all = refl
  none_tied v x (w ∷ ws) low all =
      (λ i. cond (not_tied v x w low (All-head (λ u. before x u ≡ true) w ws all) i) (w ∷ filter (ties before v) ws)
      (filter (ties before v) ws))
      ∙ none_tied v x ws low (All-tail (λ u. before x u ≡ true) w ws all)

  -- the first of an ordered list comes behind nothing that ties with one of it
  not_first : (y z : X) (zs rest : List X) → Ordered (z ∷ zs) → y ∷ rest ≡ filter (ties before y) (z ∷ zs) →
      before y z ≡ false
  not_first y z zs rest order found = one (before y z) refl
    where
      one : (b : Bool) → before y z ≡ b → before y z ≡ false
      one false is = is
      one true is = absurd (
          let none : filter (ties before y) (z ∷ zs) ≡ [] =
          none_tied y y (z ∷ zs) (itself y)
          (all_behind y z (z ∷ zs) is (All-cons (NotBefore z) z zs (itself z) (pairs_head NotBefore z zs order))) in
          let gone : y ∷ rest ≡ [] = found ∙ none in
          cc)

  kept : (v x : X) (xs : List X) → ties before v x ≡ true →
      filter (ties before v) (x ∷ xs) ≡ x ∷ filter (ties before v) xs
  kept v x xs is = λ i. cond (is i) (x ∷ filter (ties before v) xs) (filter (ties before v) xs)

  -- two ordered lists in which what ties stands alike are one
  same_order : (ys zs : List X) → Ordered ys → Ordered zs →
      ((v : X) → filter (ties before v) ys ≡ filter (ties before v) zs) → ys ≡ zs
  same_order [] [] p q same = refl
  same_order [] (z ∷ zs) p q same =
      absurd (let gone : [] ≡ z ∷ filter (ties before z) zs = same z ∙ kept z z zs (tied z z (itself z) (itself z))
      in cc)
  same_order (y ∷ ys) [] p q same =
      absurd (let gone : y ∷ filter (ties before y) ys ≡ [] = sym (kept y y ys (tied y y (itself y) (itself y))) ∙
      same y in cc)
  same_order (y ∷ ys) (z ∷ zs) p q same =
      λ i. first i ∷ same_order ys zs (pairs_tail NotBefore y ys p) (pairs_tail NotBefore z zs q) rest i
    where
      low : before y z ≡ false
      low = not_first y z zs (filter (ties before y) ys) q (sym (kept y y ys (tied y y (itself y) (itself y))) ∙ same y)

      high : before z y ≡ false
      high = not_first z y ys (filter (ties before z) zs) p
          (sym (kept z z zs (tied z z (itself z) (itself z))) ∙ sym (same z))

      both : y ∷ filter (ties before y) ys ≡ z ∷ filter (ties before y) zs
      both = sym (kept y y ys (tied y y (itself y) (itself y))) ∙ same y ∙ kept y z zs (tied y z low high)

      first : y ≡ z
      first = let heads = both in cc

      tails : (v : X) (b : Bool) →
          cond b (y ∷ filter (ties before v) ys) (filter (ties before v) ys) ≡ cond b (y ∷ filter (ties before v) zs)
          (filter (ties before v) zs) → filter (ties before v) ys ≡ filter (ties before v) zs
      tails v true h = cc
      tails v false h = h

      rest : (v : X) → filter (ties before v) ys ≡ filter (ties before v) zs
      rest v = tails v (ties before v y)
          (same v ∙ (λ i. cond (ties before v (sym first i)) (sym first i ∷ filter (ties before v) zs)
          (filter (ties before v) zs)))

  -- an element is placed before the first that it comes before
  abbrev put : X → List X → List X
  put x [] = x ∷ []
  put x (y ∷ ys) = cond (before x y) (x ∷ y ∷ ys) (y ∷ put x ys)

  put_all : (P : X → Type 0) (x : X) (ys : List X) → P x → All P ys → All P (put x ys)
  put_all P x [] p all = All-cons P x [] p all
  put_all P x (y ∷ ys) p all = one (before x y) (put_all P x ys p (All-tail P y ys all))
    where
      one : (b : Bool) → All P (put x ys) → All P (cond b (x ∷ y ∷ ys) (y ∷ put x ys))
      one true later = All-cons P x (y ∷ ys) p all
      one false later = All-cons P y (put x ys) (All-head P y ys all) later

  ordered_put : (x : X) (ys : List X) → Ordered ys → Ordered (put x ys)
  ordered_put x [] order = AllPairs-cons NotBefore x [] (All-nil (NotBefore x)) order
  ordered_put x (y ∷ ys) order = one (before x y) refl (ordered_put x ys (pairs_tail NotBefore y ys order))
    where
      above : All (NotBefore y) ys
      above = pairs_head NotBefore y ys order

      one : (b : Bool) → before x y ≡ b → Ordered (put x ys) → Ordered (cond b (x ∷ y ∷ ys) (y ∷ put x ys))
      one true is later =
          let low : before y x ≡ false = weak.one_way x y is in
          AllPairs-cons NotBefore x (y ∷ ys)
          (All-cons (NotBefore x) y ys low
          (All-weaker (NotBefore y) (NotBefore x) (λ w h. weak.chain w y x h low) ys above)) order
      one false is later = AllPairs-cons NotBefore y (put x ys) (put_all (NotBefore y) x ys is above) later

  -- where it is placed it stands behind all that tie with it
  stable_put : (v x : X) (ys : List X) → Ordered ys →
      filter (ties before v) (put x ys) ≡ filter (ties before v) (ys ++ x ∷ [])
  stable_put v x [] order = refl
  stable_put v x (y ∷ ys) order = one (before x y) refl (stable_put v x ys (pairs_tail NotBefore y ys order))
    where
      last : (b : Bool) → ties before v x ≡ b → before x y ≡ true →
          cond b (x ∷ filter (ties before v) (y ∷ ys)) (filter (ties before v) (y ∷ ys)) ≡ filter (ties before v)
          (y ∷ ys) ++ cond b (x ∷ []) []
      last true is first =
          let none : filter (ties before v) (y ∷ ys) ≡ [] =
          none_tied v x (y ∷ ys) (tied_low is)
          (all_behind x y (y ∷ ys) first
          (All-cons (NotBefore y) y ys (itself y) (pairs_head NotBefore y ys order))) in
          ap (λ us. x ∷ us) none ∙ ap (λ us. us ++ x ∷ []) (sym none)
        where
          tied_low : ties before v x ≡ true → before x v ≡ false
          tied_low h = at (before v x) (before x v) h
            where
              at : (b c : Bool) → (not b && not c) ≡ true → c ≡ false
              at b false k = refl
              at true true k = absurd (cc)
              at false true k = absurd (cc)
      last false is first = sym (append-nil (filter (ties before v) (y ∷ ys)))

      one : (b : Bool) → before x y ≡ b → filter (ties before v) (put x ys) ≡ filter (ties before v) (ys ++ x ∷ []) →
          filter (ties before v) (cond b (x ∷ y ∷ ys) (y ∷ put x ys)) ≡ filter (ties before v) (y ∷ (ys ++ x ∷ []))
      one true is later = last (ties before v x) refl is ∙ sym (filter-append (ties before v) (y ∷ ys) (x ∷ []))
      one false is later = ap (λ us. cond (ties before v y) (y ∷ us) us) later

  -- and so it is where one after another is placed
  abbrev all_put : List X → List X → List X
  all_put done xs = fold (λ before x. put x before) done xs

  ordered_all : (done xs : List X) → Ordered done → Ordered (all_put done xs)
  ordered_all done [] order = order
  ordered_all done (x ∷ xs) order = ordered_all (put x done) xs (ordered_put x done order)

  stable_all : (v : X) (done xs : List X) → Ordered done →
      filter (ties before v) (all_put done xs) ≡ filter (ties before v) (done ++ xs)
  stable_all v done [] order = ap (filter (ties before v)) (sym (append-nil done))
  stable_all v done (x ∷ xs) order =
      stable_all v (put x done) xs (ordered_put x done order)
      ∙ filter-append (ties before v) (put x done) xs
      ∙ ap (λ us. us ++ filter (ties before v) xs)
      (stable_put v x done order ∙ filter-append (ties before v) done (x ∷ []))
      ∙ append_assoc (filter (ties before v) done) (filter (ties before v) (x ∷ [])) (filter (ties before v) xs)
      ∙ ap (λ us. filter (ties before v) done ++ us) (sym (filter-append (ties before v) (x ∷ []) xs))
      ∙ sym (filter-append (ties before v) done (x ∷ xs))

  sorted_is_put : (xs ys : List X) → IsSortedBy before ys → IsStableBy before xs ys → ys ≡ all_put [] xs
  sorted_is_put xs ys sorted stable =
      same_order ys (all_put [] xs)
      (λ i j d lt le. sorted_far before weak ys sorted i j d (omega (arith, lt)) le)
      (ordered_all [] xs nothing_ordered)
      (λ v. stable v ∙ sym (stable_all v [] xs nothing_ordered))

abbrev pub name_of : Bor EndpointView → List ℕ
name_of e = e.now.name

abbrev seen : List (Bor EndpointView) → List EndpointView
seen es = map (λ e. e.now) es

seen_put : (e : Bor EndpointView) (fs : List (Bor EndpointView)) → seen (put name_of e fs) ≡ placed e.now (seen fs)
seen_put e [] = refl
seen_put e (f ∷ fs) = one (is_before e.now.name f.now.name) (seen_put e fs)
  where
    one : (b : Bool) → seen (put name_of e fs) ≡ placed e.now (seen fs) →
        seen (cond b (e ∷ f ∷ fs) (f ∷ put name_of e fs)) ≡ cond b (e.now ∷ f.now ∷ seen fs)
        (f.now ∷ placed e.now (seen fs))
    one true later = refl
    one false later = ap (λ (gs : List EndpointView). f.now ∷ gs) later

seen_all : (done es : List (Bor EndpointView)) →
    seen (all_put name_of done es) ≡ fold (λ before e. placed e before) (seen done) (seen es)
seen_all done [] = refl
seen_all done (e ∷ es) = seen_all (put name_of e done) es
    ∙ ap (λ (fs : List EndpointView). fold (λ before g. placed g before) fs (seen es)) (seen_put e done)

-- what a stable sort by name leaves of endpoints stands in the byte order of their names
pub sorted_by_name : (es fs : List (Bor EndpointView)) → IsSortedBy (before name_of) fs →
    IsStableBy (before name_of) es fs → seen fs ≡ by_name (seen es)
sorted_by_name es fs sorted stable = ap seen (sorted_is_put name_of es fs sorted stable) ∙ seen_all [] es

pub weak_by_name : IsStrictWeakOrder (before name_of)
weak_by_name = weak name_of
