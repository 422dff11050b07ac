-- What is found where keys never fall, and where they are cut at a key.
use Rattle.std.proofs.Common.{◌≡◌, ◌∙◌, ◌<◌, ◌≤◌, ◌==◌, ◌-◌, ◌++◌, ◌&&◌, ℕ, true, false, List, [], ◌∷◌, length, get_or, inl, inr, Some, None, refl, sym, ap, subst, arith}
use Rattle.std.specs.Prelude.{◌≢◌, find, nat_le, nat_lt, position}
use Rattle.std.specs.List.{position_or_len, slice_get}
use Rattle.std.specs.List.Sorted.{IsNonDecreasingBy, IsPartitionPoint}
use Rattle.std.proofs.lemmas.Bool.{and_parts, cases_lt, cond-false, cond-true, eq-eqb, le-leb, le-ltb, leb-true, lt-leb, lt-ltb, ltb-false, ltb-true, ne_eqb}
use Rattle.std.proofs.lemmas.List.{get_or_default}
use Rattle.std.proofs.lemmas.List.Folds.{find_at}
use Rattle.std.proofs.lemmas.List.Sorted.{IsNonDecreasingBy-push}
use Rattle.std.proofs.lemmas.List.Sums.{position_or_len_is}
use Rattle.std.proofs.lemmas.Option.{slice_get-get_or}
use Rattle.sp_replaylog.specs.Order.{IsInOrder, may_follow}
use Rattle.sp_replaylog.specs.declared.entry.Entry.{Entry}

-- one more entry keeps the order
pub stays_in_order : (es : List Entry) (new : Entry) → IsInOrder es → may_follow (slice_get es (length es - 1)) new ≡ true → IsInOrder (es ++ new ∷ [])
stays_in_order es new order h = record {
  numbers = IsNonDecreasingBy-push (λ (e : Entry). e.number) es new order.numbers (λ d some. (after d some).0);
  moments = IsNonDecreasingBy-push (λ (e : Entry). e.moment) es new order.moments (λ d some. (after d some).1);
}
  where
    after : (d : Entry) → 0 < length es → ((get_or es (length es - 1) d).number ≤ new.number) × ((get_or es (length es - 1) d).moment ≤ new.moment)
    after d some =
        let last = get_or es (length es - 1) d in
        let both : (nat_le last.number new.number && nat_le last.moment new.moment) ≡ true = subst (λ o. may_follow o new ≡ true) (slice_get-get_or es (length es - 1) d (omega arith)) h in
        let parts = and_parts (nat_le last.number new.number) (nat_le last.moment new.moment) both in
        (leb-true last.number new.number parts.0, leb-true last.moment new.moment parts.1)

module _ {X : Type 0} (key : X → ℕ) (cut : ℕ) where
  abbrev pub IsCutAt : List X → ℕ → Type 0
  IsCutAt xs i = IsPartitionPoint (λ x. nat_lt (key x) cut ≡ true) (λ x. nat_lt (key x) cut ≡ false) xs i

  below : (xs : List X) (i k : ℕ) (d : X) → IsCutAt xs i → k < i → key (get_or xs k d) < cut
  below xs i k d parted lt = ltb-true (key (get_or xs k d)) cut (parted.0 k d (omega arith) lt)

  from : (xs : List X) (i k : ℕ) (d : X) → IsCutAt xs i → i ≤ k → k < length xs → cut ≤ key (get_or xs k d)
  from xs i k d parted le lt = ltb-false (key (get_or xs k d)) cut (parted.1 k d le lt)

  -- the first whose key is at least the cut
  pub found_at : (xs : List X) (i : ℕ) → i ≤ length xs → IsCutAt xs i → slice_get xs i ≡ find (λ x. nat_le cut (key x)) xs
  found_at [] i le parted = refl
  found_at (x ∷ xs) i le parted =
      let place = position_or_len_is (λ y. nat_le cut (key y)) (x ∷ xs) i x le (λ k lt. lt-leb cut (key (get_or (x ∷ xs) k x)) (below (x ∷ xs) i k x parted lt)) (λ lt. le-leb cut (key (get_or (x ∷ xs) i x)) (from (x ∷ xs) i i x parted (omega arith) lt)) in
      ap (slice_get (x ∷ xs)) (sym place) ∙ sym (find_at (λ y. nat_le cut (key y)) (x ∷ xs))

  -- the first whose key is the cut stands there
  pub placed_at : (xs : List X) (i : ℕ) (d : X) → i < length xs → IsCutAt xs i → key (get_or xs i d) ≡ cut → Some i ≡ position (λ x. key x == cut) xs
  placed_at xs i d lt parted is =
      let place = position_or_len_is (λ y. key y == cut) xs i d (omega arith) (λ k early. ne_eqb (key (get_or xs k d)) cut (λ same. omega (arith, below xs i k d parted early, same))) (λ _. eq-eqb (key (get_or xs i d)) cut is) in
      ap Some (sym place) ∙ sym (cond-true _ _ _ (lt-ltb (position_or_len (λ y. key y == cut) xs) (length xs) (omega (arith, place))))

  -- no key is the cut
  pub no_place : (xs : List X) → ((k : ℕ) (d : X) → k < length xs → key (get_or xs k d) ≢ cut) → None ≡ position (λ x. key x == cut) xs
  no_place [] others = refl
  no_place (x ∷ xs) others =
      let place = position_or_len_is (λ y. key y == cut) (x ∷ xs) (length (x ∷ xs)) x (omega arith) (λ k lt. ne_eqb (key (get_or (x ∷ xs) k x)) cut (others k x lt)) (λ lt. absurd (omega (arith, lt))) in
      sym (cond-false _ _ _ (le-ltb (position_or_len (λ y. key y == cut) (x ∷ xs)) (length (x ∷ xs)) (omega (arith, place))))

  -- all keys are below the cut
  pub all_below : (xs : List X) (i : ℕ) → i ≡ length xs → IsCutAt xs i → None ≡ position (λ x. key x == cut) xs
  all_below xs i all parted = no_place xs (λ k d lt same. omega (arith, all, below xs i k d parted (omega (arith, all, lt)), same))

  -- the first key that isn't below the cut is above it
  pub gone_by : (xs : List X) (i : ℕ) (d : X) → i < length xs → IsNonDecreasingBy key xs → IsCutAt xs i → key (get_or xs i d) ≢ cut → None ≡ position (λ x. key x == cut) xs
  gone_by xs i d lt rise parted other = no_place xs (λ k e within same. elim (cases_lt k i) [
    | inl early ↦ absurd (omega (arith, below xs i k e parted early, same))
    | inr late ↦ other (omega (arith, from xs i i d parted (omega arith) lt, rise i k d late within, ap key (get_or_default xs k d e within), same))
  ])
