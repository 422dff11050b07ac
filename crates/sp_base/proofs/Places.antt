-- What a search by rising keys finds.
use Rattle.std.proofs.Common.{◌≡◌, ◌<◌, ◌≤◌, ◌⊎◌, inl, inr, ⊎_elim, ℕ, zero, suc, List, [], ◌∷◌, length, get_or, arith, All, Some, None, Ok, Err, refl, subst}
use Rattle.std.specs.Prelude.{AllPairs, Result, ◌≢◌}
use Rattle.std.specs.List.{HoldsAt, AllWithin}
use Rattle.std.specs.List.Sorted.{IsBinarySearchResult, IsNonDecreasingBy, IsPartitionPoint, IsSearchInRange}
use Rattle.std.specs.Ordering.{nat_cmp, ordering_index}
use Rattle.std.specs.Result.{result_ok}
use Rattle.std.specs.declared.cmp.Ordering.TheVariants.{Less, Equal, Greater}
use Rattle.std.proofs.lemmas.Bool.Decides.{nat_tests}
use Rattle.std.proofs.lemmas.Bool.{cases_lt}
use Rattle.std.proofs.Math.Nat.{eq-or-lt_of_le, le_of_lt}
use Rattle.std.proofs.lemmas.List.Elements.{All-get_or, All-from_get_or}
use Rattle.sp_base.specs.Rows.{IsPlace}

-- a number's place against a key rises with the number
index_rises : (m n key : ℕ) → m ≤ n → ordering_index (nat_cmp m key) ≤ ordering_index (nat_cmp n key)
index_rises m n key h = grind (arith, nat_tests)

less : (m key : ℕ) → nat_cmp m key ≡ Less → m ≢ key
less m key h e = grind (arith, nat_tests)

greater : (m key : ℕ) → nat_cmp m key ≡ Greater → m ≢ key
greater m key h e = grind (arith, nat_tests)

equal : (m key : ℕ) → nat_cmp m key ≡ Equal → m ≡ key
equal m key h = grind (arith, nat_tests)

module _ {T : Type 0} (keys : T → ℕ) (key : ℕ) where
  rising : (rows : List T) → AllPairs (λ r s. keys r < keys s) rows → IsNonDecreasingBy (λ r. ordering_index (nat_cmp (keys r) key)) rows
  rising rows rise i j d le within = elim (eq-or-lt_of_le le) [
    | inl same ↦ rw same (omega arith)
    | inr before ↦ index_rises _ _ key (le_of_lt (rise i j d before within))
  ]

  parted_at : (rows : List T) (at i : ℕ) (d : T) → i < length rows → IsPartitionPoint (λ r. nat_cmp (keys r) key ≡ Less) (λ r. nat_cmp (keys r) key ≡ Greater) rows at → keys (get_or rows i d) ≢ key
  parted_at rows at i d within h = elim (cases_lt i at) [
    | inl early ↦ less _ key (h.0 i d (omega arith) early)
    | inr late ↦ greater _ key (h.1 i d late within)
  ]

  parted : (rows : List T) (at : ℕ) → IsPartitionPoint (λ r. nat_cmp (keys r) key ≡ Less) (λ r. nat_cmp (keys r) key ≡ Greater) rows at → All (λ r. keys r ≢ key) rows
  parted [] at h = λ i d within. absurd (omega arith)
  parted (r ∷ rows) at h = All-from_get_or (λ r. keys r ≢ key) (r ∷ rows) r (λ i within. parted_at (r ∷ rows) at i r within h)

  pub found_place : (rows : List T) (r : Result ℕ ℕ) → IsSearchInRange r (length rows) → IsBinarySearchResult (λ r. nat_cmp (keys r) key) rows r → IsPlace keys rows key (result_ok r)
  found_place rows (Ok at) within h = (within, λ d. equal _ key (h d))
  found_place rows (Err at) within h = λ rise. parted rows at (h (rising rows rise))
