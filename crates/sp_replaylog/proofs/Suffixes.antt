-- The longest suffix that fits.
use Rattle.std.proofs.Common.{◌≡◌, ◌∙◌, ◌≤◌, ◌<◌, ◌-◌, ℕ, Bool, true, false, cond, List, [], ◌∷◌, ◌++◌, length, drop, refl, ap, sym, arith, length-append}
use Rattle.std.specs.Prelude.{nat_le}
use Rattle.std.proofs.lemmas.Bool.{leb-true, leb-false, le-leb, lt-leb, cond-true, cond-false}
use Rattle.std.proofs.lemmas.List.Sums.{sum_by_push}
use Rattle.sp_replaylog.specs.Log.{IsLongestFitting, bytes_of, longest_fitting}
use Rattle.sp_replaylog.specs.declared.entry.Entry.{Entry}

-- what fits stays
pub stays : (most : ℕ) (es : List Entry) → bytes_of es ≤ most → longest_fitting most es ≡ es
stays most [] h = refl
stays most (e ∷ es) h = cond-true _ _ _ (le-leb (bytes_of (e ∷ es)) most h)

-- of what doesn't fit the oldest goes
pub goes : (most : ℕ) (es : List Entry) → most < bytes_of es → longest_fitting most (drop 1 es) ≡ longest_fitting most es
goes most [] h = absurd (omega arith)
goes most (e ∷ es) h = sym (cond-false _ _ _ (lt-leb (bytes_of (e ∷ es)) most h))

-- what is kept fits
pub fits : (most : ℕ) (es : List Entry) → bytes_of (longest_fitting most es) ≤ most
fits most [] = omega arith
fits most (e ∷ es) = one (nat_le (bytes_of (e ∷ es)) most) refl (fits most es)
  where
    one : (b : Bool) → nat_le (bytes_of (e ∷ es)) most ≡ b → bytes_of (longest_fitting most es) ≤ most → bytes_of (cond b (e ∷ es) (longest_fitting most es)) ≤ most
    one true is rest = leb-true (bytes_of (e ∷ es)) most is
    one false is rest = rest

-- it is a suffix
pub cut_off : (most : ℕ) (es : List Entry) → (gone : List Entry) × (es ≡ gone ++ longest_fitting most es)
cut_off most [] = ([], refl)
cut_off most (e ∷ es) = one (nat_le (bytes_of (e ∷ es)) most) (cut_off most es)
  where
    one : (b : Bool) → ((gone : List Entry) × (es ≡ gone ++ longest_fitting most es)) → (gone : List Entry) × (e ∷ es ≡ gone ++ cond b (e ∷ es) (longest_fitting most es))
    one true rest = ([], refl)
    one false rest = (e ∷ rest.0, ap (λ r. e ∷ r) rest.1)

-- no other suffix that fits is longer
pub no_longer : (most : ℕ) (es gone other : List Entry) → es ≡ gone ++ other → bytes_of other ≤ most → length other ≤ length (longest_fitting most es)
no_longer most [] gone other is fit = omega (arith, ap length is, length-append gone other)
no_longer most (e ∷ es) gone other is fit = one (nat_le (bytes_of (e ∷ es)) most) refl (λ g rest. no_longer most es g other rest fit)
  where
    later : (g : List Entry) → e ∷ es ≡ g ++ other → most < bytes_of (e ∷ es) → ((g : List Entry) → es ≡ g ++ other → length other ≤ length (longest_fitting most es)) → length other ≤ length (longest_fitting most es)
    later [] same over among = absurd (omega (arith, ap bytes_of same))
    later (f ∷ g) same over among = let rest : es ≡ g ++ other = cc in among g rest

    one : (b : Bool) → nat_le (bytes_of (e ∷ es)) most ≡ b → ((g : List Entry) → es ≡ g ++ other → length other ≤ length (longest_fitting most es)) → length other ≤ length (cond b (e ∷ es) (longest_fitting most es))
    one true h among = omega (arith, ap length is, length-append gone other)
    one false h among = later gone is (leb-false (bytes_of (e ∷ es)) most h) among

pub is_longest : (most : ℕ) (es : List Entry) → IsLongestFitting most es (longest_fitting most es)
is_longest most es = record { suffix = cut_off most es; fits = fits most es; longest = no_longer most es }

-- before an entry that fits alone, what fits beside it stays
pub beside : (most : ℕ) (es : List Entry) (new : Entry) → new.size ≤ most → longest_fitting most (es ++ new ∷ []) ≡ longest_fitting (most - new.size) es ++ new ∷ []
beside most [] new h = stays most (new ∷ []) (omega (arith, h))
beside most (e ∷ es) new h = one (nat_le (bytes_of (e ∷ es)) (most - new.size)) refl (beside most es new h)
  where
    one : (b : Bool) → nat_le (bytes_of (e ∷ es)) (most - new.size) ≡ b → longest_fitting most (es ++ new ∷ []) ≡ longest_fitting (most - new.size) es ++ new ∷ [] → longest_fitting most (e ∷ es ++ new ∷ []) ≡ cond b (e ∷ es) (longest_fitting (most - new.size) es) ++ new ∷ []
    one true is rest = stays most (e ∷ es ++ new ∷ []) (omega (arith, h, leb-true (bytes_of (e ∷ es)) (most - new.size) is, sum_by_push (λ (x : Entry). x.size) (e ∷ es) new))
    one false is rest = sym (goes most (e ∷ es ++ new ∷ []) (omega (arith, h, leb-false (bytes_of (e ∷ es)) (most - new.size) is, sum_by_push (λ (x : Entry). x.size) (e ∷ es) new))) ∙ rest

-- before an entry that is larger than all may be, nothing stays, and not that entry either
pub all_go : (most : ℕ) (es : List Entry) (new : Entry) → most < new.size → longest_fitting most (es ++ new ∷ []) ≡ []
all_go most [] new h = sym (goes most (new ∷ []) (omega (arith, h)))
all_go most (e ∷ es) new h = sym (goes most (e ∷ es ++ new ∷ []) (omega (arith, h, sum_by_push (λ (x : Entry). x.size) (e ∷ es) new))) ∙ all_go most es new h
