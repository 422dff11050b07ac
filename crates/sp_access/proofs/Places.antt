-- Where the flow of a number stands.
use Rattle.std.proofs.Common.{◌≡◌, ◌<◌, ◌==◌, ◌&&◌, ℕ, zero, suc, Bool, true, false, cond, List, [], ◌∷◌, length, get_or, Option, Some, None, refl, sym, ◌∙◌, arith}
use Rattle.std.specs.Prelude.{All, AllPairs, ◌≢◌, find}
use Rattle.std.proofs.lemmas.Bool.{eqb-true, eq-eqb}
use Rattle.std.proofs.lemmas.List.Elements.{All-head, All-tail, All-weaker}
use Rattle.sp_access.specs.Flow.{FlowView}

abbrev pub Below : FlowView → FlowView → Type 0
Below a b = a.number < b.number

abbrev Rise : List FlowView → Type 0
Rise fs = AllPairs Below fs

abbrev IsOther : ℕ → FlowView → Type 0
IsOther number f = f.number ≢ number

-- the flows that stand behind the first
later : (f : FlowView) (fs : List FlowView) → Rise (f ∷ fs) → All (Below f) fs
later f fs p k d lt = p 0 (suc k) d (omega arith) (omega arith)

later_rise : (f : FlowView) (fs : List FlowView) → Rise (f ∷ fs) → Rise fs
later_rise f fs p i j d lt le = p (suc i) (suc j) d (omega arith) (omega arith)

other_test : (m n : ℕ) → m ≢ n → (m == n) ≡ false
other_test m n h = one (m == n) refl
  where
    one : (b : Bool) → (m == n) ≡ b → (m == n) ≡ false
    one false is = is
    one true is = absurd (h (eqb-true m n is))

module _ (number : ℕ) (q : FlowView → Bool) where
  -- the flow of the number, where it passes
  abbrev pub passing : List FlowView → Option FlowView
  passing fs = find (λ f. (f.number == number) && q f) fs

  pub none_found : (fs : List FlowView) → All (IsOther number) fs → None ≡ passing fs
  none_found [] all = refl
  none_found (f ∷ fs) all =
      none_found fs (All-tail (IsOther number) f fs all)
      ∙ (λ i. cond (sym (other_test f.number number (All-head (IsOther number) f fs all)) i && q f) (Some f) (passing fs))

  pub one_found : (fs : List FlowView) (place : ℕ) (d : FlowView) → Rise fs → place < length fs → (get_or fs place d).number ≡ number → cond (q (get_or fs place d)) (Some (get_or fs place d)) None ≡ passing fs
  one_found [] place d rise lt is = absurd (omega (arith, lt))
  one_found (f ∷ fs) zero d rise lt is =
      one (q f) (none_found fs (All-weaker (Below f) (IsOther number) (λ g less same. omega (arith, less, is, same)) fs (later f fs rise)))
      ∙ (λ i. cond (sym (eq-eqb f.number number is) i && q f) (Some f) (passing fs))
    where
      one : (b : Bool) → None ≡ passing fs → cond b (Some f) None ≡ cond b (Some f) (passing fs)
      one true none = refl
      one false none = none
  one_found (f ∷ fs) (suc place) d rise lt is =
      let less = later f fs rise place d (omega (arith, lt)) in
      one_found fs place d (later_rise f fs rise) (omega (arith, lt)) is
      ∙ (λ i. cond (sym (other_test f.number number (λ same. omega (arith, less, is, same))) i && q f) (Some f) (passing fs))

-- where every flow passes, it is the flow of the number
pub by_number : (number : ℕ) (fs : List FlowView) → passing number (λ f. true) fs ≡ find (λ f. f.number == number) fs
by_number number fs i = find (λ f. plain (f.number == number) i) fs
  where
    plain : (b : Bool) → (b && true) ≡ b
    plain true = refl
    plain false = refl
