-- A text that is two pieces is cut in one of them.
use Rattle.std.proofs.Common.{◌≡◌, ℕ, ◌<◌, ◌⊎◌, inl, inr, List, [], ◌∷◌, ◌++◌, length, refl, sym, arith}

-- x ends past the first piece, or within it
pub splits : (a b x y : List ℕ) → x ++ y ≡ a ++ b
    → ((m : List ℕ) × (x ≡ a ++ m) × (b ≡ m ++ y)) ⊎ ((m : List ℕ) × (a ≡ x ++ m) × (0 < length m) × (y ≡ m ++ b))
splits [] b x y e = inl (x, refl, sym e)
splits (c ∷ a) b [] y e = inr (c ∷ a, refl, omega arith, e)
splits (c ∷ a) b (d ∷ x) y e =
    let first : d ≡ c = cc in
    let rest : x ++ y ≡ a ++ b = cc in
    elim (splits a b x y rest) [ inl t ↦ inl (t.0, cc (first, t.1), t.2) | inr t ↦ inr (t.0, cc (first, t.1), t.2, t.3) ]
