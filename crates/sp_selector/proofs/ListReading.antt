-- Texts and items that were read before others.
use Rattle.std.proofs.Common.{◌≡◌, ◌++◌, ℕ, List, [], ◌∷◌, Ok, Err, refl, ap, sym, append_assoc}
use Rattle.sp_selector.specs.Parser.{◌>>=◌, Reading}

-- what was read, behind texts that were read before
abbrev pub with_front : List (List ℕ) → Reading (List (List ℕ)) → Reading (List (List ℕ))
with_front front reading = reading >>= λ x. Ok (front ++ x.0, x.1)

pub one_more_text : (front : List (List ℕ)) (t : List ℕ) (reading : Reading (List (List ℕ))) → with_front front (reading >>= λ x. Ok (t ∷ x.0, x.1)) ≡ with_front (front ++ t ∷ []) reading
one_more_text front t (Ok x) = ap (λ texts. Ok (texts, x.1)) (sym (append_assoc front (t ∷ []) x.0))
one_more_text front t (Err k) = refl
