-- Tests of the texts that a list of references lends.
use Rattle.std.proofs.Common.{◌≡◌, ℕ, Bool, List, [], ◌∷◌, ◌||◌, ◌&&◌, refl, ap}
use Rattle.std.specs.List.{list_any, list_all}
use Rattle.std.specs.Borrow.{Bor}
use Rattle.sp_json.specs.Names.{texts}

pub any_of_texts : (p : List ℕ → Bool) (keys : List (Bor (List ℕ)))
    → list_any (λ s. p s.now) keys ≡ list_any p (texts keys)
any_of_texts p [] = refl
any_of_texts p (k ∷ ks) = ap (λ (b : Bool). p k.now || b) (any_of_texts p ks)

pub all_of_texts : (p : List ℕ → Bool) (keys : List (Bor (List ℕ)))
    → list_all (λ s. p s.now) keys ≡ list_all p (texts keys)
all_of_texts p [] = refl
all_of_texts p (k ∷ ks) = ap (λ (b : Bool). p k.now && b) (all_of_texts p ks)
