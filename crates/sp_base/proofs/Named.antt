-- What a word stands for among choices that each have a word of their own.
use Rattle.std.proofs.Common.{◌≡◌, ◌∙◌, ℕ, Bool, true, false, cond, List, [], ◌∷◌, refl, sym, ap, Some, None, bytes_eq}
use Rattle.std.specs.Prelude.{find, ◌↔◌}
use Rattle.std.proofs.lemmas.Slice.Eq.{bytes_eq-Decides}
use Rattle.sp_base.specs.Choice.{choice_named}

-- what is found passes
found_passes : {C : Type 0} (p : C → Bool) (xs : List C) (c : C) → find p xs ≡ Some c → p c ≡ true
found_passes p [] c h = cc
found_passes p (x ∷ xs) c h = at_head (p x) refl (found_passes p xs c) h
  where
    at_head : (b : Bool) → p x ≡ b → (find p xs ≡ Some c → p c ≡ true) → cond b (Some x) (find p xs) ≡ Some c → p c ≡ true
    at_head true e later h = cc
    at_head false e later h = later h

module _ {C : Type 0} (word_of : C → List ℕ) (choices : List C) where
  pub named_exactly : ((c : C) → choice_named word_of choices (word_of c) ≡ Some c) → (word : List ℕ) (c : C) → (choice_named word_of choices word ≡ Some c) ↔ (word_of c ≡ word)
  named_exactly each word c = (
    λ h. (bytes_eq-Decides (word_of c) word).0 (found_passes (λ d. bytes_eq (word_of d) word) choices c h),
    λ h. ap (choice_named word_of choices) (sym h) ∙ each c,
  )
