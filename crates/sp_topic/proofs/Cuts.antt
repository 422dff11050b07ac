-- Where a text is cut behind its first level.
use Rattle.std.proofs.Common.{◌≡◌, ◌+◌, ◌≤◌, ℕ, suc, inl, inr, true, false, not, cond, List, [], ◌∷◌, length, take, drop, refl, ap, arith, Some, None}
use Rattle.std.specs.Prelude.{◌==◌, nat_lt, position}
use Rattle.std.specs.List.{onto_first, position_or_len}
use Rattle.std.proofs.lemmas.Bool.{ltb-true, ltb-false, cond-true, cond-false, cases_Bool}
use Rattle.std.proofs.lemmas.List.Splits.{slice_split_first}
use Rattle.sp_base.specs.Topic.{levels}

-- a text with no slash is one level
whole : (text : List ℕ) → length text ≤ position_or_len (λ b. b == 47) text → levels text ≡ text ∷ []
whole [] h = refl
whole (x ∷ xs) h =
    elim (x == 47) as (λ t. suc (length xs) ≤ cond (not t) (1 + position_or_len (λ b. b == 47) xs) 0 → cond t ([] ∷ levels xs) (onto_first x (levels xs)) ≡ (x ∷ xs) ∷ []) [
      | true ↦ λ h. absurd (omega arith)
      | false ↦ λ h. ap (onto_first x) (whole xs (omega arith))
    ] h

pub levels-no_slash : (text : List ℕ) → position (λ b. b == 47) text ≡ None → levels text ≡ text ∷ []
levels-no_slash text h =
    elim (cases_Bool (nat_lt (position_or_len (λ b. b == 47) text) (length text))) [
      | inl found_one ↦ absurd (cc (cond-true (nat_lt (position_or_len (λ b. b == 47) text) (length text)) (Some (position_or_len (λ b. b == 47) text)) None found_one))
      | inr not_so ↦ whole text (ltb-false _ _ not_so)
    ]

pub levels-slash_at : (text : List ℕ) (at : ℕ) → position (λ b. b == 47) text ≡ Some at → levels text ≡ take at text ∷ levels (drop (at + 1) text)
levels-slash_at text at h =
    elim (cases_Bool (nat_lt (position_or_len (λ b. b == 47) text) (length text))) [
      | inl found_one ↦
          let found = cond-true (nat_lt (position_or_len (λ b. b == 47) text) (length text)) (Some (position_or_len (λ b. b == 47) text)) None found_one in
          let place : position_or_len (λ b. b == 47) text ≡ at = cc in
          rw (← place) (slice_split_first (λ b. b == 47) text 0 (ltb-true _ _ found_one))
      | inr not_so ↦ absurd (cc (cond-false (nat_lt (position_or_len (λ b. b == 47) text) (length text)) (Some (position_or_len (λ b. b == 47) text)) None not_so))
    ]
