-- What a torn write leaves of a file, for those that stand on the rules of a disk.
use Rattle.std.proofs.Common.{◌≡◌, ◌≢◌, ◌⊎◌, inl, inr, ◌∙◌, refl, sym, ap, subst, ℕ, ◌+◌, ◌≤◌, min, List, [], ◌∷◌, ◌++◌, length, take, drop, get_or, arith, length-append, take-append-drop, append_assoc}
use Rattle.std.proofs.lemmas.Bool.{cases_eq}
use Rattle.std.proofs.lemmas.List.{take_at, drop_at, drop_more}
use Rattle.std.proofs.lemmas.Grind.{common_steps}
use Rattle.sp_disk.specs.Disk.{Torn, written}

-- a write that isn't done may be half done, and so may one that is
pub torn_same : (at count : ℕ) (file : List ℕ) → Torn at count file file
torn_same at count file = record {
  before = grind (arith, common_steps);
  behind = refl;
  no_shorter = omega arith;
  no_longer = omega arith;
}

pub torn_written : (at : ℕ) (bytes file : List ℕ) → Torn at (length bytes) file (written file at bytes)
torn_written at bytes file = record {
  before = grind (arith, common_steps);
  behind = grind (arith, common_steps);
  no_shorter = grind (arith, common_steps);
  no_longer = grind (arith, common_steps);
}

-- what stands before the range stays
pub torn_front : (at count : ℕ) (old new : List ℕ) → at ≤ length old → Torn at count old new → take at new ≡ take at old
torn_front at count old new le torn =
    let least : min at (length old) ≡ at = omega arith in
    subst (λ (n : ℕ). take n new ≡ take at old) least torn.before

-- a byte at a place of a file, with what stands before and behind it
module _ (front : List ℕ) (byte : ℕ) (behind : List ℕ) (place : ℕ) (is_place : length front ≡ place) where
  before_byte : take place (front ++ byte ∷ behind) ≡ front
  before_byte = take_at front (byte ∷ behind) place is_place

  up_to_byte : take (place + 1) (front ++ byte ∷ behind) ≡ front ++ byte ∷ []
  up_to_byte =
      ap (λ (l : List ℕ). take (place + 1) l) (sym (append_assoc front (byte ∷ []) behind))
      ∙ take_at (front ++ byte ∷ []) behind (place + 1) (omega (arith, is_place, length-append front (byte ∷ [])))

  behind_byte : drop (place + 1) (front ++ byte ∷ behind) ≡ behind
  behind_byte =
      ap (λ (l : List ℕ). drop (place + 1) l) (sym (append_assoc front (byte ∷ []) behind))
      ∙ drop_at (front ++ byte ∷ []) behind (place + 1) (omega (arith, is_place, length-append front (byte ∷ [])))

  long : place + 1 ≤ length (front ++ byte ∷ behind)
  long = omega (arith, is_place, length-append front (byte ∷ behind))

  -- a torn write behind the byte leaves it and what stands before it
  pub torn_behind : (count : ℕ) (new : List ℕ) → Torn (place + 1) count (front ++ byte ∷ behind) new
      → new ≡ front ++ byte ∷ drop (place + 1) new
  torn_behind count new torn =
      sym (take-append-drop (place + 1) new)
      ∙ ap (λ (l : List ℕ). l ++ drop (place + 1) new)
      (torn_front (place + 1) count (front ++ byte ∷ behind) new long torn ∙ up_to_byte)
      ∙ append_assoc front (byte ∷ []) (drop (place + 1) new)

  -- a torn write of the byte leaves all the others
  pub torn_byte : (new : List ℕ) → Torn place 1 (front ++ byte ∷ behind) new → new ≡ front ++ get_or new place 0 ∷ behind
  torn_byte new torn =
      sym (take-append-drop place new)
      ∙ ap (λ (l : List ℕ). l ++ drop place new)
      (torn_front place 1 (front ++ byte ∷ behind) new (omega (arith, long)) torn ∙ before_byte)
      ∙ ap (λ (l : List ℕ). front ++ l)
      (drop_more new place 0 (omega (arith, long, torn.no_shorter))
      ∙ ap (λ (l : List ℕ). get_or new place 0 ∷ l) (torn.behind ∙ behind_byte))

  -- so there are two cases: the file is as it was, or another byte stands there
  pub torn_byte_cases : (new : List ℕ) → Torn place 1 (front ++ byte ∷ behind) new
      → (new ≡ front ++ byte ∷ behind) ⊎ ((other : ℕ) × (other ≢ byte) × (new ≡ front ++ other ∷ behind))
  torn_byte_cases new torn = by (cases_eq (get_or new place 0) byte)
    where
      by : (get_or new place 0 ≡ byte) ⊎ (get_or new place 0 ≢ byte)
          → (new ≡ front ++ byte ∷ behind) ⊎ ((other : ℕ) × (other ≢ byte) × (new ≡ front ++ other ∷ behind))
      by (inl same) = inl (torn_byte new torn ∙ ap (λ (b : ℕ). front ++ b ∷ behind) same)
      by (inr other) = inr (get_or new place 0, other, torn_byte new torn)

  -- a write of the byte, and one behind it
  pub written_byte : (other : ℕ) → written (front ++ byte ∷ behind) place (other ∷ []) ≡ front ++ other ∷ behind
  written_byte other =
      ap (λ (l : List ℕ). l ++ (other ∷ []) ++ drop (place + 1) (front ++ byte ∷ behind)) before_byte
      ∙ ap (λ (l : List ℕ). front ++ (other ∷ []) ++ l) behind_byte
      ∙ append_assoc front (other ∷ []) behind

  pub written_behind : (bytes : List ℕ) → written (front ++ byte ∷ behind) (place + 1) bytes
      ≡ front ++ byte ∷ (bytes ++ drop (place + 1 + length bytes) (front ++ byte ∷ behind))
  written_behind bytes =
      let far = drop (place + 1 + length bytes) (front ++ byte ∷ behind) in
      ap (λ (l : List ℕ). l ++ bytes ++ far) up_to_byte
      ∙ append_assoc (front ++ byte ∷ []) bytes far
      ∙ append_assoc front (byte ∷ []) (bytes ++ far)
