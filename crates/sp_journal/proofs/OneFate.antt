-- Bytes have one fate when they are opened.
use Rattle.std.proofs.Common.{◌≡◌, ℕ, ◌≤◌, List, [], ◌∷◌, ◌++◌, length, take, drop, refl, sym, ap, ◌∙◌, arith, inl, inr, length-append, append_assoc}
use Rattle.sp_unit.specs.UnitBytes.{UnitView}
use Rattle.sp_journal.specs.Closing.{IsClosedAt}
use Rattle.sp_journal.specs.Damage.{IsBorn, HasName, version_of, StopsAt, IsDamaged, IsOtherVersion}
use Rattle.sp_journal.specs.Format.{heading, IsFront, EndsAt, IsUnborn}
use Rattle.sp_journal.proofs.OneReading.{EndsUnits, ends_units, same_behind, same_place}

-- a front begins with a birth gate that is open, the name and the version
module _ (xs : List UnitView) (front s file : List ℕ) (a : IsFront xs front) (is : file ≡ front ++ s) where
  whole : file ≡ a.birth ∷ (heading ++ (a.tail ++ s))
  whole = is ∙ ap (λ (l : List ℕ). l ++ s) a.bytes ∙ ap (λ (l : List ℕ). a.birth ∷ l) (append_assoc heading a.tail s)

  pub front_open : IsClosedAt 0 file → ⊥
  front_open shut =
      let begins : a.birth ∷ [] ≡ 0 ∷ [] = sym (ap (λ (l : List ℕ). take 1 l) whole) ∙ shut in
      let is_shut : a.birth ≡ 0 = cc in
      a.born is_shut

  pub front_name : HasName file
  front_name = ap (λ (l : List ℕ). take 8 (drop 1 l)) whole

  pub front_version : version_of file ≡ 1
  front_version = ap (λ (l : List ℕ). version_of l) whole

  front_long : (gate : ℕ) (behind : List ℕ) → s ≡ gate ∷ behind → 14 ≤ length file
  front_long gate behind more =
      omega (
        arith,
        ap length is,
        length-append front s,
        ap length a.bytes,
        length-append heading a.tail,
        ap length more,
      )

stops_units : (units : List UnitView) (place : ℕ) (file : List ℕ) (s : StopsAt units place file)
    → EndsUnits (s.gate ∷ s.behind)
stops_units units place file s = (s.gate, s.behind, refl, inr s.no_unit)

-- a journal that ends isn't damaged
pub ends_sound : (xs : List UnitView) (place at : ℕ) (file : List ℕ) → EndsAt xs place file → IsDamaged at file → ⊥
ends_sound xs place at file e (inl long) = front_open xs e.front (0 ∷ e.behind) file e.is_front e.bytes long.2
ends_sound xs place at file e (inr (inl named)) = named.2 (front_name xs e.front (0 ∷ e.behind) file e.is_front e.bytes)
ends_sound xs place at file e (inr (inr stops)) =
    let s = stops.1 in
    let same : 0 ∷ e.behind ≡ s.gate ∷ s.behind =
    same_behind xs stops.0 e.front s.front (0 ∷ e.behind) (s.gate ∷ s.behind) file e.is_front s.is_front e.bytes s.bytes
    (ends_units xs place file e) (stops_units stops.0 at file s) in
    let shut : s.gate ≡ 0 = cc in
    s.shown shut

-- nor of another version
pub ends_version : (xs : List UnitView) (place found : ℕ) (file : List ℕ) → EndsAt xs place file
    → IsOtherVersion found file → ⊥
ends_version xs place found file e other =
    other.3 (sym other.2 ∙ front_version xs e.front (0 ∷ e.behind) file e.is_front e.bytes)

-- what is born isn't unborn
pub born_not_unborn : (file : List ℕ) → IsBorn file → IsUnborn file → ⊥
born_not_unborn file born (inl short) = omega (arith, born.0, short)
born_not_unborn file born (inr blank) = born.1 blank.1

module _ (at : ℕ) (file : List ℕ) where
  -- what is damaged is of no other version
  pub damaged_version : (found : ℕ) → IsDamaged at file → IsOtherVersion found file → ⊥
  damaged_version found (inl long) other = other.0.1 long.2
  damaged_version found (inr (inl named)) other = named.2 other.1
  damaged_version found (inr (inr stops)) other =
      let s = stops.1 in
      other.3 (sym other.2 ∙ front_version stops.0 s.front (s.gate ∷ s.behind) file s.is_front s.bytes)

  -- and not unborn
  pub damaged_unborn : IsDamaged at file → IsUnborn file → ⊥
  damaged_unborn (inl long) (inl short) = omega (arith, long.1, short)
  damaged_unborn (inl long) (inr blank) = omega (arith, long.1, blank.0)
  damaged_unborn (inr (inl named)) unborn = born_not_unborn file named.1 unborn
  damaged_unborn (inr (inr stops)) unborn =
      let s = stops.1 in
      let long = front_long stops.0 s.front (s.gate ∷ s.behind) file s.is_front s.bytes s.gate s.behind refl in
      elim unborn [
        | inl short ↦ omega (arith, short, long)
        | inr blank ↦ front_open stops.0 s.front (s.gate ∷ s.behind) file s.is_front s.bytes blank.1
      ]

  -- and damaged at one place
  pub one_damage : (other : ℕ) → IsDamaged at file → IsDamaged other file → other ≡ at
  one_damage other (inl a) (inl b) = b.0 ∙ sym a.0
  one_damage other (inl a) (inr (inl b)) = absurd (b.1.1 a.2)
  one_damage other (inl a) (inr (inr b)) =
      absurd (front_open b.0 b.1.front (b.1.gate ∷ b.1.behind) file b.1.is_front b.1.bytes a.2)
  one_damage other (inr (inl a)) (inl b) = absurd (a.1.1 b.2)
  one_damage other (inr (inl a)) (inr (inl b)) = b.0 ∙ sym a.0
  one_damage other (inr (inl a)) (inr (inr b)) =
      absurd (a.2 (front_name b.0 b.1.front (b.1.gate ∷ b.1.behind) file b.1.is_front b.1.bytes))
  one_damage other (inr (inr a)) (inl b) =
      absurd (front_open a.0 a.1.front (a.1.gate ∷ a.1.behind) file a.1.is_front a.1.bytes b.2)
  one_damage other (inr (inr a)) (inr (inl b)) =
      absurd (b.2 (front_name a.0 a.1.front (a.1.gate ∷ a.1.behind) file a.1.is_front a.1.bytes))
  one_damage other (inr (inr a)) (inr (inr b)) =
      sym b.1.is_place
      ∙ same_place b.0 a.0 b.1.front a.1.front (b.1.gate ∷ b.1.behind) (a.1.gate ∷ a.1.behind) file b.1.is_front
      a.1.is_front
      b.1.bytes a.1.bytes (stops_units b.0 other file b.1) (stops_units a.0 at file a.1)
      ∙ a.1.is_place
