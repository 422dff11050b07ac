-- Bytes have one list of units.
use Rattle.std.proofs.Common.{◌≡◌, ◌≢◌, ◌⊎◌, ℕ, ◌≤◌, List, [], ◌∷◌, ◌++◌, length, take, drop, refl, sym, ap, subst, ◌∙◌, arith, inl, inr, length-append, append_assoc}
use Rattle.std.proofs.lemmas.List.{take_at, drop_at, append_cancel_left}
use Rattle.std.proofs.lemmas.Nat.{from_le_bytes-to_le_bytes_4}
use Rattle.std.specs.Int.{w32, to_le_bytes, from_le_bytes}
use Rattle.sp_unit.proofs.Lengths.{unit_len}
use Rattle.sp_unit.proofs.Units.{one_unit}
use Rattle.sp_unit.specs.UnitBytes.{KeepsUnitRules, UnitView, unit_bytes}
use Rattle.sp_journal.specs.Damage.{BeginsWithUnit}
use Rattle.sp_journal.specs.Format.{heading, framed, AreUnits, IsFront, ComesTo, EndsAt, IsUnborn, HasUnits}
use Rattle.sp_journal.specs.Unsure.{KeepsUnits}

-- bytes behind their length are read in one way
module _ (a b x y : List ℕ) (le_a : length a ≤ 16777216) (le_b : length b ≤ 16777216)
    (same : framed a ++ x ≡ framed b ++ y) where
  abbrev size : List ℕ → List ℕ
  size body = to_le_bytes w32 (length body)

  tails : size a ++ (a ++ x) ≡ size b ++ (b ++ y)
  tails = sym (append_assoc (size a) a x) ∙ same ∙ append_assoc (size b) b y

  sizes : length a ≡ length b
  sizes =
      let heads : size a ≡ size b =
      sym (take_at (size a) (a ++ x) 4 refl) ∙ ap (λ (l : List ℕ). take 4 l) tails ∙ take_at (size b) (b ++ y) 4 refl in
      sym (from_le_bytes-to_le_bytes_4 (length a) (omega (arith, le_a)))
      ∙ ap (λ (l : List ℕ). from_le_bytes w32 l) heads
      ∙ from_le_bytes-to_le_bytes_4 (length b) (omega (arith, le_b))

  rests : a ++ x ≡ b ++ y
  rests =
      sym (drop_at (size a) (a ++ x) 4 refl) ∙ ap (λ (l : List ℕ). drop 4 l) tails ∙ drop_at (size b) (b ++ y) 4 refl

  pub same_body : a ≡ b
  same_body =
      sym (take_at a x (length a) refl) ∙ ap (λ (l : List ℕ). take (length a) l) rests
      ∙ take_at b y (length a) (sym sizes)

  pub same_rest : x ≡ y
  same_rest =
      sym (drop_at a x (length a) refl) ∙ ap (λ (l : List ℕ). drop (length a) l) rests
      ∙ drop_at b y (length a) (sym sizes)

-- and so is a unit
module _ (a b : UnitView) (x y : List ℕ) (keeps : KeepsUnitRules a) (also : KeepsUnitRules b)
    (same : framed (unit_bytes a) ++ x ≡ framed (unit_bytes b) ++ y) where
  short_a : length (unit_bytes a) ≤ 16777216
  short_a = unit_len (unit_bytes a) a (keeps, refl)

  short_b : length (unit_bytes b) ≤ 16777216
  short_b = unit_len (unit_bytes b) b (also, refl)

  pub same_unit : a ≡ b
  same_unit =
      one_unit (unit_bytes a) a b (keeps, refl) (also, same_body (unit_bytes a) (unit_bytes b) x y short_a short_b same)

  pub same_behind_unit : x ≡ y
  same_behind_unit = same_rest (unit_bytes a) (unit_bytes b) x y short_a short_b same

-- no unit goes on from here: the gate is closed, or it is open and none follows
abbrev pub EndsUnits : List ℕ → Type 0
EndsUnits bytes = (gate : ℕ) × (behind : List ℕ) × (bytes ≡ gate ∷ behind) × ((gate ≡ 0) ⊎ (¬ BeginsWithUnit behind))

-- more bytes behind a unit and a gate
follows : (unit : UnitView) (rest bytes : List ℕ) → KeepsUnitRules unit → EndsUnits bytes
    → BeginsWithUnit (framed (unit_bytes unit) ++ (rest ++ bytes))
follows unit [] bytes keeps ends =
    (unit, ends.0, ends.1, keeps, ap (λ (l : List ℕ). framed (unit_bytes unit) ++ l) ends.2)
follows unit (r ∷ rest) bytes keeps ends = (unit, r, rest ++ bytes, keeps, refl)

-- it doesn't end where a unit goes on
goes_on : (unit : UnitView) (rest more bytes : List ℕ) (gate : ℕ) → gate ≢ 0 → KeepsUnitRules unit → EndsUnits more
    → bytes ≡ gate ∷ ((framed (unit_bytes unit) ++ rest) ++ more) → EndsUnits bytes → ⊥
goes_on unit rest more bytes gate shown keeps others same ends =
    let body : List ℕ = framed (unit_bytes unit) in
    let both : ends.0 ∷ ends.1 ≡ gate ∷ ((body ++ rest) ++ more) = sym ends.2 ∙ same in
    let first : ends.0 ≡ gate = cc in
    let behind : ends.1 ≡ (body ++ rest) ++ more = cc in
    let joined : ends.1 ≡ body ++ (rest ++ more) = behind ∙ append_assoc body rest more in
    elim ends.3 [
      | inl shut ↦ shown (sym first ∙ shut)
      | inr none ↦ none (subst (λ (l : List ℕ). BeginsWithUnit l) (sym joined) (follows unit rest more keeps others))
    ]

-- the first bytes of two readings
pub joined_at : (a b p q s t u v : List ℕ) (gate other : ℕ) → u ≡ gate ∷ (a ++ p) → v ≡ other ∷ (b ++ q) → u ++ s ≡ v ++ t
    → a ++ (p ++ s) ≡ b ++ (q ++ t)
joined_at a b p q s t u v gate other is also same =
    let begins : gate ∷ ((a ++ p) ++ s) ≡ other ∷ ((b ++ q) ++ t) =
    sym (ap (λ (l : List ℕ). l ++ s) is) ∙ same ∙ ap (λ (l : List ℕ). l ++ t) also in
    sym (append_assoc a p s) ∙ ap (λ (l : List ℕ). drop 1 l) begins ∙ append_assoc b q t

-- units that end, and what stands behind them
pub same_end : (xs ys : List UnitView) (u v s t : List ℕ) → AreUnits xs u → AreUnits ys v → EndsUnits s → EndsUnits t
    → u ++ s ≡ v ++ t → (xs ≡ ys) × (length u ≡ length v) × (s ≡ t)
same_end [] [] u v s t is_u is_v ends also same = (
  refl,
  ap length (is_u ∙ sym is_v),
  sym (ap (λ (l : List ℕ). l ++ s) is_u) ∙ same ∙ ap (λ (l : List ℕ). l ++ t) is_v,
)
same_end [] (y ∷ ys) u v s t is_u is_v ends also same =
    absurd (goes_on y is_v.1 t s is_v.0 is_v.2 is_v.3 also
    (sym (ap (λ (l : List ℕ). l ++ s) is_u) ∙ same ∙ ap (λ (l : List ℕ). l ++ t) is_v.4) ends)
same_end (x ∷ xs) [] u v s t is_u is_v ends also same =
    absurd (goes_on x is_u.1 s t is_u.0 is_u.2 is_u.3 ends
    (sym (ap (λ (l : List ℕ). l ++ t) is_v) ∙ sym same ∙ ap (λ (l : List ℕ). l ++ s) is_u.4) also)
same_end (x ∷ xs) (y ∷ ys) u v s t is_u is_v ends also same =
    let a : List ℕ = framed (unit_bytes x) in
    let b : List ℕ = framed (unit_bytes y) in
    let joined : a ++ (is_u.1 ++ s) ≡ b ++ (is_v.1 ++ t) =
    joined_at a b is_u.1 is_v.1 s t u v is_u.0 is_v.0 is_u.4 is_v.4 same in
    let first : x ≡ y = same_unit x y (is_u.1 ++ s) (is_v.1 ++ t) is_u.3 is_v.3 joined in
    let others = same_end xs ys is_u.1 is_v.1 s t is_u.5 is_v.5 ends also
    (same_behind_unit x y (is_u.1 ++ s) (is_v.1 ++ t) is_u.3 is_v.3 joined) in
    let long : length a ≡ length b = ap (λ (unit : UnitView). length (framed (unit_bytes unit))) first in (
      cc,
      omega (arith, ap length is_u.4, ap length is_v.4, length-append a is_u.1, length-append b is_v.1, long, others.1),
      others.2,
    )

-- two fronts of one file
module _ (xs ys : List UnitView) (front other s t file : List ℕ) (a : IsFront xs front) (b : IsFront ys other)
    (is : file ≡ front ++ s) (also : file ≡ other ++ t) (ends : EndsUnits s) (ends_too : EndsUnits t) where
  behind_fronts : heading ++ (a.tail ++ s) ≡ heading ++ (b.tail ++ t)
  behind_fronts =
      let left : file ≡ a.birth ∷ (heading ++ (a.tail ++ s)) =
      is ∙ ap (λ (l : List ℕ). l ++ s) a.bytes ∙ ap (λ (l : List ℕ). a.birth ∷ l) (append_assoc heading a.tail s) in
      let right : file ≡ b.birth ∷ (heading ++ (b.tail ++ t)) =
      also ∙ ap (λ (l : List ℕ). l ++ t) b.bytes ∙ ap (λ (l : List ℕ). b.birth ∷ l) (append_assoc heading b.tail t) in
      ap (λ (l : List ℕ). drop 1 l) (sym left ∙ right)

  all : (xs ≡ ys) × (length a.tail ≡ length b.tail) × (s ≡ t)
  all = same_end xs ys a.tail b.tail s t a.are_units b.are_units ends ends_too
      (append_cancel_left heading (a.tail ++ s) (b.tail ++ t) behind_fronts)

  pub same_list : xs ≡ ys
  same_list = all.0

  pub same_place : length front ≡ length other
  same_place =
      omega (
        arith,
        ap length a.bytes,
        ap length b.bytes,
        length-append heading a.tail,
        length-append heading b.tail,
        all.1,
      )

  pub same_behind : s ≡ t
  same_behind = all.2

pub ends_units : (units : List UnitView) (place : ℕ) (file : List ℕ) (e : EndsAt units place file)
    → EndsUnits (0 ∷ e.behind)
ends_units units place file e = (0, e.behind, refl, inl refl)

module _ (xs ys : List UnitView) (p q : ℕ) (file : List ℕ) (a : EndsAt xs p file) (b : EndsAt ys q file) where
  pub one_list : xs ≡ ys
  one_list =
      same_list xs ys a.front b.front (0 ∷ a.behind) (0 ∷ b.behind) file a.is_front b.is_front a.bytes b.bytes
      (ends_units xs p file a) (ends_units ys q file b)

  pub one_place : p ≡ q
  one_place =
      let same : length a.front ≡ length b.front =
      same_place xs ys a.front b.front (0 ∷ a.behind) (0 ∷ b.behind) file a.is_front b.is_front a.bytes b.bytes
      (ends_units xs p file a) (ends_units ys q file b) in
      sym a.is_place ∙ same ∙ b.is_place

-- a file that is not born has no gate
pub unborn_comes : (units : List UnitView) (place : ℕ) (file : List ℕ) → IsUnborn file → ComesTo units place file → ⊥
unborn_comes units place file unborn comes =
    elim unborn [ inl short ↦ omega (arith, short, long) | inr at_end ↦ comes.is_front.born (shut at_end.1) ]
  where
    left : file ≡ comes.is_front.birth ∷ (heading ++ comes.is_front.tail) ++ comes.gate ∷ comes.behind
    left = comes.bytes ∙ ap (λ (l : List ℕ). l ++ comes.gate ∷ comes.behind) comes.is_front.bytes

    long : 14 ≤ length file
    long = omega (
      arith,
      ap length comes.bytes,
      length-append comes.front (comes.gate ∷ comes.behind),
      ap length comes.is_front.bytes,
      length-append heading comes.is_front.tail,
    )

    shut : take 1 file ≡ 0 ∷ [] → comes.is_front.birth ≡ 0
    shut closed =
        let begins : comes.is_front.birth ∷ [] ≡ 0 ∷ [] = sym (ap (λ (l : List ℕ). take 1 l) left) ∙ closed in
        cc

-- nor does it end anywhere
pub unborn_ends : (units : List UnitView) (place : ℕ) (file : List ℕ) → IsUnborn file → EndsAt units place file → ⊥
unborn_ends units place file unborn ends =
    unborn_comes units place file unborn
    (record {
      front = ends.front;
      gate = 0;
      behind = ends.behind;
      is_front = ends.is_front;
      is_place = ends.is_place;
      bytes = ends.bytes;
    })

-- bytes have one list of units
pub one_history : (xs ys : List UnitView) (file : List ℕ) → HasUnits xs file → HasUnits ys file → xs ≡ ys
one_history xs ys file (inl a) (inl b) = a.0 ∙ sym b.0
one_history xs ys file (inl a) (inr b) = absurd (unborn_ends ys b.0 file a.1 b.1)
one_history xs ys file (inr a) (inl b) = absurd (unborn_ends xs a.0 file b.1 a.1)
one_history xs ys file (inr a) (inr b) = one_list xs ys a.0 b.0 file a.1 b.1

-- what keeps its units has the units that it had
module _ (units : List UnitView) (old new : List ℕ) where
  pub kept_units : KeepsUnits old new → HasUnits units old → HasUnits units new
  kept_units (inl same) has = subst (HasUnits units) (sym same) has
  kept_units (inr none) has =
      subst (λ (l : List UnitView). HasUnits l new) (sym (one_history units [] old has (inl (refl, none.0)))) none.1

  pub kept_units_back : KeepsUnits old new → HasUnits units new → HasUnits units old
  kept_units_back (inl same) has = subst (HasUnits units) same has
  kept_units_back (inr none) has = inl (one_history units [] new has none.1, none.0)
