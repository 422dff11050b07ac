-- The units before a gate are the first of a file.
use Rattle.std.proofs.Common.{◌≡◌, ◌≢◌, ℕ, List, [], ◌∷◌, ◌++◌, drop, refl, sym, ap, ◌∙◌, inl, inr, append_assoc}
use Rattle.std.proofs.lemmas.List.{append_cancel_left}
use Rattle.sp_unit.specs.UnitBytes.{UnitView, unit_bytes}
use Rattle.sp_journal.specs.Format.{heading, framed, AreUnits, ComesTo, HasUnits}
use Rattle.sp_journal.proofs.OneReading.{joined_at, same_unit, same_behind_unit, unborn_comes}

-- an open gate isn't a closed one
open_or_shut : (gate : ℕ) (more behind : List ℕ) → gate ≢ 0 → gate ∷ more ≡ 0 ∷ behind → ⊥
open_or_shut gate more behind shown same =
    let shut : gate ≡ 0 = cc in
    shown shut

first_tails : (xs ys : List UnitView) (u v s t : List ℕ) → AreUnits xs u → AreUnits ys v → u ++ s ≡ v ++ 0 ∷ t
    → (zs : List UnitView) × (ys ≡ xs ++ zs)
first_tails [] ys u v s t is_u is_v same = (ys, refl)
first_tails (x ∷ xs) [] u v s t is_u is_v same =
    absurd (open_or_shut is_u.0 ((framed (unit_bytes x) ++ is_u.1) ++ s) t is_u.2
    (sym (ap (λ (l : List ℕ). l ++ s) is_u.4) ∙ same ∙ ap (λ (l : List ℕ). l ++ 0 ∷ t) is_v))
first_tails (x ∷ xs) (y ∷ ys) u v s t is_u is_v same =
    let a : List ℕ = framed (unit_bytes x) in
    let b : List ℕ = framed (unit_bytes y) in
    let joined : a ++ (is_u.1 ++ s) ≡ b ++ (is_v.1 ++ 0 ∷ t) =
    joined_at a b is_u.1 is_v.1 s (0 ∷ t) u v is_u.0 is_v.0 is_u.4 is_v.4 same in
    let first : x ≡ y = same_unit x y (is_u.1 ++ s) (is_v.1 ++ 0 ∷ t) is_u.3 is_v.3 joined in
    let others = first_tails xs ys is_u.1 is_v.1 s t is_u.5 is_v.5
    (same_behind_unit x y (is_u.1 ++ s) (is_v.1 ++ 0 ∷ t) is_u.3 is_v.3 joined) in (
      others.0,
      ap (λ (l : List UnitView). y ∷ l) others.1
          ∙ ap (λ (unit : UnitView). unit ∷ (xs ++ others.0)) (sym first),
    )

pub first_units : (before units : List UnitView) (place : ℕ) (file : List ℕ) → ComesTo before place file
    → HasUnits units file
    → (more : List UnitView) × (units ≡ before ++ more)
first_units before units place file comes (inl none) = absurd (unborn_comes before place file none.1 comes)
first_units before units place file comes (inr ends) =
    let a = comes.is_front in
    let b = ends.1.is_front in
    let s : List ℕ = comes.gate ∷ comes.behind in
    let t : List ℕ = 0 ∷ ends.1.behind in
    let left : file ≡ a.birth ∷ (heading ++ (a.tail ++ s)) =
    comes.bytes ∙ ap (λ (l : List ℕ). l ++ s) a.bytes
    ∙ ap (λ (l : List ℕ). a.birth ∷ l) (append_assoc heading a.tail s) in
    let right : file ≡ b.birth ∷ (heading ++ (b.tail ++ t)) =
    ends.1.bytes ∙ ap (λ (l : List ℕ). l ++ t) b.bytes
    ∙ ap (λ (l : List ℕ). b.birth ∷ l) (append_assoc heading b.tail t) in
    first_tails before units a.tail b.tail s ends.1.behind a.are_units b.are_units
    (append_cancel_left heading (a.tail ++ s) (b.tail ++ t) (ap (λ (l : List ℕ). drop 1 l) (sym left ∙ right)))
