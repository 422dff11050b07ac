-- A walk from gate to gate.
use Rattle.std.proofs.Common.{◌≡◌, ℕ, ◌+◌, List, [], ◌∷◌, ◌++◌, length, take, drop, refl, sym, ap, subst, ◌∙◌, arith, length-append, append_assoc, drop-drop, ◌≤◌}
use Rattle.std.proofs.lemmas.List.{drop_at, take_at, length-drop}
use Rattle.std.specs.Int.{w32, to_le_bytes}
use Rattle.sp_unit.proofs.Lengths.{unit_len}
use Rattle.sp_unit.specs.UnitBytes.{IsUnit, UnitView, unit_bytes}
use Rattle.sp_journal.specs.Damage.{StopsAt}
use Rattle.sp_journal.specs.Body.{IsBody}
use Rattle.sp_journal.specs.Format.{heading, framed, IsFront, EndsAt, ComesTo}
use Rattle.sp_journal.specs.Survey.{FrameIs, GateIs, HasNoUnit}
use Rattle.sp_journal.specs.declared.survey.Gate.TheVariants.{Closed, Whole, Broken}
use Rattle.sp_journal.proofs.OneReading.{same_body}
use Rattle.sp_journal.proofs.UnitSteps.{front_push, length-framed}

module _ (units : List UnitView) (place : ℕ) (file : List ℕ) (comes : ComesTo units place file) where
  here : drop place file ≡ comes.gate ∷ comes.behind
  here = ap (λ (l : List ℕ). drop place l) comes.bytes
      ∙ drop_at comes.front (comes.gate ∷ comes.behind) place comes.is_place

  pub comes_closed : (body : List ℕ) → GateIs Closed body (drop place file) → EndsAt units place file
  comes_closed body shut =
      let both : comes.gate ∷ [] ≡ 0 ∷ [] = sym (ap (λ (l : List ℕ). take 1 l) here) ∙ shut in
      let is : comes.gate ≡ 0 = cc in
      record {
        front = comes.front;
        behind = comes.behind;
        is_front = comes.is_front;
        is_place = comes.is_place;
        bytes = comes.bytes ∙ ap (λ (n : ℕ). comes.front ++ n ∷ comes.behind) is;
      }

  pub comes_broken : (body : List ℕ) → GateIs Broken body (drop place file) → StopsAt units place file
  comes_broken body broken = record {
    front = comes.front;
    gate = broken.0;
    behind = broken.1;
    is_front = comes.is_front;
    is_place = comes.is_place;
    shown = broken.2;
    bytes = comes.bytes ∙ ap (λ (l : List ℕ). comes.front ++ l) (sym here ∙ broken.3);
    no_unit = broken.4;
  }

  comes_unit : (n : ℕ) (body : List ℕ) (whole : GateIs (Whole n) body (drop place file)) (unit : UnitView)
      → IsUnit body unit
      → ComesTo (units ++ unit ∷ []) (place + (n + 5)) file
  comes_unit n body whole unit is = record {
    front = comes.front ++ whole.0 ∷ framed body;
    gate = whole.1;
    behind = whole.2;
    is_front = subst (λ (l : List ℕ). IsFront (units ++ unit ∷ []) (comes.front ++ whole.0 ∷ framed l)) (sym is.1)
        (front_push units unit comes.front whole.0 whole.3 is.0 comes.is_front);
    is_place = omega (
      arith,
      length-append comes.front (whole.0 ∷ framed body),
      length-framed body,
      comes.is_place,
      whole.5,
    );
    bytes = comes.bytes ∙ ap (λ (l : List ℕ). comes.front ++ l) (sym here ∙ whole.6)
        ∙ sym (append_assoc comes.front (whole.0 ∷ framed body) (whole.1 ∷ whole.2));
  }

  pub comes_whole : (n : ℕ) (body : List ℕ) → GateIs (Whole n) body (drop place file)
      → (unit : UnitView) × IsUnit body unit × ComesTo (units ++ unit ∷ []) (place + (n + 5)) file
  comes_whole n body whole = (whole.4.0, whole.4.1, comes_unit n body whole whole.4.0 whole.4.1)

-- what stands behind an open gate and a length
module _ (n at : ℕ) (file : List ℕ) (frame : FrameIs (Whole n) (drop at file)) where
  pub frame_long : at + 5 + n ≤ length file
  frame_long =
      let long : length (drop at file) ≡ 1 + (4 + length frame.1 + (1 + length frame.3)) =
      omega (arith, ap length frame.7, length-append (framed frame.1) (frame.2 ∷ frame.3), length-framed frame.1) in
      omega (arith, long, length-drop at file, frame.5)

  inside : take n (drop (at + 5) file) ≡ frame.1
  inside =
      let body = frame.1 in
      let after : List ℕ = frame.2 ∷ frame.3 in
      let size = to_le_bytes w32 (length body) in
      let behind : drop (at + 5) file ≡ body ++ after =
      sym (drop-drop 5 at file) ∙ ap (λ (l : List ℕ). drop 5 l) frame.7
      ∙ ap (λ (l : List ℕ). drop 4 l) (append_assoc size body after) ∙ drop_at size (body ++ after) 4 refl in
      ap (λ (l : List ℕ). take n l) behind ∙ take_at body after n frame.5

  -- a body makes a unit, and no unit follows where it is none
  pub frame_whole : (body : List ℕ) → body ≡ take n (drop (at + 5) file) → IsBody body
      → GateIs (Whole n) body (drop at file)
  frame_whole body is is_body =
      subst (λ (l : List ℕ). GateIs (Whole n) l (drop at file)) (sym (is ∙ inside))
      (frame.0, frame.2, frame.3, frame.4, subst IsBody (is ∙ inside) is_body, frame.5, frame.7)

  pub frame_hollow : (body : List ℕ) → body ≡ take n (drop (at + 5) file) → (IsBody body → ⊥) → HasNoUnit (drop at file)
  frame_hollow body is none = (
    frame.0,
    framed frame.1 ++ frame.2 ∷ frame.3,
    frame.4,
    frame.7,
    λ found.
        let other : List ℕ = unit_bytes found.0 in
        let short : length other ≤ 16777216 = unit_len other found.0 (found.3, refl) in
        let same : other ≡ frame.1 = same_body other frame.1 (found.1 ∷ found.2) (frame.2 ∷ frame.3) short
        (omega (arith, frame.5, frame.6)) (sym found.4) in
        none (found.0, (found.3, is ∙ inside ∙ sym same)),
  )

-- the first unit's gate of a journal that ends
pub ends_first : (units : List UnitView) (place : ℕ) (file : List ℕ) → EndsAt units place file → ComesTo [] 13 file
ends_first [] place file e = record {
  front = e.is_front.birth ∷ heading;
  gate = 0;
  behind = e.behind;
  is_front = record { birth = e.is_front.birth; tail = []; born = e.is_front.born; bytes = refl; are_units = refl };
  is_place = refl;
  bytes = e.bytes ∙ ap (λ (l : List ℕ). l ++ 0 ∷ e.behind) e.is_front.bytes
      ∙ ap (λ (l : List ℕ). e.is_front.birth ∷ (heading ++ l) ++ 0 ∷ e.behind) e.is_front.are_units;
}
ends_first (unit ∷ units) place file e =
    let are = e.is_front.are_units in
    record {
      front = e.is_front.birth ∷ heading;
      gate = are.0;
      behind = (framed (unit_bytes unit) ++ are.1) ++ 0 ∷ e.behind;
      is_front = record { birth = e.is_front.birth; tail = []; born = e.is_front.born; bytes = refl; are_units = refl };
      is_place = refl;
      bytes = e.bytes ∙ ap (λ (l : List ℕ). l ++ 0 ∷ e.behind) e.is_front.bytes
          ∙ ap (λ (l : List ℕ). e.is_front.birth ∷ (heading ++ l) ++ 0 ∷ e.behind) are.4;
    }
