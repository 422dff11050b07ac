-- What a torn and a whole write leave of a journal's units.
use Rattle.std.proofs.Common.{◌≡◌, ◌≢◌, ℕ, ◌+◌, List, [], ◌∷◌, ◌++◌, length, get_or, take, drop, refl, sym, ap, ◌∙◌, subst, ◌≤◌, inl, inr, arith, length-append, append_assoc}
use Rattle.std.proofs.lemmas.List.{append-nil, take_at}
use Rattle.std.proofs.lemmas.Bool.{cases_eq}
use Rattle.sp_disk.specs.Disk.{Torn, written}
use Rattle.sp_unit.specs.UnitBytes.{KeepsUnitRules, UnitView, unit_bytes}
use Rattle.sp_journal.specs.Format.{heading, framed, AreUnits, IsFront, EndsAt, IsPiece}
use Rattle.sp_journal.specs.Unsure.{Offers, IsUnsure, HasUnitsOr}
use Rattle.sp_disk.proofs.Tears.{torn_behind, torn_byte, written_byte, written_behind}

units_push : (units : List UnitView) (unit : UnitView) (bytes : List ℕ) (gate : ℕ) → gate ≢ 0 → KeepsUnitRules unit
    → AreUnits units bytes → AreUnits (units ++ unit ∷ []) (bytes ++ gate ∷ framed (unit_bytes unit))
units_push [] unit bytes gate shown keeps none =
    let last : List ℕ = gate ∷ framed (unit_bytes unit) in (
      gate,
      [],
      shown,
      keeps,
      ap (λ (l : List ℕ). l ++ last) none ∙ ap (λ (l : List ℕ). gate ∷ l) (sym (append-nil (framed (unit_bytes unit)))),
      refl,
    )
units_push (first ∷ units) unit bytes gate shown keeps are =
    let last : List ℕ = gate ∷ framed (unit_bytes unit) in
    let rest = are.1 in (
      are.0,
      rest ++ last,
      are.2,
      are.3,
      ap (λ (l : List ℕ). l ++ last) are.4
          ∙ ap (λ (l : List ℕ). are.0 ∷ l) (append_assoc (framed (unit_bytes first)) rest last),
      units_push units unit rest gate shown keeps are.5,
    )

pub front_push : (units : List UnitView) (unit : UnitView) (front : List ℕ) (gate : ℕ) → gate ≢ 0 → KeepsUnitRules unit
    → IsFront units front → IsFront (units ++ unit ∷ []) (front ++ gate ∷ framed (unit_bytes unit))
front_push units unit front gate shown keeps is =
    let last : List ℕ = gate ∷ framed (unit_bytes unit) in
    record {
      birth = is.birth;
      tail = is.tail ++ last;
      born = is.born;
      bytes = ap (λ (l : List ℕ). l ++ last) is.bytes
          ∙ ap (λ (l : List ℕ). is.birth ∷ l) (append_assoc heading is.tail last);
      are_units = units_push units unit is.tail gate shown keeps is.are_units;
    }

pub length-framed : (body : List ℕ) → length (framed body) ≡ 4 + length body
length-framed body = omega arith

-- bytes behind a byte, and then another byte in its place, are one write of both
written_over : (front : List ℕ) (byte : ℕ) (behind : List ℕ) (place : ℕ) → length front ≡ place
    → (other : ℕ) (bytes : List ℕ)
    → written (written (front ++ byte ∷ behind) (place + 1) bytes) place (other ∷ [])
    ≡ written (front ++ byte ∷ behind) place (other ∷ bytes)
written_over front byte behind place is_place other bytes =
    let file : List ℕ = front ++ byte ∷ behind in
    let far : List ℕ = drop (place + 1 + length bytes) file in
    let ends : place + 1 + length bytes ≡ place + length (other ∷ bytes) = omega arith in
    ap (λ (l : List ℕ). written l place (other ∷ [])) (written_behind front byte behind place is_place bytes)
    ∙ written_byte front byte (bytes ++ far) place is_place other
    ∙ ap (λ (l : List ℕ). l ++ other ∷ (bytes ++ far)) (sym (take_at front (byte ∷ behind) place is_place))
    ∙ ap (λ (n : ℕ). take place file ++ other ∷ (bytes ++ drop n file)) ends
    ∙ sym (append_assoc (take place file) (other ∷ bytes) (drop (place + length (other ∷ bytes)) file))

module _ (units : List UnitView) (place : ℕ) where
  -- a torn write behind the closed gate leaves the units
  pub ends_torn : (count : ℕ) (old new : List ℕ) → EndsAt units place old → Torn (place + 1) count old new
      → EndsAt units place new
  ends_torn count old new ends torn = record {
    front = ends.front;
    behind = drop (place + 1) new;
    is_front = ends.is_front;
    is_place = ends.is_place;
    bytes = torn_behind ends.front 0 ends.behind place ends.is_place count new
        (subst (λ (l : List ℕ). Torn (place + 1) count l new) ends.bytes torn);
  }

  -- a piece behind it, and then an open gate in its place
  pub ends_over : (piece old mid new : List ℕ) → EndsAt units place old → mid ≡ written old (place + 1) piece
      → new ≡ written mid place (1 ∷ []) → new ≡ written old place (1 ∷ piece)
  ends_over piece old mid new ends first second =
      second
      ∙ ap (λ (l : List ℕ). written l place (1 ∷ [])) (first
      ∙ ap (λ (l : List ℕ). written l (place + 1) piece) ends.bytes)
      ∙ written_over ends.front 0 ends.behind place ends.is_place 1 piece
      ∙ sym (ap (λ (l : List ℕ). written l place (1 ∷ piece)) ends.bytes)

  pub ends_long : (file : List ℕ) → EndsAt units place file → place + 1 ≤ length file
  ends_long file ends = omega (arith, ap length ends.bytes, ends.is_place, length-append ends.front (0 ∷ ends.behind))

  module _ (unit : UnitView) where
    abbrev body : List ℕ
    body = framed (unit_bytes unit)

    -- a piece behind it offers its unit
    pub ends_written : (piece old new : List ℕ) → EndsAt units place old → IsPiece unit piece
        → new ≡ written old (place + 1) piece → Offers units unit place new
    ends_written piece old new ends is done =
        let far = drop (place + 1 + length piece) (ends.front ++ 0 ∷ ends.behind) in
        record {
          front = ends.front;
          gate = 0;
          behind = far;
          is_front = ends.is_front;
          is_place = ends.is_place;
          keeps = is.keeps;
          bytes = done
              ∙ ap (λ (l : List ℕ). written l (place + 1) piece) ends.bytes
              ∙ written_behind ends.front 0 ends.behind place ends.is_place piece
              ∙ ap (λ (l : List ℕ). ends.front ++ 0 ∷ (l ++ far)) is.bytes
              ∙ ap (λ (l : List ℕ). ends.front ++ 0 ∷ l) (append_assoc body (0 ∷ []) far);
        }

    -- a torn write of the gate leaves the unit
    pub offers_torn : (old new : List ℕ) → Offers units unit place old → Torn place 1 old new
        → Offers units unit place new
    offers_torn old new offers torn = record {
      front = offers.front;
      gate = get_or new place 0;
      behind = offers.behind;
      is_front = offers.is_front;
      is_place = offers.is_place;
      keeps = offers.keeps;
      bytes = torn_byte offers.front offers.gate (body ++ 0 ∷ offers.behind) place offers.is_place new
          (subst (λ (l : List ℕ). Torn place 1 l new) offers.bytes torn);
    }

    pub offers_long : (file : List ℕ) → Offers units unit place file → place + 1 ≤ length file
    offers_long file offers = omega (
      arith,
      ap length offers.bytes,
      offers.is_place,
      length-append offers.front (offers.gate ∷ (body ++ 0 ∷ offers.behind)),
    )

    -- behind an open gate it is the last unit
    pub offers_open : (file : List ℕ) (offers : Offers units unit place file) → offers.gate ≢ 0
        → EndsAt (units ++ unit ∷ []) (place + (length (unit_bytes unit) + 5)) file
    offers_open file offers shown = record {
      front = offers.front ++ offers.gate ∷ body;
      behind = offers.behind;
      is_front = front_push units unit offers.front offers.gate shown offers.keeps offers.is_front;
      is_place = omega (
        arith,
        length-append offers.front (offers.gate ∷ body),
        length-framed (unit_bytes unit),
        offers.is_place,
      );
      bytes = offers.bytes ∙ sym (append_assoc offers.front (offers.gate ∷ body) (0 ∷ offers.behind));
    }

    -- behind a closed one it is none
    pub offers_closed : (file : List ℕ) (offers : Offers units unit place file) → offers.gate ≡ 0
        → EndsAt units place file
    offers_closed file offers shut = record {
      front = offers.front;
      behind = body ++ 0 ∷ offers.behind;
      is_front = offers.is_front;
      is_place = offers.is_place;
      bytes = offers.bytes ∙ ap (λ (n : ℕ). offers.front ++ n ∷ (body ++ 0 ∷ offers.behind)) shut;
    }

    -- the gate is written
    offers_written : (gate : ℕ) (old new : List ℕ) → Offers units unit place old → new ≡ written old place (gate ∷ [])
        → (now : Offers units unit place new) × (now.gate ≡ gate)
    offers_written gate old new offers done = (
      record {
        front = offers.front;
        gate = gate;
        behind = offers.behind;
        is_front = offers.is_front;
        is_place = offers.is_place;
        keeps = offers.keeps;
        bytes = done
            ∙ ap (λ (l : List ℕ). written l place (gate ∷ [])) offers.bytes
            ∙ written_byte offers.front offers.gate (body ++ 0 ∷ offers.behind) place offers.is_place gate;
      },
      refl,
    )

    pub offers_opened : (old new : List ℕ) → Offers units unit place old → new ≡ written old place (1 ∷ [])
        → EndsAt (units ++ unit ∷ []) (place + (length (unit_bytes unit) + 5)) new
    offers_opened old new offers done =
        let now = offers_written 1 old new offers done in
        offers_open new now.0 (λ shut. absurd (cc (sym now.1 ∙ shut)))

    pub offers_shut : (old new : List ℕ) → Offers units unit place old → new ≡ written old place (0 ∷ [])
        → EndsAt units place new
    offers_shut old new offers done =
        let now = offers_written 0 old new offers done in
        offers_closed new now.0 now.1

    -- the units are those from before, or those and the offered one
    pub units_or : (file : List ℕ) → IsUnsure units unit place file → HasUnitsOr units unit file
    units_or file (inl ends) = inl (inr (place, ends))
    units_or file (inr offers) = elim (cases_eq offers.gate 0) [
      | inl shut ↦ inl (inr (place, offers_closed file offers shut))
      | inr shown ↦ inr (inr (place + (length (unit_bytes unit) + 5), offers_open file offers shown))
    ]
