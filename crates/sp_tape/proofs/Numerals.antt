-- Texts of digits, and the numbers that they write.
use Rattle.std.proofs.Common.{◌≡◌, ◌≤◌, ◌<◌, ◌==◌, ◌^◌, ℕ, Bool, true, false, ◌&&◌, ◌||◌, not, inl, inr, List, []}
use Rattle.std.proofs.Common.{◌∷◌, length, Some, None, refl, sym, ap, subst, ◌∙◌, arith, rules, IsUtf8}
use Rattle.std.specs.Prelude.{nat_le, decimal, slice_index}
use Rattle.std.specs.Str.{all_ascii_digits, IsAscii}
use Rattle.std.proofs.lemmas.Bool.{leb-true, le-leb, eqb-true, eq-eqb, and_parts, and_from, or_cases, not-true}
use Rattle.std.proofs.lemmas.Bool.{cases_lt, cond-true}
use Rattle.std.proofs.lemmas.Option.{cond_some}
use Rattle.std.proofs.lemmas.Fmt.{IsAscii-decimal, digits_decimal, digits_value-decimal, decimal-digits_value}
use Rattle.std.proofs.lemmas.Fmt.{decimal_nonempty, length-decimal-le, first_decimal, decimal_digit}
use Rattle.std.proofs.lemmas.Str.{IsUtf8-from_ascii}
use Rattle.std.proofs.lemmas.Str.Parse.{IsNumeralModel, numerals_by_fold, tells_all_ascii_digits, digits_value_short}
use Rattle.std.specs.List.{list_all}
use Rattle.std.specs.Char.{is_ascii_digit}
use Rattle.sp_tape.proofs.Cuts.{has_byte, apart}
use Rattle.sp_tape.specs.Numeral.{is_numeral, read_on, numeral_value, number_from}

pub own : IsNumeralModel (λ ds. all_ascii_digits ds ≡ true) (read_on 0)
own = numerals_by_fold _ tells_all_ascii_digits read_on (search rules)

-- what makes a text a numeral
pub record Writes (text : List ℕ) : Type 0 where
  pub some : 0 < length text
  pub short : length text ≤ 16
  pub digits : all_ascii_digits text ≡ true
  pub plain : slice_index text 0 ≡ 48 → length text ≡ 1

pub writes : (text : List ℕ) → is_numeral text ≡ true → Writes text
writes text h =
    let some = nat_le 1 (length text) in
    let short = nat_le (length text) 16 in
    let digits = all_ascii_digits text in
    let one = length text == 1 in
    let plain = not (slice_index text 0 == 48) in
    let last = and_parts ((some && short) && digits) (one || plain) h in
    let third = and_parts (some && short) digits last.0 in
    let front = and_parts some short third.0 in
    record {
      some = let le = leb-true 1 (length text) front.0 in omega arith;
      short = leb-true (length text) 16 front.1;
      digits = third.1;
      plain = λ zero. elim (or_cases one plain last.1) [
        | inl single ↦ eqb-true (length text) 1 single
        | inr other ↦ absurd
            (cc (not-true (slice_index text 0 == 48) other, eq-eqb (slice_index text 0) 48 zero))
      ];
    }

pub below : (text : List ℕ) → Writes text → numeral_value text < 10 ^ 16
below text w = digits_value_short own text 16 w.digits w.short

-- a numeral is the text of its number
pub numeral_is : (text : List ℕ) → is_numeral text ≡ true → text ≡ decimal (numeral_value text)
numeral_is text h =
    let w = writes text h in
    let small = below text w in
    sym (decimal-digits_value own text w.digits w.some w.plain (omega arith))

pub number_is : (text : List ℕ) (n : ℕ) → number_from text ≡ Some n → (text ≡ decimal n) × (n < 10 ^ 16)
number_is text n e =
    let parts = cond_some (is_numeral text) (numeral_value text) n e in (
      subst (λ (k : ℕ). text ≡ decimal k) parts.1 (numeral_is text parts.0),
      subst (λ (k : ℕ). k < 10 ^ 16) parts.1
          (below text (writes text parts.0)),
    )

pub numeral-utf8 : (text : List ℕ) → is_numeral text ≡ true → IsUtf8 text
numeral-utf8 text h =
    let small = below text (writes text h) in
    IsUtf8-from_ascii text (subst IsAscii (sym (numeral_is text h)) (IsAscii-decimal (numeral_value text)
    (omega arith)))

decimal_plain : (n : ℕ) → n < 10 ^ 16 → (one plain : Bool) → length (decimal n) == 1 ≡ one →
    (slice_index (decimal n) 0 == 48) ≡ plain → (one || not plain) ≡ true
decimal_plain n small true plain h k = refl
decimal_plain n small false false h k = refl
decimal_plain n small false true h k =
    let first : slice_index (decimal n) 0 ≡ 48 = eqb-true (slice_index (decimal n) 0) 48 k in
    elim (cases_lt 0 n) [
      | inl above ↦ let more = first_decimal n above (omega arith) in absurd (omega arith)
      | inr zero ↦ cc (h, eq-eqb (length (decimal n)) 1 (ap (λ (l : List ℕ). length l) (decimal_digit n (omega arith))))
    ]

pub decimal-numeral : (n : ℕ) → n < 10 ^ 16 → is_numeral (decimal n) ≡ true
decimal-numeral n small =
    let wide : n < 2 ^ 64 = omega arith in
    let text = decimal n in
    let some = le-leb 1 (length text) (omega (arith, decimal_nonempty n wide)) in
    let short = le-leb (length text) 16 (length-decimal-le 16 n (omega arith) small wide) in
    and_from _ _ (and_from _ _ (and_from _ _ some short) (digits_decimal own n wide))
    (decimal_plain n small (length text == 1) (slice_index text 0 == 48) refl refl)

digits_by_test : (ds : List ℕ) → all_ascii_digits ds ≡ list_all is_ascii_digit ds
digits_by_test [] = refl
digits_by_test (d ∷ ds) = ap (λ b. is_ascii_digit d && b) (digits_by_test ds)

-- no other byte stands among digits
pub decimal-clear : (byte n : ℕ) → is_ascii_digit byte ≡ false → n < 2 ^ 64 → has_byte byte (decimal n) ≡ false
decimal-clear byte n fails wide = apart is_ascii_digit byte fails (decimal n) (sym (digits_by_test (decimal n)) ∙
    digits_decimal own n wide)

pub number_from-decimal : (n : ℕ) → n < 10 ^ 16 → number_from (decimal n) ≡ Some n
number_from-decimal n small = cond-true (is_numeral (decimal n)) (Some (numeral_value (decimal n))) None
    (decimal-numeral n small) ∙ ap (λ (k : ℕ). Some k) (digits_value-decimal own n (omega arith))
