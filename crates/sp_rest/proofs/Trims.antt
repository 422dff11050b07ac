-- A length that a value begins, once white space around it is gone.
use Rattle.std.proofs.Common.{◌≡◌, ℕ, ◌+◌, ◌*◌, ◌<◌, ◌≤◌, ◌⊎◌, inl, inr, Bool, true, false, ◌&&◌, List, [], ◌∷◌, ◌++◌, length, length-append, reverse, refl, sym, ap, ◌∙◌, subst, arith, rules, Some, None, append-nil}
use Rattle.std.specs.Prelude.{nat_le, nat_lt}
use Rattle.std.specs.Str.{all_ascii_digits}
use Rattle.std.specs.Str.Parse.{digits_value, digits_value_after}
use Rattle.std.specs.Char.{digit_value, is_ascii_digit}
use Rattle.std.proofs.lemmas.Bool.{cond-true, cond-false, and_parts, and_from, leb-true, le-leb}
use Rattle.std.proofs.lemmas.Option.{cond_some}
use Rattle.std.proofs.lemmas.List.{reverse-append}
use Rattle.httparse.specs.Grammar.{is_ows, skip_ows, trim_ows}
use Rattle.sp_rest.specs.Wire.Request.{is_number, length_in}
use Rattle.sp_rest.proofs.Lengths.{value_grows}

-- the bytes without the white space at the end
abbrev pub end_trimmed : List ℕ → List ℕ
end_trimmed xs = reverse (skip_ows (reverse xs))

skip_push : (ys : List ℕ) (b : ℕ)
    → ((skip_ows ys ≡ []) × (skip_ows (ys ++ b ∷ []) ≡ skip_ows (b ∷ [])))
    ⊎ ((0 < length (skip_ows ys)) × (skip_ows (ys ++ b ∷ []) ≡ skip_ows ys ++ b ∷ []))
skip_push [] b = inl (refl, refl)
skip_push (c ∷ ys) b = by_test (skip_push ys b) (is_ows c) refl
  where
    by_test : ((skip_ows ys ≡ []) × (skip_ows (ys ++ b ∷ []) ≡ skip_ows (b ∷ [])))
        ⊎ ((0 < length (skip_ows ys)) × (skip_ows (ys ++ b ∷ []) ≡ skip_ows ys ++ b ∷ [])) → (t : Bool) → is_ows c ≡ t
        → ((skip_ows (c ∷ ys) ≡ []) × (skip_ows (c ∷ (ys ++ b ∷ [])) ≡ skip_ows (b ∷ [])))
        ⊎ ((0 < length (skip_ows (c ∷ ys))) × (skip_ows (c ∷ (ys ++ b ∷ [])) ≡ skip_ows (c ∷ ys) ++ b ∷ []))
    by_test later true blank = rw blank later
    by_test later false other = rw other (inr (omega arith, refl))

one_reversed : (b : ℕ) → reverse (skip_ows (b ∷ [])) ≡ skip_ows (b ∷ [])
one_reversed b = by_test (is_ows b) refl
  where
    by_test : (t : Bool) → is_ows b ≡ t → reverse (skip_ows (b ∷ [])) ≡ skip_ows (b ∷ [])
    by_test true blank = rw blank refl
    by_test false other = rw other refl

pub end_trimmed_cons : (b : ℕ) (xs : List ℕ)
    → ((end_trimmed xs ≡ []) × (end_trimmed (b ∷ xs) ≡ skip_ows (b ∷ [])))
    ⊎ ((0 < length (end_trimmed xs)) × (end_trimmed (b ∷ xs) ≡ b ∷ end_trimmed xs))
end_trimmed_cons b xs =
    let turned : reverse (b ∷ xs) ≡ reverse xs ++ b ∷ [] = reverse-append (b ∷ []) xs in
    elim (skip_push (reverse xs) b) [
      | inl t ↦ inl (ap reverse t.0, ap (λ (ys : List ℕ). reverse (skip_ows ys)) turned ∙ ap reverse t.1 ∙ one_reversed b)
      | inr t ↦ inr (
        longer (skip_ows (reverse xs)) t.0,
        ap (λ (ys : List ℕ). reverse (skip_ows ys)) turned ∙ ap reverse t.1
            ∙ reverse-append (skip_ows (reverse xs)) (b ∷ []),
      )
    ]
  where
    longer : (ys : List ℕ) → 0 < length ys → 0 < length (reverse ys)
    longer [] some = some
    longer (y ∷ ys) some =
        subst (λ (zs : List ℕ). 0 < length zs) (sym (reverse-append (y ∷ []) ys)) (omega (arith, length-append (reverse ys) (y ∷ [])))

skip_one : (b : ℕ) → (skip_ows (b ∷ []) ≡ []) ⊎ (skip_ows (b ∷ []) ≡ b ∷ [])
skip_one b = by_test (is_ows b) refl
  where
    by_test : (t : Bool) → is_ows b ≡ t → (skip_ows (b ∷ []) ≡ []) ⊎ (skip_ows (b ∷ []) ≡ b ∷ [])
    by_test true blank = inl (rw blank refl)
    by_test false other = inr (rw other refl)

-- what is trimmed of a front is a front of what is trimmed
pub trimmed_front : (x m : List ℕ) → (k : List ℕ) × (end_trimmed (x ++ m) ≡ end_trimmed x ++ k)
trimmed_front [] m = (end_trimmed m, refl)
trimmed_front (b ∷ x) m =
    let later = trimmed_front x m in
    elim (end_trimmed_cons b x) [
      | inl t ↦ elim (end_trimmed_cons b (x ++ m)) [
        | inl u ↦ ([], u.1 ∙ sym t.1 ∙ sym (append-nil (end_trimmed (b ∷ x))))
        | inr u ↦ elim (skip_one b) [
          | inl none ↦ (end_trimmed (b ∷ (x ++ m)), sym (ap (λ (ys : List ℕ). ys ++ end_trimmed (b ∷ (x ++ m))) (t.1 ∙ none)))
          | inr one ↦ (end_trimmed (x ++ m), u.1 ∙ sym (ap (λ (ys : List ℕ). ys ++ end_trimmed (x ++ m)) (t.1 ∙ one)))
        ]
      ]
      | inr t ↦ elim (end_trimmed_cons b (x ++ m)) [
        | inl u ↦ absurd (let none = ap length (sym later.1 ∙ u.0) in let some = t.0 in
            omega (arith, length-append (end_trimmed x) later.0))
        | inr u ↦ (later.0, u.1 ∙ ap (λ (ys : List ℕ). b ∷ ys) later.1 ∙ sym (ap (λ (ys : List ℕ). ys ++ later.0) t.1))
      ]
    ]

-- the value gives a length
abbrev pub IsLength : List ℕ → Type 0
IsLength value = (k : ℕ) × (length_in value ≡ Some k)

digits_front : (p k : List ℕ) → all_ascii_digits (p ++ k) ≡ true → all_ascii_digits p ≡ true
digits_front [] k all = refl
digits_front (c ∷ p) k all =
    let parts = and_parts (is_ascii_digit c) (all_ascii_digits (p ++ k)) all in
    and_from (is_ascii_digit c) (all_ascii_digits p) parts.0 (digits_front p k parts.1)

value_append : (n : ℕ) (p k : List ℕ) → digits_value_after 10 n (p ++ k) ≡ digits_value_after 10 (digits_value_after 10 n p) k
value_append n [] k = refl
value_append n (c ∷ p) k = value_append (n * 10 + digit_value c) p k

pub number_front : (p k : List ℕ) (n : ℕ) → length_in (p ++ k) ≡ Some n → 0 < length p → IsLength p
number_front p k n e some =
    let both = cond_some (is_number (p ++ k) && nat_le (digits_value 10 (p ++ k)) 8388608) (digits_value 10 (p ++ k)) n e in
    let parts = and_parts (is_number (p ++ k)) (nat_le (digits_value 10 (p ++ k)) 8388608) both.0 in
    let number = and_parts (nat_lt 0 (length (p ++ k))) (all_ascii_digits (p ++ k)) parts.0 in
    let small = leb-true (digits_value 10 (p ++ k)) 8388608 parts.1 in
    let grows = value_grows (digits_value 10 p) k in
    let whole = value_append 0 p k in
    let fits : digits_value 10 p ≤ 8388608 = omega arith in
    let is : (is_number p && nat_le (digits_value 10 p) 8388608) ≡ true =
    and_from (is_number p) (nat_le (digits_value 10 p) 8388608)
    (and_from (nat_lt 0 (length p)) (all_ascii_digits p) (le-leb 1 (length p) (omega arith)) (digits_front p k number.1))
    (le-leb (digits_value 10 p) 8388608 fits) in
    (digits_value 10 p, cond-true _ _ _ is)

-- a front of a length is a length as it is, or with one digit where more bytes follow
pub length_front : (r m : List ℕ) (n : ℕ) → length_in (trim_ows (r ++ m)) ≡ Some n
    → IsLength (trim_ows r) ⊎ (IsLength (trim_ows (r ++ 48 ∷ [])) × (0 < length m))
unfolding trim_ows
length_front [] [] n e = absurd (none_some e)
  where
    none_some : None ≡ Some n → ⊥
    none_some x = search rules
length_front [] (b ∷ m) n e = inr ((0, refl), omega arith)
length_front (b ∷ r) m n e = by_test (λ x. length_front r m n x) (is_ows b) refl
  where
    by_test : (length_in (trim_ows (r ++ m)) ≡ Some n → IsLength (trim_ows r) ⊎ (IsLength (trim_ows (r ++ 48 ∷ [])) × (0 < length m)))
        → (t : Bool) → is_ows b ≡ t → IsLength (reverse (skip_ows (reverse (skip_ows (b ∷ r)))))
        ⊎ (IsLength (reverse (skip_ows (reverse (skip_ows (b ∷ (r ++ 48 ∷ [])))))) × (0 < length m))
    by_test later true blank =
        let same : skip_ows (b ∷ (r ++ m)) ≡ skip_ows (r ++ m) = cond-true _ _ _ blank in
        rw blank (later (sym (ap (λ (ys : List ℕ). length_in (end_trimmed ys)) same) ∙ e))
    by_test later false other =
        let same : skip_ows (b ∷ (r ++ m)) ≡ b ∷ (r ++ m) = cond-false _ _ _ other in
        let front = trimmed_front (b ∷ r) m in
        let whole : length_in (end_trimmed (b ∷ r) ++ front.0) ≡ Some n = sym (ap length_in (ap end_trimmed same ∙ front.1)) ∙ e in
        let some : 0 < length (end_trimmed (b ∷ r)) = elim (end_trimmed_cons b r) [
          | inl t ↦ let one : skip_ows (b ∷ []) ≡ b ∷ [] = cond-false _ _ _ other in omega (arith, ap length (t.1 ∙ one))
          | inr t ↦ omega (arith, ap length t.1)
        ] in
        let mine : skip_ows (b ∷ r) ≡ b ∷ r = cond-false _ _ _ other in
        inl (subst (λ (ys : List ℕ). IsLength (end_trimmed ys)) (sym mine) (number_front (end_trimmed (b ∷ r)) front.0 n whole some))

-- nothing is no length
pub empty_length : IsLength (trim_ows []) → ⊥
unfolding trim_ows
empty_length k = none_some k.1
  where
    none_some : {n : ℕ} → None ≡ Some n → ⊥
    none_some x = search rules
