-- Which bytes a property's value is written in: visible ones, but for the space of its suffix.
use Rattle.std.proofs.Common.{◌≡◌, ◌==◌, ℕ, ◌+◌, ◌<◌, ◌≤◌, ◌^◌, ◌/◌, ◌%◌, zero, suc, Bool, true, false, not, ◌&&◌, ◌||◌, cond, List, [], ◌∷◌, ◌++◌, decimal, ℤ, pos, negsuc, refl, sym, ap, ◌∙◌, subst, ◌-◌, arith, mod-lt}
use Rattle.std.specs.Prelude.{◌*◌, nat_lt, unsigned_abs}
use Rattle.std.specs.Char.{is_ascii_digit}
use Rattle.std.specs.Fmt.{digit_glyph, signed_decimal}
use Rattle.std.specs.List.{flat_map, list_all}
use Rattle.std.specs.Str.{all_ascii_digits}
use Rattle.std.proofs.lemmas.Bool.{agree_below, agree_below_at, and_parts, leb-true, ltb-true}
use Rattle.std.proofs.lemmas.Bool.Decides.{nat_tests}
use Rattle.std.proofs.lemmas.Fmt.{decimal_is_IsNumeral}
use Rattle.std.proofs.lemmas.List.Folds.{list_all-append}
use Rattle.std.proofs.lemmas.Str.Parse.{tells_all_ascii_digits, tells_digits}
use Rattle.std.specs.Str.Parse.{AllDigits}
use Rattle.percent_encoding.specs.Percent.{percent_encode_byte}
use Rattle.sp_message.specs.Decimal.{fixed_text, places_of}
use Rattle.sp_message.specs.Property.{is_name_byte, is_property}
use Rattle.sp_message.specs.Value.{is_in_range}
use Rattle.sp_message.specs.declared.property.Property.{Property}
use Rattle.sp_message.specs.declared.value.Value.{Value}
use Rattle.sp_message.specs.declared.value.Value.TheVariants as values
use Rattle.sp_message.proofs.Digits.{first_place, unit_positive}
use Rattle.std.specs.Int.{is_negative}
use Rattle.sp_rdp.specs.Post.{is_escaped, escaped, value_text}
use Rattle.sp_rdp.specs.ReadBack.{is_visible}

abbrev pub Seen : List ℕ → Type 0
Seen bytes = list_all is_visible bytes ≡ true

-- a test of bytes that implies another one of ASCII does so
pub implied : (p q : ℕ → Bool) → agree_below (λ b. not (p b) || q b) (λ _. true) 128 ≡ true → ((b : ℕ) → nat_lt b 128 ≡ false → p b ≡ false)
    → (b : ℕ) → p b ≡ true → q b ≡ true
implied p q table beyond b is = tested (nat_lt b 128) refl
  where
    tested : (t : Bool) → nat_lt b 128 ≡ t → q b ≡ true
    tested true e = sym (ap (λ t. not t || q b) is) ∙ agree_below_at (λ c. not (p c) || q c) (λ _. true) 128 b table (ltb-true b 128 e)
    tested false e = let none = beyond b e in absurd (cc)

pub weaker : (p q : ℕ → Bool) → ((b : ℕ) → p b ≡ true → q b ≡ true) → (xs : List ℕ) → list_all p xs ≡ true → list_all q xs ≡ true
weaker p q step [] all = refl
weaker p q step (b ∷ xs) all = tested (λ more. weaker p q step xs more) (p b) refl
  where
    tested : (list_all p xs ≡ true → list_all q xs ≡ true) → (t : Bool) → p b ≡ t → list_all q (b ∷ xs) ≡ true
    tested rest true e = ap (λ t. t && list_all q xs) (step b e) ∙ rest (sym (ap (λ t. t && list_all p xs) e) ∙ all)
    tested rest false e = let none : (false && list_all p xs) ≡ true = sym (ap (λ t. t && list_all p xs) e) ∙ all in absurd (cc)

pub both : (p : ℕ → Bool) (xs ys : List ℕ) → list_all p xs ≡ true → list_all p ys ≡ true → list_all p (xs ++ ys) ≡ true
both p xs ys x y = list_all-append p xs ys ∙ (λ i. x i && y i)

of_all : (f : ℕ → List ℕ) → ((b : ℕ) → Seen (f b)) → (xs : List ℕ) → Seen (flat_map f xs)
of_all f each [] = refl
of_all f each (b ∷ xs) = both is_visible (f b) (flat_map f xs) (each b) (of_all f each xs)

glyph : (d : ℕ) → d < 16 → is_visible (digit_glyph true d) ≡ true
glyph d small = agree_below_at (λ c. is_visible (digit_glyph true c)) (λ _. true) 16 d refl small

escape : (b : ℕ) → Seen (percent_encode_byte b)
unfolding percent_encode_byte
escape b = λ i. glyph (b / 16 % 16) (omega arith) i && (glyph (b % 16) (omega arith) i && true)

plain : (b : ℕ) → is_escaped b ≡ false → is_visible b ≡ true
plain b e = grind (arith, nat_tests)

one : (b : ℕ) → Seen (cond (is_escaped b) (percent_encode_byte b) (b ∷ []))
one b = tested (is_escaped b) refl
  where
    tested : (t : Bool) → is_escaped b ≡ t → Seen (cond t (percent_encode_byte b) (b ∷ []))
    tested true e = escape b
    tested false e = ap (λ t. t && true) (plain b e)

pub escaped_seen : (text : List ℕ) → Seen (escaped text)
escaped_seen text = of_all (λ b. cond (is_escaped b) (percent_encode_byte b) (b ∷ [])) one text

digit_seen : (b : ℕ) → is_ascii_digit b ≡ true → is_visible b ≡ true
digit_seen b is = implied is_ascii_digit is_visible refl (λ c e. grind (arith, nat_tests)) b is

digits_from : (ds : List ℕ) → AllDigits 10 ds → all_ascii_digits ds ≡ true
digits_from [] h = tells_all_ascii_digits.empty
digits_from (c ∷ cs) h = let parts = tells_digits.parts c cs h in tells_all_ascii_digits.more c cs parts.0 (digits_from cs parts.1)

pub digits_are : (n : ℕ) → n < 2 ^ 64 → all_ascii_digits (decimal n) ≡ true
digits_are n small = digits_from (decimal n) (decimal_is_IsNumeral n small).0.1

pub decimal_seen : (n : ℕ) → n < 2 ^ 64 → Seen (decimal n)
decimal_seen n small = weaker is_ascii_digit is_visible digit_seen (decimal n) (digits_are n small)

pub signed_seen : (z : ℤ) → unsigned_abs z < 2 ^ 64 → Seen (signed_decimal z)
signed_seen (pos n) small = decimal_seen n small
signed_seen (negsuc n) small = decimal_seen (suc n) small

places_seen : (k n : ℕ) → n < 10 ^ k → Seen (places_of k n)
places_seen zero n small = refl
places_seen (suc k) n small =
    let last : suc k - 1 ≡ k = omega arith in
    let first : n / 10 ^ k < 10 = subst (λ (j : ℕ). n / 10 ^ j < 10) last (first_place (suc k) n (omega arith) small) in
    let more : Seen (places_of k (n % 10 ^ k)) = places_seen k (n % 10 ^ k) (mod-lt n (unit_positive k)) in
    λ i. place (n / 10 ^ k) first i && rest more (n % 10 ^ k == 0) i
  where
    place : (d : ℕ) → d < 10 → is_visible (48 + d) ≡ true
    place d few = agree_below_at (λ c. is_visible (48 + c)) (λ _. true) 10 d refl few

    rest : Seen (places_of k (n % 10 ^ k)) → (t : Bool) → list_all is_visible (cond t [] (places_of k (n % 10 ^ k))) ≡ true
    rest more true = refl
    rest more false = more

-- a fixed number below the greatest magnitude
pub fixed_seen : (z : ℤ) → unsigned_abs z ≤ 9223372036854775807000000 → Seen (fixed_text z)
fixed_seen z small =
    both is_visible (sign ++ decimal (unsigned_abs z / 1000000)) (46 ∷ places_of 6 (unsigned_abs z % 1000000))
    (both is_visible sign (decimal (unsigned_abs z / 1000000)) (signed (is_negative z))
    (decimal_seen (unsigned_abs z / 1000000) (omega arith)))
    (places_seen 6 (unsigned_abs z % 1000000) (omega arith))
  where
    sign : List ℕ
    sign = cond (is_negative z) (45 ∷ []) []

    signed : (t : Bool) → Seen (cond t (45 ∷ []) [])
    signed true = refl
    signed false = refl

pub value_seen : (v : Value) → is_in_range v ≡ true → Seen (value_text v)
value_seen (values.Whole z) h = signed_seen z (let few = leb-true (unsigned_abs z) (2 ^ 63 - 1) h in omega (arith, few))
value_seen (values.Fixed z) h = fixed_seen z (leb-true (unsigned_abs z) ((2 ^ 63 - 1) * 1000000) h)
value_seen (values.Text text) h = escaped_seen text
value_seen (values.Bool true) h = refl
value_seen (values.Bool false) h = refl

-- a property's value is in its range
pub value_kept : (p : Property) → is_property p ≡ true → is_in_range p.value ≡ true
value_kept p is = (and_parts _ (is_in_range p.value) (and_parts _ (list_all is_name_byte p.name) is).0).1
