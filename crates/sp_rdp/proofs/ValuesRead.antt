-- What is read of a property's field is the property's value.
use Rattle.std.proofs.Common.{◌≡◌, ℕ, suc, ◌+◌, ◌-◌, ◌*◌, ◌/◌, ◌^◌, ◌<◌, ◌≤◌, true, false, List, [], ◌∷◌, All, IsAscii, Option, Some, inl, inr, ℤ, pos, negsuc, refl, sym, ap, ◌∙◌, subst, arith}
use Rattle.std.specs.Prelude.{neg_ℤ, nat_le, unsigned_abs, length}
use Rattle.std.specs.Fmt.{signed_decimal}
use Rattle.std.specs.List.{list_all}
use Rattle.std.specs.Option.{option_map}
use Rattle.std.specs.Str.{is_utf8}
use Rattle.std.proofs.lemmas.Bool.{and_parts, cond-false, cond-true, cond_both, leb-true, ltb-true}
use Rattle.std.proofs.lemmas.List.Elements.{All-append, All-cons, All-nil}
use Rattle.std.proofs.lemmas.Str.{IsUtf8-from_ascii, IsUtf8-from_is_utf8, is_utf8-from_IsUtf8}
use lib.Utf8.{encode, encodes, next, scalar, scalar_cases, scalars}
use Rattle.percent_encoding.specs.Percent.{percent_decode}
use Rattle.percent_encoding.proofs.PercentLemmas.{IsAscii-percent_encode, IsByte, round_trip}
use Rattle.sp_message.proofs.FixedTexts.{fixed_back, plain_decimal, whole_back}
use Rattle.sp_message.specs.Property.{are_properties, is_property, names_rise}
use Rattle.sp_message.specs.Value.{is_in_range}
use Rattle.sp_message.specs.declared.property.Property.{Property}
use Rattle.sp_message.specs.declared.value.Value.{Value}
use Rattle.sp_message.specs.declared.value.Value.TheVariants as values
use Rattle.sp_rest.specs.declared.publish.suffix.ValueKind.TheVariants as kinds
use Rattle.sp_rest.specs.Publish.UserProperties.{value_as, whole_in}
use Rattle.sp_rdp.specs.declared.post.TheConstants.{ESCAPED}
use Rattle.sp_rdp.specs.Post.{escaped, value_text}
use Rattle.sp_rdp.specs.ReadBack.{unescaped, ReadsValue}
use Rattle.sp_rdp.proofs.Escapes.{escapes}
use Rattle.sp_rdp.proofs.KindsRead.{kind_of, kind_reads}
use Rattle.sp_rdp.proofs.Seen.{value_kept}

-- ---- the bytes of a text are bytes

low : (c : ℕ) → scalar c ≡ true → c < 1114112
low c is = elim (scalar_cases c is) [ inl h ↦ omega (arith, h) | inr h ↦ h.1 ]

one : (a : ℕ) → a < 256 → All IsByte (a ∷ [])
one a h = All-cons IsByte a [] h (All-nil IsByte)

two : (a b : ℕ) → a < 256 → b < 256 → All IsByte (a ∷ b ∷ [])
two a b h k = All-cons IsByte a (b ∷ []) h (one b k)

three : (a b c : ℕ) → a < 256 → b < 256 → c < 256 → All IsByte (a ∷ b ∷ c ∷ [])
three a b c h k l = All-cons IsByte a (b ∷ c ∷ []) h (two b c k l)

four : (a b c d : ℕ) → a < 256 → b < 256 → c < 256 → d < 256 → All IsByte (a ∷ b ∷ c ∷ d ∷ [])
four a b c d h k l m = All-cons IsByte a (b ∷ c ∷ d ∷ []) h (three b c d k l m)

char_bytes : (c : ℕ) → c < 1114112 → All IsByte (encode c)
unfolding encode
char_bytes c small =
    cond_both _ _ _ (All IsByte) (λ e. one c (let h = ltb-true c 128 e in omega (arith, h))) (λ e.
    cond_both _ _ _ (All IsByte) (λ e. two (192 + c / 64) (next c) (let h = ltb-true c 2048 e in omega (arith, h)) (omega arith)) (λ e.
    cond_both _ _ _ (All IsByte)
    (λ e. three (224 + c / 4096) (next (c / 64)) (next c) (let h = ltb-true c 65536 e in omega (arith, h)) (omega arith) (omega arith))
    (λ e. four (240 + c / 262144) (next (c / 4096)) (next (c / 64)) (next c) (omega (arith, small)) (omega arith) (omega arith) (omega arith))))

chars_bytes : (cs : List ℕ) → scalars cs ≡ true → All IsByte (encodes cs)
chars_bytes [] are = All-nil IsByte
chars_bytes (c ∷ cs) are =
    let parts = and_parts (scalar c) (scalars cs) are in
    All-append IsByte (encode c) (encodes cs) (char_bytes c (low c parts.0)) (chars_bytes cs parts.1)

text_bytes : (text : List ℕ) → is_utf8 text ≡ true → All IsByte text
text_bytes text is = let spelt = IsUtf8-from_is_utf8 text is in subst (All IsByte) spelt.1.1 (chars_bytes spelt.0 spelt.1.0)

-- ---- texts

escaped_utf8 : (text : List ℕ) → is_utf8 (escaped text) ≡ true
escaped_utf8 text =
    let plain : IsAscii (escaped text) = subst IsAscii (escapes text) (IsAscii-percent_encode ESCAPED text) in
    is_utf8-from_IsUtf8 (escaped text) (IsUtf8-from_ascii (escaped text) plain)

decoded : (text : List ℕ) → is_utf8 text ≡ true → percent_decode (escaped text) ≡ text
decoded text is = ap percent_decode (sym (escapes text)) ∙ round_trip ESCAPED text refl (text_bytes text is)

text_back : (text : List ℕ) → is_utf8 text ≡ true → option_map unescaped (value_as kinds.Text (escaped text)) ≡ Some (values.Text text)
text_back text is =
    ap (λ (o : Option (List ℕ)). option_map unescaped (option_map values.Text o)) (cond-true _ _ _ (escaped_utf8 text))
    ∙ ap (λ (t : List ℕ). Some (values.Text t)) (decoded text is)

-- ---- numbers

whole_read : (z : ℤ) → unsigned_abs z ≤ 2 ^ 63 - 1 → whole_in (signed_decimal z) ≡ Some z
whole_read (pos n) few = cond-false _ _ _ (plain_decimal n (omega (arith, few))) ∙ ap (option_map pos) (whole_back n (omega (arith, few)))
whole_read (negsuc n) few = ap (option_map (λ m. neg_ℤ (pos m))) (whole_back (suc n) (omega (arith, few)))

-- ---- each value

value_back : (v : Value) → is_in_range v ≡ true → option_map unescaped (value_as (kind_of v) (value_text v)) ≡ Some v
value_back (values.Whole z) h =
    ap (λ (o : Option ℤ). option_map unescaped (option_map values.Whole o)) (whole_read z (leb-true (unsigned_abs z) (2 ^ 63 - 1) h))
value_back (values.Fixed z) h =
    ap (λ (o : Option ℤ). option_map unescaped (option_map values.Fixed o))
    (fixed_back z (leb-true (unsigned_abs z) ((2 ^ 63 - 1) * 1000000) h))
value_back (values.Text text) h = text_back text (and_parts (nat_le (length text) 8192) (is_utf8 text) h).1
value_back (values.Bool true) h = refl
value_back (values.Bool false) h = refl

each : (ps : List Property) → list_all is_property ps ≡ true → All ReadsValue ps
each [] is = All-nil ReadsValue
each (p ∷ ps) is =
    let parts = and_parts (is_property p) (list_all is_property ps) is in
    All-cons ReadsValue p ps (ap (option_map unescaped) (kind_reads p.value) ∙ value_back p.value (value_kept p parts.0)) (each ps parts.1)

pub values_read : (ps : List Property) → are_properties ps ≡ true → All ReadsValue ps
values_read ps are = each ps (and_parts _ (list_all is_property ps) (and_parts _ (names_rise ps) are).0).1
