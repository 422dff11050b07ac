-- A message that is read is the one that was written, and what was written is read again.
use Rattle.std.proofs.Common.{◌≡◌, ℕ, zero, suc, ◌+◌, ◌-◌, ◌*◌, ◌^◌, ◌<◌, ◌≤◌, Bool, true, false, List, [], ◌∷◌, ◌++◌, length, Option, Some, None, refl, sym, ap, subst, ◌∙◌, append_assoc, arith, IsUtf8, ℤ, to_z, of_z, All}
use Rattle.std.specs.Prelude.{◌&&◌, nat_le, unsigned_abs, if◌then◌else◌}
use Rattle.std.specs.Str.{is_utf8}
use Rattle.std.specs.List.{list_all, AllByRecursion}
use Rattle.std.specs.Option.{is_none}
use Rattle.std.specs.Int.{w64, w128, cast_unsigned, cast_signed}
use Rattle.std.proofs.lemmas.Bool.Decides.{nat_tests}
use Rattle.std.proofs.lemmas.Int.{to_z-of_z, of_z-to_z, fits_signed_from_abs}
use Rattle.std.proofs.lemmas.List.{append-nil}
use Rattle.std.proofs.lemmas.List.Elements.{All-weaker, recursion_from_All, All-from_recursion}
use Rattle.std.proofs.lemmas.List.Sums.{AllPass-from_list_all}
use Rattle.std.proofs.lemmas.Str.{IsUtf8-from_ascii, is_utf8-from_IsUtf8}
use Rattle.std.proofs.lemmas.Str.Ascii.{IsAscii-from_all}
use Rattle.std.proofs.Math.Facts.{Fits-of_z}
use Rattle.sp_base.specs.Name.{is_name}
use Rattle.sp_base.specs.Topic.{topic_fault}
use Rattle.sp_base.proofs.TopicFaults.{topic_bound}
use Rattle.sp_message.specs.declared.message.Dest.{Dest}
use Rattle.sp_message.specs.declared.message.Dest.TheVariants.{Topic, Queue}
use Rattle.sp_message.specs.declared.message.Message.{Message}
use Rattle.sp_message.specs.declared.property.Property.{Property}
use Rattle.sp_message.specs.declared.value.Value.{Value}
use Rattle.sp_message.specs.declared.value.Value.TheVariants as variant
use Rattle.sp_message.specs.Decoding.{◌>>=◌, list_at, number_at, number_within_at, tested, text_that_at, truth_at, wide_at}
use Rattle.sp_message.specs.Encoding.{list_bytes, number_bytes, text_bytes, truth_bytes, wide_bytes}
use Rattle.sp_message.specs.MessageBytes.{KeepsRules, IsMessage, destination_bytes, is_destination, is_payload, message_bytes, property_bytes, value_bytes}
use Rattle.sp_message.specs.MessageReading.{destination_at, fixed_at, message_at, name_at, properties_at, property_at, topic_at, utf8_at, value_at, whole_at}
use Rattle.sp_message.specs.Property.{are_properties, is_name_byte, is_property, names_rise}
use Rattle.sp_message.specs.Value.{is_in_range}
use Rattle.sp_message.proofs.Codecs.{IsBytes, IsCodec, Takes, Takes-byte, Takes-then, bind_some, list_codec, number_codec, number_within_codec, refit, short_text_codec, some_is, tested_codec, text_that_codec, truth_codec, wide_codec}
use Rattle.sp_message.proofs.Digits.{split_and}

-- ---- texts

pub is_topic : (text : List ℕ) → is_none (topic_fault text) ≡ true → topic_fault text ≡ None
is_topic text h = none (topic_fault text) h
  where
    none : (o : Option ℕ) → is_none o ≡ true → o ≡ None
    none None e = refl
    none (Some n) e = absurd cc

short_topic : (text : List ℕ) → is_none (topic_fault text) ≡ true → length text < 2 ^ 32
short_topic text h = omega (arith, topic_bound text (is_topic text h))

short_name : (text : List ℕ) → is_name text ≡ true → length text < 2 ^ 32
short_name text h = grind (arith, nat_tests)

short_payload : (text : List ℕ) → is_payload text ≡ true → length text < 2 ^ 32
short_payload text h = grind (arith, nat_tests)

pub topic_codec : IsCodec (λ text. is_none (topic_fault text) ≡ true) text_bytes topic_at
unfolding topic_at
topic_codec = short_text_codec (λ text. is_none (topic_fault text)) short_topic

pub name_codec : IsCodec (λ text. is_name text ≡ true) text_bytes name_at
unfolding name_at
name_codec = short_text_codec is_name short_name

payload_codec : IsCodec (λ text. is_payload text ≡ true) text_bytes (text_that_at is_payload)
payload_codec = short_text_codec is_payload short_payload

utf8_codec : IsCodec (λ text. (length text < 2 ^ 32) × (is_utf8 text ≡ true)) text_bytes utf8_at
unfolding utf8_at
utf8_codec = text_that_codec is_utf8

-- ---- the destination

destination_codec : IsCodec (λ d. is_destination d ≡ true) destination_bytes destination_at
unfolding destination_at
destination_codec = record { takes = takes; again = again }
  where
    takes : (bytes : List ℕ) (d : Dest) (rest : List ℕ) → IsBytes bytes → destination_at bytes ≡ Some (d, rest) → Takes bytes (destination_bytes d) rest × (is_destination d ≡ true)
    takes [] d rest is e = absurd cc
    takes (zero ∷ bytes) d rest is e =
        let b = bind_some (topic_at bytes) (λ t. Some (Topic t.0, t.1)) (d, rest) e in
        let t = topic_codec.takes bytes b.0.0 b.0.1 (λ i. is (suc i)) b.1 in
        subst (λ (x : Dest × List ℕ). Takes (0 ∷ bytes) (destination_bytes x.0) x.1 × (is_destination x.0 ≡ true)) (some_is (Topic b.0.0, b.0.1) (d, rest) b.2) (Takes-byte 0 bytes (text_bytes b.0.0) b.0.1 t.0, t.1)
    takes (suc zero ∷ bytes) d rest is e =
        let b = bind_some (name_at bytes) (λ t. Some (Queue t.0, t.1)) (d, rest) e in
        let t = name_codec.takes bytes b.0.0 b.0.1 (λ i. is (suc i)) b.1 in
        subst (λ (x : Dest × List ℕ). Takes (1 ∷ bytes) (destination_bytes x.0) x.1 × (is_destination x.0 ≡ true)) (some_is (Queue b.0.0, b.0.1) (d, rest) b.2) (Takes-byte 1 bytes (text_bytes b.0.0) b.0.1 t.0, t.1)
    takes (suc (suc n) ∷ bytes) d rest is e = absurd cc

    again : (d : Dest) (rest : List ℕ) → is_destination d ≡ true → destination_at (destination_bytes d ++ rest) ≡ Some (d, rest)
    again (Topic topic) rest h = rw (topic_codec.again topic rest h) refl
    again (Queue name) rest h = rw (name_codec.again name rest h) refl

-- ---- the value of a property

small_whole : (z : ℤ) → nat_le (unsigned_abs z) (2 ^ 63 - 1) ≡ true → unsigned_abs z < 2 ^ 63
small_whole z h = grind (arith, nat_tests)

small_fixed : (z : ℤ) → nat_le (unsigned_abs z) ((2 ^ 63 - 1) * 1000000) ≡ true → unsigned_abs z < 2 ^ 127
small_fixed z h = grind (arith, nat_tests)

whole_takes : (bytes : List ℕ) (v : Value) (rest : List ℕ) → IsBytes bytes → whole_at bytes ≡ Some (v, rest) → Takes (0 ∷ bytes) (value_bytes v) rest
unfolding whole_at
whole_takes bytes v rest is e =
    let b = bind_some (number_at w64 bytes) (λ n. Some (variant.Whole (cast_signed w64 n.0), n.1)) (v, rest) e in
    let t = number_codec.takes bytes b.0.0 b.0.1 is b.1 in
    let same : cast_unsigned w64 (cast_signed w64 b.0.0) ≡ b.0.0 = of_z-to_z w64 b.0.0 t.1 in
    let front = subst (λ (n : ℕ). Takes (0 ∷ bytes) (0 ∷ number_bytes n) b.0.1) (sym same) (Takes-byte 0 bytes (number_bytes b.0.0) b.0.1 t.0) in
    subst (λ (x : Value × List ℕ). Takes (0 ∷ bytes) (value_bytes x.0) x.1) (some_is (variant.Whole (cast_signed w64 b.0.0), b.0.1) (v, rest) b.2) front

tested_is : {A : Type 0} (test : A → Bool) (x y : A × List ℕ) → tested test x ≡ Some y → (test x.0 ≡ true) × (x ≡ y)
tested_is test x y e = both (test x.0) x y e
  where
    both : {B : Type 0} (b : Bool) (x y : B) → (if b then Some x else None) ≡ Some y → (b ≡ true) × (x ≡ y)
    both true x y e = (refl, cc)
    both false x y e = absurd cc

fixed_takes : (bytes : List ℕ) (v : Value) (rest : List ℕ) → IsBytes bytes → fixed_at bytes ≡ Some (v, rest) → Takes (1 ∷ bytes) (value_bytes v) rest
unfolding fixed_at
fixed_takes bytes v rest is e =
    let b = bind_some (wide_at bytes) (λ n. tested is_in_range (variant.Fixed (cast_signed w128 n.0), n.1)) (v, rest) e in
    let g = tested_is is_in_range (variant.Fixed (cast_signed w128 b.0.0), b.0.1) (v, rest) b.2 in
    let t = wide_codec.takes bytes b.0.0 b.0.1 is b.1 in
    let same : cast_unsigned w128 (cast_signed w128 b.0.0) ≡ b.0.0 = of_z-to_z w128 b.0.0 t.1 in
    let front = subst (λ (n : ℕ). Takes (1 ∷ bytes) (1 ∷ wide_bytes n) b.0.1) (sym same) (Takes-byte 1 bytes (wide_bytes b.0.0) b.0.1 t.0) in
    subst (λ (x : Value × List ℕ). Takes (1 ∷ bytes) (value_bytes x.0) x.1) g.1 front

value_takes : (bytes : List ℕ) (v : Value) (rest : List ℕ) → IsBytes bytes → value_at bytes ≡ Some (v, rest) → Takes bytes (value_bytes v) rest
unfolding value_at
value_takes [] v rest is e = absurd cc
value_takes (zero ∷ bytes) v rest is e = whole_takes bytes v rest (λ i. is (suc i)) e
value_takes (suc zero ∷ bytes) v rest is e = fixed_takes bytes v rest (λ i. is (suc i)) e
value_takes (suc (suc zero) ∷ bytes) v rest is e =
    let b = bind_some (utf8_at bytes) (λ t. Some (variant.Text t.0, t.1)) (v, rest) e in
    let t = utf8_codec.takes bytes b.0.0 b.0.1 (λ i. is (suc i)) b.1 in
    subst (λ (x : Value × List ℕ). Takes (2 ∷ bytes) (value_bytes x.0) x.1) (some_is (variant.Text b.0.0, b.0.1) (v, rest) b.2) (Takes-byte 2 bytes (text_bytes b.0.0) b.0.1 t.0)
value_takes (suc (suc (suc zero)) ∷ bytes) v rest is e =
    let b = bind_some (truth_at bytes) (λ t. Some (variant.Bool t.0, t.1)) (v, rest) e in
    let t = truth_codec.takes bytes b.0.0 b.0.1 (λ i. is (suc i)) b.1 in
    subst (λ (x : Value × List ℕ). Takes (3 ∷ bytes) (value_bytes x.0) x.1) (some_is (variant.Bool b.0.0, b.0.1) (v, rest) b.2) (Takes-byte 3 bytes (truth_bytes b.0.0) b.0.1 t.0)
value_takes (suc (suc (suc (suc n))) ∷ bytes) v rest is e = absurd cc

value_again : (v : Value) (rest : List ℕ) → is_in_range v ≡ true → value_at (value_bytes v ++ rest) ≡ Some (v, rest)
unfolding value_at whole_at fixed_at
value_again (variant.Whole z) rest h =
    let fits = fits_signed_from_abs w64 z (small_whole z h) in
    let below : cast_unsigned w64 z < 2 ^ 64 = omega (arith, Fits-of_z {w = w64} {z = z} fits) in
    rw (number_codec.again (cast_unsigned w64 z) rest below) (ap (λ (y : ℤ). Some (variant.Whole y, rest)) (to_z-of_z w64 z fits))
value_again (variant.Fixed z) rest h =
    let fits = fits_signed_from_abs w128 z (small_fixed z h) in
    let below : cast_unsigned w128 z < 2 ^ 128 = omega (arith, Fits-of_z {w = w128} {z = z} fits) in
    rw (wide_codec.again (cast_unsigned w128 z) rest below) (ap (λ (y : ℤ). tested is_in_range (variant.Fixed y, rest)) (to_z-of_z w128 z fits) ∙ ap (λ (b : Bool). if b then Some (variant.Fixed z, rest) else None) h)
value_again (variant.Text text) rest h =
    let both = split_and (nat_le (length text) 8192) (is_utf8 text) h in
    rw (utf8_codec.again text rest (short text both.0, both.1)) refl
  where
    short : (t : List ℕ) → nat_le (length t) 8192 ≡ true → length t < 2 ^ 32
    short t k = grind (arith, nat_tests)
value_again (variant.Bool b) rest h = rw (truth_codec.again b rest tt) refl

-- ---- properties

name_byte_below : (b : ℕ) → is_name_byte b ≡ true → b < 128
name_byte_below b h = grind (arith, nat_tests)

name_is_utf8 : (name : List ℕ) → list_all is_name_byte name ≡ true → is_utf8 name ≡ true
name_is_utf8 name each =
    is_utf8-from_IsUtf8 name (IsUtf8-from_ascii name (IsAscii-from_all name (All-weaker (λ b. is_name_byte b ≡ true) (λ b. b < 128) name_byte_below name (AllPass-from_list_all is_name_byte name each))))

short_property_name : (p : Property) → is_property p ≡ true → length p.name < 2 ^ 32
short_property_name p h =
    let few = (split_and _ _ (split_and _ _ (split_and _ (list_all is_name_byte p.name) h).0).0).1 in
    short (length p.name) few
  where
    short : (n : ℕ) → nat_le n 64 ≡ true → n < 2 ^ 32
    short n k = grind (arith, nat_tests)

property_codec : IsCodec (λ p. is_property p ≡ true) property_bytes property_at
unfolding property_at
property_codec = record { takes = takes; again = again }
  where
    takes : (bytes : List ℕ) (p : Property) (rest : List ℕ) → IsBytes bytes → property_at bytes ≡ Some (p, rest) → Takes bytes (property_bytes p) rest × (is_property p ≡ true)
    takes bytes p rest is e =
        let a = bind_some (utf8_at bytes) (λ name. value_at name.1 >>= λ value. tested is_property (record { name = name.0; value = value.0 }, value.1)) (p, rest) e in
        let b = bind_some (value_at a.0.1) (λ value. tested is_property (record { name = a.0.0; value = value.0 }, value.1)) (p, rest) a.2 in
        let g = tested_is is_property (record { name = a.0.0; value = b.0.0 }, b.0.1) (p, rest) b.2 in
        let t = (utf8_codec.takes bytes a.0.0 a.0.1 is a.1).0 in
        let u = value_takes a.0.1 b.0.0 b.0.1 t.rest_fits b.1 in
        let both = Takes-then bytes (text_bytes a.0.0) a.0.1 (value_bytes b.0.0) b.0.1 t u in
        subst (λ (x : Property × List ℕ). Takes bytes (property_bytes x.0) x.1 × (is_property x.0 ≡ true)) g.1 (both, g.0)

    again : (p : Property) (rest : List ℕ) → is_property p ≡ true → property_at (property_bytes p ++ rest) ≡ Some (p, rest)
    again p rest h =
        let each = split_and _ (list_all is_name_byte p.name) h in
        let range : is_in_range p.value ≡ true = (split_and _ (is_in_range p.value) each.0).1 in
        ap property_at (append_assoc (text_bytes p.name) (value_bytes p.value) rest)
        ∙ rw (utf8_codec.again p.name (value_bytes p.value ++ rest) (short_property_name p h, name_is_utf8 p.name each.1), value_again p.value rest range)
        (ap (λ (b : Bool). if b then Some (p, rest) else None) h)

each_is_one : (ps : List Property) → are_properties ps ≡ true → AllByRecursion (λ p. is_property p ≡ true) ps
each_is_one ps h =
    let each : list_all is_property ps ≡ true = (split_and _ (list_all is_property ps) (split_and _ (names_rise ps) h).0).1 in
    recursion_from_All (λ p. is_property p ≡ true) ps (AllPass-from_list_all is_property ps each)

properties_codec : IsCodec (λ ps. are_properties ps ≡ true) (list_bytes property_bytes) properties_at
unfolding properties_at
properties_codec =
    refit (λ ps. AllByRecursion (λ p. is_property p ≡ true) ps × (are_properties ps ≡ true)) (λ ps. are_properties ps ≡ true) (list_bytes property_bytes) properties_at
    (tested_codec (λ ps. AllByRecursion (λ p. is_property p ≡ true) ps) (list_bytes property_bytes) (list_at property_at) are_properties (list_codec (λ p. is_property p ≡ true) property_bytes property_at property_codec))
    (λ ps h. h.1) (λ ps h. (each_is_one ps h, h))

-- ---- the message

ttl_codec : IsCodec (λ n. (0 ≤ n) × (n ≤ 4294967295000)) number_bytes (number_within_at 0 4294967295000)
ttl_codec = number_within_codec 0 4294967295000 (omega arith)

regroup : (a b c d e rest : List ℕ) → (a ++ b ++ c ++ d ++ e) ++ rest ≡ a ++ (b ++ (c ++ (d ++ (e ++ rest))))
regroup a b c d e rest = simp append_assoc

pub message_codec : IsCodec KeepsRules message_bytes message_at
unfolding message_at
message_codec = record { takes = takes; again = again }
  where
    takes : (bytes : List ℕ) (m : Message) (rest : List ℕ) → IsBytes bytes → message_at bytes ≡ Some (m, rest) → Takes bytes (message_bytes m) rest × KeepsRules m
    takes bytes m rest is e =
        let a = bind_some (destination_at bytes) _ (m, rest) e in
        let b = bind_some (text_that_at is_payload a.0.1) _ (m, rest) a.2 in
        let c = bind_some (number_within_at 0 4294967295000 b.0.1) _ (m, rest) b.2 in
        let d = bind_some (truth_at c.0.1) _ (m, rest) c.2 in
        let f = bind_some (properties_at d.0.1) _ (m, rest) d.2 in
        let ta = destination_codec.takes bytes a.0.0 a.0.1 is a.1 in
        let tb = payload_codec.takes a.0.1 b.0.0 b.0.1 ta.0.rest_fits b.1 in
        let tc = ttl_codec.takes b.0.1 c.0.0 c.0.1 tb.0.rest_fits c.1 in
        let td = truth_codec.takes c.0.1 d.0.0 d.0.1 tc.0.rest_fits d.1 in
        let tf = properties_codec.takes d.0.1 f.0.0 f.0.1 td.0.rest_fits f.1 in
        let to_payload = Takes-then bytes (destination_bytes a.0.0) a.0.1 (text_bytes b.0.0) b.0.1 ta.0 tb.0 in
        let to_ttl = Takes-then bytes _ b.0.1 (number_bytes c.0.0) c.0.1 to_payload tc.0 in
        let to_eligible = Takes-then bytes _ c.0.1 (truth_bytes d.0.0) d.0.1 to_ttl td.0 in
        let whole = Takes-then bytes _ d.0.1 (list_bytes property_bytes f.0.0) f.0.1 to_eligible tf.0 in
        let read : Message = record { dest = a.0.0; payload = b.0.0; ttl = c.0.0; eligible = d.0.0; properties = f.0.0 } in
        let rules : KeepsRules read = record { destination = ta.1; payload = tb.1; ttl = tc.1.1; properties = tf.1 } in
        subst (λ (x : Message × List ℕ). Takes bytes (message_bytes x.0) x.1 × KeepsRules x.0) (some_is (read, f.0.1) (m, rest) f.2) (whole, rules)

    again : (m : Message) (rest : List ℕ) → KeepsRules m → message_at (message_bytes m ++ rest) ≡ Some (m, rest)
    again m rest h =
        let properties = list_bytes property_bytes m.properties ++ rest in
        let eligible = truth_bytes m.eligible ++ properties in
        let ttl = number_bytes m.ttl ++ eligible in
        let payload = text_bytes m.payload ++ ttl in
        ap message_at (regroup (destination_bytes m.dest) (text_bytes m.payload) (number_bytes m.ttl) (truth_bytes m.eligible) (list_bytes property_bytes m.properties) rest)
        ∙ rw (destination_codec.again m.dest payload h.destination, payload_codec.again m.payload ttl h.payload, ttl_codec.again m.ttl eligible (omega arith, h.ttl), truth_codec.again m.eligible properties tt, properties_codec.again m.properties rest h.properties) refl
