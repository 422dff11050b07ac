-- A POST is read as what was written.
use Rattle.std.proofs.Common.{◌≡◌, ◌==◌, ℕ, ◌+◌, ◌<◌, ◌≤◌, true, false, ◌&&◌, List, [], ◌∷◌, ◌++◌, length, length-append, map, codes, decimal, refl, sym, ap, ◌∙◌, arith, append_assoc, All, Some}
use Rattle.std.specs.Prelude.{nat_le, slice_index, IsTrue}
use Rattle.std.specs.List.{filter, list_all, list_any}
use Rattle.std.specs.Str.Parse.{digits_value}
use Rattle.std.proofs.lemmas.Bool.{and_parts, cond-false, cond-true, leb-true, le-leb, lt-ltb}
use Rattle.std.proofs.lemmas.Bool.Decides.{nat_tests}
use Rattle.std.proofs.lemmas.Fmt.{decimal_is_IsNumeral}
use Rattle.std.proofs.lemmas.List.{length-map}
use Rattle.std.proofs.lemmas.List.Elements.{All-nil, All-cons, All-weaker}
use Rattle.std.proofs.lemmas.List.Sums.{AllPass-from_list_all}
use Rattle.std.proofs.lemmas.Str.{IsUtf8-from_ascii}
use Rattle.std.proofs.lemmas.Str.Ascii.{IsAscii-from_all}
use Rattle.httparse.specs.Grammar.{IsField, IsToken, IsRequestHead, is_token_byte, is_uri_byte, is_value_byte, print_request}
use Rattle.httparse.specs.Spans.{name_and_value}
use Rattle.sp_message.specs.declared.property.Property.{Property}
use Rattle.sp_message.specs.declared.value.Value.{Value}
use Rattle.sp_message.specs.declared.value.Value.TheVariants as values
use Rattle.sp_message.specs.Value.{is_in_range}
use Rattle.sp_message.specs.Property.{are_properties, is_name_byte, is_property, names_rise}
use Rattle.sp_rest.specs.Wire.Request.{body_length, is_named, length_by, length_in, shown}
use Rattle.sp_rest.proofs.Requests.{field_of, request_of}
use Rattle.sp_rdp.specs.Post.{value_text, kind_word, head_of, post_of}
use Rattle.sp_rdp.specs.ReadBack.{is_host, is_target, is_visible, told_value, property_field, post_fields, IsShort, ReadsAs}
use Rattle.sp_rdp.proofs.PostHeads.{fields_of, head_for, printed, spaced, spaced_of, trim_seen, trim_told}
use Rattle.sp_rdp.proofs.Seen.{Seen, both, decimal_seen, digits_are, implied, value_kept, value_seen, weaker}

-- each field is one of the grammar

value_byte : (b : ℕ) → is_visible b ≡ true → is_value_byte b ≡ true
value_byte b is = implied is_visible is_value_byte refl (λ c e. grind (arith, nat_tests)) b is

uri_byte : (b : ℕ) → is_visible b ≡ true → is_uri_byte b ≡ true
uri_byte b is = implied is_visible is_uri_byte refl (λ c e. grind (arith, nat_tests)) b is

token_byte : (b : ℕ) → is_name_byte b ≡ true → is_token_byte b ≡ true
unfolding is_token_byte
token_byte b is = implied is_name_byte is_token_byte refl (λ c e. grind (arith, nat_tests)) b is

spaced_field : (name value : List ℕ) → 0 < length name → list_all is_token_byte name ≡ true → list_all is_value_byte value ≡ true
    → IsField (spaced name value)
spaced_field name value some token passes = record {
  name = (some, AllPass-from_list_all is_token_byte name token);
  raw = AllPass-from_list_all is_value_byte (32 ∷ value) passes;
}

word_passes : (v : Value) → list_all is_value_byte (kind_word v) ≡ true
word_passes (values.Whole z) = refl
word_passes (values.Fixed z) = refl
word_passes (values.Text t) = refl
word_passes (values.Bool b) = refl

told_passes : (v : Value) → is_in_range v ≡ true → list_all is_value_byte (told_value v) ≡ true
told_passes v k =
    both is_value_byte (value_text v ++ codes "; type=") (kind_word v)
    (both is_value_byte (value_text v) (codes "; type=") (weaker is_visible is_value_byte value_byte (value_text v) (value_seen v k)) refl)
    (word_passes v)

prefix_token : list_all is_token_byte (codes "Solace-User-Property-") ≡ true
unfolding is_token_byte
prefix_token = refl

property_ok : (p : Property) → is_property p ≡ true → IsField (spaced_of p)
property_ok p is =
    let parts = and_parts _ (list_all is_name_byte p.name) is in
    spaced_field (codes "Solace-User-Property-" ++ p.name) (told_value p.value)
    (omega (arith, length-append (codes "Solace-User-Property-") p.name))
    (both is_token_byte (codes "Solace-User-Property-") p.name prefix_token (weaker is_name_byte is_token_byte token_byte p.name parts.1))
    (told_passes p.value (value_kept p is))

properties_ok : (ps : List Property) → list_all is_property ps ≡ true → All IsField (map spaced_of ps)
properties_ok [] is = All-nil IsField
properties_ok (p ∷ ps) is =
    let parts = and_parts (is_property p) (list_all is_property ps) is in
    All-cons IsField (spaced_of p) (map spaced_of ps) (property_ok p parts.0) (properties_ok ps parts.1)

first_ok : (host : List ℕ) → Seen host → IsField (spaced (codes "Host") host)
unfolding is_token_byte
first_ok host s = spaced_field (codes "Host") host (omega arith) refl (weaker is_visible is_value_byte value_byte host s)

type_ok : IsField (spaced (codes "Content-Type") (codes "application/octet-stream"))
unfolding is_token_byte
type_ok = spaced_field (codes "Content-Type") (codes "application/octet-stream") (omega arith) refl refl

size_ok : (len : ℕ) → Seen (decimal len) → IsField (spaced (codes "Content-Length") (decimal len))
unfolding is_token_byte
size_ok len s =
    spaced_field (codes "Content-Length") (decimal len) (omega arith) refl (weaker is_visible is_value_byte value_byte (decimal len) s)

mode_ok : IsField (spaced (codes "Solace-Delivery-Mode") (codes "Persistent"))
unfolding is_token_byte
mode_ok = spaced_field (codes "Solace-Delivery-Mode") (codes "Persistent") (omega arith) refl refl

fields_ok : (host : List ℕ) (len : ℕ) (ps : List Property)
    → Seen host → Seen (decimal len) → list_all is_property ps ≡ true → All IsField (fields_of host len ps)
fields_ok host len ps h s is =
    let mode = spaced (codes "Solace-Delivery-Mode") (codes "Persistent") in
    let size = spaced (codes "Content-Length") (decimal len) in
    let kind = spaced (codes "Content-Type") (codes "application/octet-stream") in
    let rest = map spaced_of ps in
    All-cons IsField (spaced (codes "Host") host) (kind ∷ size ∷ mode ∷ rest) (first_ok host h)
    (All-cons IsField kind (size ∷ mode ∷ rest) type_ok
    (All-cons IsField size (mode ∷ rest) (size_ok len s)
    (All-cons IsField mode rest mode_ok (properties_ok ps is))))

-- the length of the body

no_encoding : (ps : List Property) → list_any (is_named (codes "transfer-encoding")) (map property_field ps) ≡ false
no_encoding [] = refl
no_encoding (p ∷ ps) = no_encoding ps

no_sizes : (ps : List Property) → filter (is_named (codes "content-length")) (map property_field ps) ≡ []
no_sizes [] = refl
no_sizes (p ∷ ps) = no_sizes ps

length_is : (len : ℕ) → len ≤ 8388608 → length_in (decimal len) ≡ Some len
length_is len small =
    let d = decimal_is_IsNumeral len (omega arith) in
    let some = lt-ltb 0 (length (decimal len)) d.0.0 in
    let digits = digits_are len (omega arith) in
    let fits : nat_le (digits_value 10 (decimal len)) 8388608 ≡ true =
    le-leb (digits_value 10 (decimal len)) 8388608 (let is = d.1 in omega arith) in
    cond-true _ _ _ (λ i. (some i && digits i) && fits i) ∙ ap (λ n. Some n) d.1

body_is : (host : List ℕ) (len : ℕ) (ps : List Property) → len ≤ 8388608 → body_length (post_fields host len ps) ≡ Some len
body_is host len ps small =
    cond-false _ _ _ (no_encoding ps)
    ∙ ap (λ (sizes : List (List ℕ × List ℕ)). length_by ((codes "Content-Length", decimal len) ∷ sizes)) (no_sizes ps)
    ∙ length_is len small

-- the fields as they are read

told_fields : (ps : List Property) → list_all is_property ps ≡ true → map name_and_value (map spaced_of ps) ≡ map property_field ps
told_fields [] is = refl
told_fields (p ∷ ps) is =
    let parts = and_parts (is_property p) (list_all is_property ps) is in
    λ i. (codes "Solace-User-Property-" ++ p.name, trim_told p.value (value_kept p parts.0) i) ∷ told_fields ps parts.1 i

pairs_are : (host : List ℕ) (len : ℕ) (ps : List Property) → Seen host → Seen (decimal len) → list_all is_property ps ≡ true
    → map name_and_value (fields_of host len ps) ≡ post_fields host len ps
pairs_are host len ps h s is = λ i.
    (codes "Host", trim_seen host h i) ∷ (codes "Content-Type", trim_seen (codes "application/octet-stream") refl i)
    ∷ (codes "Content-Length", trim_seen (decimal len) s i) ∷ (codes "Solace-Delivery-Mode", trim_seen (codes "Persistent") refl i)
    ∷ told_fields ps is i

-- the whole

shown_back : (pairs : List (List ℕ × List ℕ)) → map shown (map field_of pairs) ≡ pairs
shown_back [] = refl
shown_back (p ∷ pairs) = ap (λ (ps : List (List ℕ × List ℕ)). p ∷ ps) (shown_back pairs)

post_token : IsToken (codes "POST")
unfolding is_token_byte
post_token = (omega arith, AllPass-from_list_all is_token_byte (codes "POST") refl)

below : (b : ℕ) → IsTrue (is_visible b) → b < 128
below b is = grind (arith, nat_tests)

pub reads_as : (target host : List ℕ) (ps : List Property) (payload more : List ℕ)
    → is_host host ≡ true → is_target target ≡ true → are_properties ps ≡ true
    → length payload ≤ 8388608 → length ps ≤ 60 → length (head_of target host (length payload) ps) ≤ 8192
    → ReadsAs (post_of target host ps payload ++ more) target host ps payload
reads_as target host ps payload more is_h is_t is_ps small few short =
    let len = length payload in
    let h = head_for target host len ps in
    let host_seen : Seen host = (and_parts _ (list_all is_visible host) is_h).1 in
    let t = and_parts _ (slice_index target 0 == 47) is_t in
    let t2 = and_parts _ (list_all is_visible target) t.0 in
    let t3 = and_parts (nat_le 1 (length target)) _ t2.0 in
    let some = leb-true 1 (length target) t3.0 in
    let target_seen : Seen target = t2.1 in
    let d : Seen (decimal len) = decimal_seen len (omega arith) in
    let rule = and_parts _ (names_rise ps) is_ps in
    let each = (and_parts _ (list_all is_property ps) rule.0).1 in
    let print : print_request h ≡ head_of target host len ps = printed target host len ps in
    let pairs = pairs_are host len ps host_seen d each in
    let bytes : post_of target host ps payload ++ more ≡ print_request h ++ (payload ++ more) =
    append_assoc (head_of target host len ps) payload more ∙ ap (λ (x : List ℕ). x ++ (payload ++ more)) (sym print) in
    let valid : IsRequestHead h = record {
      method = post_token;
      target = (omega arith, AllPass-from_list_all is_uri_byte target (weaker is_visible is_uri_byte uri_byte target target_seen));
      target_text = IsUtf8-from_ascii target (IsAscii-from_all target (All-weaker (λ b. IsTrue (is_visible b)) (λ b. b < 128) below target
          (AllPass-from_list_all is_visible target target_seen)));
      minor = omega arith;
      fields = fields_ok host len ps host_seen d each;
    } in
    let size : length (print_request h) ≡ length (head_of target host len ps) = ap length print in
    record {
      request = request_of h payload;
      begins = record {
        h = h;
        body = payload;
        rest = more;
        head = record {
          reads = (valid, bytes);
          short = omega arith;
          few = omega (arith, length-map ps spaced_of);
          body = ap body_length pairs ∙ body_is host len ps small;
        };
        request_is = record { method = refl; target = refl; fields = shown_back (map name_and_value h.fields); body_is = refl };
        used_is = length-append (head_of target host len ps) payload ∙ ap (λ n. n + length payload) (sym size);
      };
      method = refl;
      target_is = refl;
      fields = shown_back (map name_and_value h.fields) ∙ pairs;
      body = refl;
    }

pub reads_short : (target host : List ℕ) (ps : List Property) (payload more : List ℕ)
    → IsShort target host ps payload → are_properties ps ≡ true → length payload ≤ 8388608
    → ReadsAs (post_of target host ps payload ++ more) target host ps payload
reads_short target host ps payload more limits is_ps small =
    reads_as target host ps payload more limits.host_is limits.target_is is_ps small limits.few limits.short
