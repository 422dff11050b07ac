-- The head of a POST, as a head of the grammar.
use Rattle.std.proofs.Common.{◌≡◌, ℕ, Bool, true, false, ◌&&◌, List, [], ◌∷◌, ◌++◌, reverse, map, codes, decimal, refl, sym, ap, ◌∙◌, arith, append_assoc}
use Rattle.std.specs.List.{flat_map, list_all}
use Rattle.std.proofs.lemmas.Bool.{cond-false}
use Rattle.std.proofs.lemmas.Bool.Decides.{nat_tests}
use Rattle.std.proofs.lemmas.List.{reverse-append}
use Rattle.std.proofs.lemmas.List.Sums.{AllPass-from_list_all, list_all-from_AllPass}
use Rattle.httparse.specs.Grammar.{Field, crlf, RequestHead, print_request, print_field, print_section, skip_ows, trim_ows, is_ows}
use Rattle.httparse.proofs.TrimLemmas.{trim_ows_space, AllPass-reverse}
use Rattle.sp_message.specs.Value.{is_in_range}
use Rattle.sp_message.specs.declared.property.Property.{Property}
use Rattle.sp_message.specs.declared.value.Value.{Value}
use Rattle.sp_message.specs.declared.value.Value.TheVariants as values
use Rattle.sp_rest.specs.Wire.Response.{line_end}
use Rattle.sp_rdp.specs.Post.{value_text, kind_word, property_line, head_of, after_host}
use Rattle.sp_rdp.specs.ReadBack.{is_visible, told_value}
use Rattle.sp_rdp.proofs.Seen.{Seen, value_seen}

-- a field whose value stands behind one space
abbrev pub spaced : List ℕ → List ℕ → Field
spaced name value = record { name = name; raw = 32 ∷ value; end = crlf }

abbrev pub spaced_of : Property → Field
spaced_of p = spaced (codes "Solace-User-Property-" ++ p.name) (told_value p.value)

abbrev pub fields_of : List ℕ → ℕ → List Property → List Field
fields_of host len ps =
    spaced (codes "Host") host ∷ spaced (codes "Content-Type") (codes "application/octet-stream")
    ∷ spaced (codes "Content-Length") (decimal len) ∷ spaced (codes "Solace-Delivery-Mode") (codes "Persistent") ∷ map spaced_of ps

abbrev pub head_for : List ℕ → List ℕ → ℕ → List Property → RequestHead
head_for target host len ps = record {
  blank = [];
  method = codes "POST";
  target = target;
  minor = 1;
  line_end = crlf;
  fields = fields_of host len ps;
  last = crlf;
}

-- its bytes

line_glue : (f n c v s w e : List ℕ) → ((f ++ n) ++ (c ++ ((v ++ s) ++ w))) ++ e ≡ (((((f ++ n) ++ c) ++ v) ++ s) ++ w) ++ e
line_glue f n c v s w e = simp append_assoc

line_is : (p : Property) → print_field (spaced_of p) ≡ property_line p
line_is p =
    line_glue (codes "Solace-User-Property-") p.name (codes ": ") (value_text p.value) (codes "; type=") (kind_word p.value) line_end

lines_are : (ps : List Property) → flat_map print_field (map spaced_of ps) ≡ flat_map property_line ps
lines_are [] = refl
lines_are (p ∷ ps) = λ i. line_is p i ++ lines_are ps i

section_glue : (h e t c d m f : List ℕ)
    → ((h ++ e) ++ ((t ++ e) ++ (((c ++ d) ++ e) ++ ((m ++ e) ++ f)))) ++ e
    ≡ h ++ (((((((((e ++ t) ++ e) ++ c) ++ d) ++ e) ++ m) ++ e) ++ f) ++ e)
section_glue h e t c d m f = simp append_assoc

head_glue : (x h y a : List ℕ) → x ++ ((h ++ y) ++ a) ≡ ((x ++ h) ++ y) ++ a
head_glue x h y a = simp append_assoc

pub printed : (target host : List ℕ) (len : ℕ) (ps : List Property)
    → print_request (head_for target host len ps) ≡ head_of target host len ps
unfolding print_request
printed target host len ps =
    let front = ((codes "POST " ++ target) ++ codes " HTTP/1.1") ++ line_end in
    let lines = flat_map property_line ps in
    let section : print_section (fields_of host len ps) crlf ≡ (codes "Host: " ++ host) ++ after_host len lines =
    (λ i. ((((codes "Host: " ++ host) ++ line_end) ++ ((codes "Content-Type: application/octet-stream" ++ line_end)
    ++ (((codes "Content-Length: " ++ decimal len) ++ line_end)
    ++ ((codes "Solace-Delivery-Mode: Persistent" ++ line_end) ++ lines_are ps i)))) ++ line_end))
    ∙ section_glue (codes "Host: " ++ host) line_end (codes "Content-Type: application/octet-stream") (codes "Content-Length: ")
    (decimal len) (codes "Solace-Delivery-Mode: Persistent") lines in
    ap (λ (t : List ℕ). front ++ t) section ∙ head_glue front (codes "Host: ") host (after_host len lines)

-- its fields, read

no_ows : (b : ℕ) → is_visible b ≡ true → is_ows b ≡ false
no_ows b e = grind (arith, nat_tests)

head_seen : (b : ℕ) (bs : List ℕ) → Seen (b ∷ bs) → is_visible b ≡ true
head_seen b bs s = tested (is_visible b) refl
  where
    tested : (t : Bool) → is_visible b ≡ t → is_visible b ≡ true
    tested true e = e
    tested false e = let none : (false && list_all is_visible bs) ≡ true = sym (ap (λ t. t && list_all is_visible bs) e) ∙ s in absurd (cc)

skip_seen : (v : List ℕ) → Seen v → skip_ows v ≡ v
skip_seen [] s = refl
skip_seen (b ∷ bs) s = cond-false _ _ _ (no_ows b (head_seen b bs s))

reverse_seen : (v : List ℕ) → Seen v → Seen (reverse v)
reverse_seen v s = list_all-from_AllPass is_visible (reverse v) (AllPass-reverse is_visible v (AllPass-from_list_all is_visible v s))

pub trim_seen : (v : List ℕ) → Seen v → trim_ows (32 ∷ v) ≡ v
trim_seen v s = trim_ows_space v (skip_seen v s) (skip_seen (reverse v) (reverse_seen v s))

front_stays : (x w : List ℕ) → Seen x → skip_ows ((x ++ codes "; type=") ++ w) ≡ (x ++ codes "; type=") ++ w
front_stays [] w s = refl
front_stays (b ∷ x) w s = cond-false _ _ _ (no_ows b (head_seen b x s))

word_stays : (v : Value) (r : List ℕ) → skip_ows (reverse (kind_word v) ++ r) ≡ reverse (kind_word v) ++ r
word_stays (values.Whole z) r = refl
word_stays (values.Fixed z) r = refl
word_stays (values.Text t) r = refl
word_stays (values.Bool b) r = refl

pub trim_told : (v : Value) → is_in_range v ≡ true → trim_ows (32 ∷ told_value v) ≡ told_value v
trim_told v k =
    let x = value_text v ++ codes "; type=" in
    let back : reverse (told_value v) ≡ reverse (kind_word v) ++ reverse x = reverse-append x (kind_word v) in
    trim_ows_space (told_value v) (front_stays (value_text v) (kind_word v) (value_seen v k))
    (ap skip_ows back ∙ word_stays v (reverse x) ∙ sym back)
