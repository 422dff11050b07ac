-- Field lines that are cut short, and what closes them.
use Rattle.std.proofs.Common.{◌≡◌, ℕ, ◌+◌, ◌<◌, ◌≤◌, ◌⊎◌, inl, inr, Bool, true, false, List, [], ◌∷◌, ◌++◌, length, length-append, map, refl, sym, ap, ◌∙◌, subst, arith, append-nil, append_assoc, Some}
use Rattle.std.specs.Prelude.{All}
use Rattle.std.specs.List.{flat_map}
use Rattle.httparse.proofs.GrammarLemmas.{cons-append}
use Rattle.std.proofs.lemmas.List.Elements.{All-head, All-tail, All-cons, All-nil, All-append}
use Rattle.httparse.specs.Grammar.{LineEnd, crlf, lf, print_end, Field, print_field, IsField, IsToken, AllPass, is_token_byte, is_value_byte, print_section, field_value, trim_ows}
use Rattle.httparse.specs.Spans.{name_and_value}
use Rattle.sp_rest.specs.Wire.Request.{length_in}
use Rattle.sp_rest.proofs.Splits.{splits}
use Rattle.sp_rest.proofs.Trims.{IsLength, length_front, empty_length}
use Rattle.sp_rest.proofs.Fields.{Pair, IsGood, is_encoding, is_size, good_front, good_push, good_change, given_length, other_name, no_encoding}

-- no fields make the text and these bytes the rest of a section, within the room
abbrev pub Refuses : List Field → List ℕ → ℕ → ℕ → List ℕ → Type 0
Refuses before text room count s =
    (gs : List Field) (last : LineEnd) → All IsField gs → IsGood (map name_and_value (before ++ gs)) → text ++ s ≡ print_section gs last
    → length s ≤ room → length gs ≤ count → ⊥

-- none of the five does
pub record NoneCloses (before : List Field) (text : List ℕ) (room count : ℕ) : Type 0 where
  pub end : Refuses before text room count (10 ∷ [])
  pub two_ends : Refuses before text room count (10 ∷ 10 ∷ [])
  pub zero : Refuses before text room count (48 ∷ 10 ∷ 10 ∷ [])
  pub colon : Refuses before text room count (58 ∷ 10 ∷ 10 ∷ [])
  pub letter : Refuses before text room count (120 ∷ 58 ∷ 10 ∷ 10 ∷ [])

map_append : (fs gs : List Field) → map name_and_value (fs ++ gs) ≡ map name_and_value fs ++ map name_and_value gs
map_append [] gs = refl
map_append (f ∷ fs) gs = ap (λ (ps : List Pair). name_and_value f ∷ ps) (map_append fs gs)

section_cons : (f : Field) (fs : List Field) (last : LineEnd) → print_section (f ∷ fs) last ≡ print_field f ++ print_section fs last
section_cons f fs last = append_assoc (print_field f) (flat_map print_field fs) (print_end last)

refuses_next : (before : List Field) (f : Field) (text : List ℕ) (room count more : ℕ) (s : List ℕ) → IsField f → more ≡ count + 1
    → Refuses before (print_field f ++ text) room more s → Refuses (before ++ f ∷ []) text room count s
refuses_next before f text room count more s field one none gs last all good e short few =
    none (f ∷ gs) last (All-cons IsField f gs field all)
    (subst (λ (fs : List Field). IsGood (map name_and_value fs)) (append_assoc before (f ∷ []) gs) good)
    (append_assoc (print_field f) text s ∙ ap (λ (t : List ℕ). print_field f ++ t) e ∙ sym (section_cons f gs last))
    short (omega arith)

-- a line that is whole, with an empty line after it
closes_with : (before : List Field) (text : List ℕ) (room count : ℕ) (s : List ℕ) (g : Field) (last : LineEnd) → IsField g
    → IsGood (map name_and_value before ++ name_and_value g ∷ [])
    → text ++ s ≡ print_field g ++ print_end last → length s ≤ room → 1 ≤ count → Refuses before text room count s → ⊥
closes_with before text room count s g last field good e short few none =
    none (g ∷ []) last (All-cons IsField g [] field (All-nil IsField))
    (subst IsGood (sym (map_append before (g ∷ []))) good)
    (e ∙ sym (ap (λ (t : List ℕ). t ++ print_end last) (append-nil (print_field g)))) short few

-- the empty line alone
closes_empty : (before : List Field) (text : List ℕ) (room count : ℕ) (s : List ℕ) (last : LineEnd) → IsGood (map name_and_value before)
    → text ++ s ≡ print_end last → length s ≤ room → Refuses before text room count s → ⊥
closes_empty before text room count s last good e short none =
    none [] last (All-nil IsField) (subst (λ (fs : List Field). IsGood (map name_and_value fs))
    (sym (append-nil before)) good) e short (omega arith)

-- within the line end of the last line or of a field
pub ends_cut : (end : LineEnd) (x m : List ℕ) → print_end end ≡ x ++ m → 0 < length m → (x ≡ []) ⊎ ((x ≡ 13 ∷ []) × (end ≡ crlf))
ends_cut end [] m e some = inl refl
ends_cut crlf (a ∷ []) m e some = inr (cc, refl)
ends_cut lf (a ∷ []) m e some = let n = ap length e in absurd (omega arith)
ends_cut crlf (a ∷ b ∷ x) m e some = let n = ap length e in absurd (omega (arith, length-append x m))
ends_cut lf (a ∷ b ∷ x) m e some = let n = ap length e in absurd (omega (arith, length-append x m))

pub All-front : (test : ℕ → Bool) (x m : List ℕ) → AllPass test (x ++ m) → AllPass test x
All-front test [] m all = All-nil _
All-front test (b ∷ x) m all =
    All-cons (λ v. test v ≡ true) b x (All-head (λ v. test v ≡ true) b (x ++ m) all)
    (All-front test x m (All-tail (λ v. test v ≡ true) b (x ++ m) all))

pub end_size : (end : LineEnd) → 1 ≤ length (print_end end)
end_size crlf = omega arith
end_size lf = omega arith

pub section_size : (fs : List Field) (last : LineEnd) → 1 ≤ length (print_section fs last)
section_size fs last = omega (arith, length-append (flat_map print_field fs) (print_end last), end_size last)

field_print : (f : Field) → print_field f ≡ f.name ++ (58 ∷ (f.raw ++ print_end f.end))
field_print f = simp (append_assoc, cons-append)

letter_is_token : is_token_byte 120 ≡ true
unfolding is_token_byte
letter_is_token = refl

line_closed : (name raw : List ℕ) (end : LineEnd) (text s : List ℕ) → text ++ s ≡ name ++ (58 ∷ (raw ++ (print_end end ++ 10 ∷ [])))
    → text ++ s ≡ print_field (record { name = name; raw = raw; end = end }) ++ print_end lf
line_closed name raw end text s e =
    e ∙ sym (ap (λ (t : List ℕ). t ++ 10 ∷ []) (field_print (record { name = name; raw = raw; end = end }))
    ∙ regroup name raw (print_end end))
  where
    regroup : (a b c : List ℕ) → (a ++ (58 ∷ (b ++ c))) ++ 10 ∷ [] ≡ a ++ (58 ∷ (b ++ (c ++ 10 ∷ [])))
    regroup a b c = simp append_assoc

-- within a name
name_cut : (before : List Field) (text : List ℕ) (room count : ℕ) → IsGood (map name_and_value before) → IsToken text → 1 ≤ count → 3 ≤ room
    → ((is_encoding (text, []) ≡ true) ⊎ (is_size (text, []) ≡ true) → 4 ≤ room) → NoneCloses before text room count → ⊥
name_cut before text room count good token few wide wider none = by_tests (is_encoding (text, [])) (is_size (text, [])) refl refl
  where
    named : (is_encoding (text, []) ≡ true) ⊎ (is_size (text, []) ≡ true) → ⊥
    named either =
        let g : Field = record { name = text ++ 120 ∷ []; raw = []; end = lf } in
        let other = other_name text [] (field_value g) either in
        let field : IsField g = record {
          name = (
            omega (arith, length-append text (120 ∷ [])),
            All-append (λ v. is_token_byte v ≡ true) text (120 ∷ []) token.1
                (All-cons (λ v. is_token_byte v ≡ true) 120 [] letter_is_token (All-nil _)),
          );
          raw = All-nil _;
        } in
        closes_with before text room count (120 ∷ 58 ∷ 10 ∷ 10 ∷ []) g lf field
        (good_push (map name_and_value before) (name_and_value g) good other.0 other.1)
        (line_closed (text ++ 120 ∷ []) [] lf text (120 ∷ 58 ∷ 10 ∷ 10 ∷ []) (sym (append_assoc text (120 ∷ []) (58 ∷ 10 ∷ 10 ∷ []))))
        (wider either) few none.letter

    by_tests : (a b : Bool) → is_encoding (text, []) ≡ a → is_size (text, []) ≡ b → ⊥
    by_tests true b e f = named (inl e)
    by_tests false true e f = named (inr f)
    by_tests false false e f =
        let g : Field = record { name = text; raw = []; end = lf } in
        closes_with before text room count (58 ∷ 10 ∷ 10 ∷ []) g lf (record { name = token; raw = All-nil _ })
        (good_push (map name_and_value before) (name_and_value g) good e f)
        (line_closed text [] lf text (58 ∷ 10 ∷ 10 ∷ []) refl) wide few none.colon

value_closed : (name r s : List ℕ) → (name ++ (58 ∷ r)) ++ s ≡ name ++ (58 ∷ (r ++ s))
value_closed name r s = simp (append_assoc, cons-append)

-- within a value
value_cut : (before : List Field) (f : Field) (r m : List ℕ) (room count : ℕ) → IsField f
    → IsGood (map name_and_value before ++ name_and_value f ∷ [])
    → f.raw ≡ r ++ m → 1 ≤ count → 3 ≤ room → NoneCloses before (f.name ++ (58 ∷ r)) room count → ⊥
value_cut before f r m room count field good e few wide none = by_test (is_size (name_and_value f)) refl
  where
    front : AllPass is_value_byte r
    front = All-front is_value_byte r m (subst (AllPass is_value_byte) e field.raw)

    as_it_is : (is_size (name_and_value f) ≡ true → IsLength (trim_ows r)) → ⊥
    as_it_is given =
        let g : Field = record { name = f.name; raw = r; end = lf } in
        closes_with before (f.name ++ (58 ∷ r)) room count (10 ∷ 10 ∷ []) g lf (record { name = field.name; raw = front })
        (good_change (map name_and_value before) f.name (field_value f) (field_value g) good given)
        (line_closed f.name r lf (f.name ++ (58 ∷ r)) (10 ∷ 10 ∷ []) (value_closed f.name r (10 ∷ 10 ∷ []))) (omega arith) few none.two_ends

    with_digit : IsLength (trim_ows (r ++ 48 ∷ [])) → ⊥
    with_digit k =
        let g : Field = record { name = f.name; raw = r ++ 48 ∷ []; end = lf } in
        closes_with before (f.name ++ (58 ∷ r)) room count (48 ∷ 10 ∷ 10 ∷ []) g lf
        (record {
          name = field.name;
          raw = All-append (λ v. is_value_byte v ≡ true) r (48 ∷ []) front
              (All-cons (λ v. is_value_byte v ≡ true) 48 [] refl (All-nil _));
        })
        (good_change (map name_and_value before) f.name (field_value f) (field_value g) good (λ _. k))
        (line_closed f.name (r ++ 48 ∷ []) lf (f.name ++ (58 ∷ r)) (48 ∷ 10 ∷ 10 ∷ [])
        (value_closed f.name r (48 ∷ 10 ∷ 10 ∷ []) ∙ ap (λ (t : List ℕ). f.name ++ (58 ∷ t))
        (sym (append_assoc r (48 ∷ []) (10 ∷ 10 ∷ []))))) wide few none.zero

    by_test : (t : Bool) → is_size (name_and_value f) ≡ t → ⊥
    by_test false other = as_it_is (λ is. absurd (cc))
    by_test true size =
        let k = given_length (map name_and_value before) (name_and_value f) good size in
        elim (length_front r m k.0 (subst (λ (t : List ℕ). length_in (trim_ows t) ≡ Some k.0) e k.1)) [
          | inl x ↦ as_it_is (λ _. x)
          | inr x ↦ with_digit x.0
        ]

-- within the line end of a field
line_end_cut : (before : List Field) (f : Field) (x m : List ℕ) (room count : ℕ) → IsField f
    → IsGood (map name_and_value before ++ name_and_value f ∷ [])
    → print_end f.end ≡ x ++ m → 0 < length m → 1 ≤ count → 2 ≤ room → NoneCloses before (f.name ++ (58 ∷ (f.raw ++ x))) room count → ⊥
line_end_cut before f x m room count field good e some few wide none =
    elim (ends_cut f.end x m e some) [
      | inl t ↦ closed lf (ap (λ (u : List ℕ). u ++ 10 ∷ 10 ∷ []) t)
      | inr t ↦ closed crlf (ap (λ (u : List ℕ). u ++ 10 ∷ 10 ∷ []) t.0)
    ]
  where
    closed : (end : LineEnd) → x ++ 10 ∷ 10 ∷ [] ≡ print_end end ++ 10 ∷ [] → ⊥
    closed end t =
        let g : Field = record { name = f.name; raw = f.raw; end = end } in
        closes_with before (f.name ++ (58 ∷ (f.raw ++ x))) room count (10 ∷ 10 ∷ []) g lf
        (record { name = field.name; raw = field.raw }) good
        (line_closed f.name f.raw end (f.name ++ (58 ∷ (f.raw ++ x))) (10 ∷ 10 ∷ [])
        (value_closed f.name (f.raw ++ x) (10 ∷ 10 ∷ []) ∙ ap (λ (u : List ℕ). f.name ++ (58 ∷ u))
        (append_assoc f.raw x (10 ∷ 10 ∷ []) ∙ ap (λ (u : List ℕ). f.raw ++ u) t))) wide few none.two_ends

-- a length has a value
value_there : (before : List Field) (f : Field) → IsGood (map name_and_value before ++ name_and_value f ∷ [])
    → (is_encoding (f.name, []) ≡ true) ⊎ (is_size (f.name, []) ≡ true) → 0 < length f.raw
value_there before f good (inl coded) = absurd (no_encoding (map name_and_value before) (name_and_value f) good coded)
value_there before f good (inr size) =
    let k = given_length (map name_and_value before) (name_and_value f) good size in
    by_raw f.raw refl k
  where
    by_raw : (raw : List ℕ) → f.raw ≡ raw → IsLength (trim_ows f.raw) → 0 < length f.raw
    by_raw [] is k = absurd (empty_length (subst (λ (v : List ℕ). IsLength (trim_ows v)) is k))
    by_raw (b ∷ raw) is k = subst (λ (v : List ℕ). 0 < length v) (sym is) (omega arith)

-- within a field line
field_cut : (before : List Field) (f : Field) (text m : List ℕ) (room count : ℕ) → IsField f
    → IsGood (map name_and_value before ++ name_and_value f ∷ [])
    → print_field f ≡ text ++ m → 0 < length m → 1 ≤ count → length m + 1 ≤ room → NoneCloses before text room count → ⊥
field_cut before f text m room count field good e some few wide none =
    elim (splits f.name (58 ∷ (f.raw ++ print_end f.end)) text m (sym e ∙ field_print f)) [
      | inl t ↦ past_name t.0 t.1 t.2
      | inr t ↦ in_name text t.0 refl t.1 t.2 t.3
    ]
  where
    before_good : IsGood (map name_and_value before)
    before_good = good_front (map name_and_value before) (name_and_value f ∷ []) good

    line_size : (u : List ℕ) → m ≡ u ++ (58 ∷ (f.raw ++ print_end f.end)) → length u + 2 + length f.raw ≤ length m
    line_size u is =
        let size : length m ≡ length (u ++ (58 ∷ (f.raw ++ print_end f.end))) = ap length is in
        omega (arith, length-append u (58 ∷ (f.raw ++ print_end f.end)), length-append f.raw (print_end f.end), end_size f.end)

    in_name : (x u : List ℕ) → text ≡ x → f.name ≡ text ++ u → 0 < length u → m ≡ u ++ (58 ∷ (f.raw ++ print_end f.end)) → ⊥
    in_name [] u is name more rest =
        closes_empty before text room count (10 ∷ []) lf before_good (ap (λ (v : List ℕ). v ++ 10 ∷ []) is) (omega arith) none.end
    in_name (b ∷ x) u is name more rest =
        let size = line_size u rest in
        let long : 0 < length text = subst (λ (v : List ℕ). 0 < length v) (sym is) (omega arith) in
        let token : IsToken text = (long, All-front is_token_byte text u (subst (AllPass is_token_byte) name field.name.1)) in
        name_cut before text room count before_good token few (omega arith) (λ _. omega arith) none

    past_name : (u : List ℕ) → text ≡ f.name ++ u → 58 ∷ (f.raw ++ print_end f.end) ≡ u ++ m → ⊥
    past_name [] is rest =
        let name : text ≡ f.name = is ∙ append-nil f.name in
        let size = line_size [] (sym rest) in
        let token : IsToken text = subst IsToken (sym name) field.name in
        let value : (is_encoding (text, []) ≡ true) ⊎ (is_size (text, []) ≡ true) → 4 ≤ room = λ named. let some =
        raw_there (subst (λ (v : List ℕ). (is_encoding (v, []) ≡ true) ⊎ (is_size (v, []) ≡ true)) name named) in omega arith in
        name_cut before text room count before_good token few (omega arith) value none
      where
        raw_there : (is_encoding (f.name, []) ≡ true) ⊎ (is_size (f.name, []) ≡ true) → 0 < length f.raw
        raw_there either = value_there before f good either
    past_name (b ∷ r) is rest =
        let colon : 58 ≡ b = cc in
        let later : f.raw ++ print_end f.end ≡ r ++ m = cc in
        let here : text ≡ f.name ++ (58 ∷ r) = is ∙ ap (λ (n : ℕ). f.name ++ (n ∷ r)) (sym colon) in
        let at : NoneCloses before (f.name ++ (58 ∷ r)) room count = subst (λ (v : List ℕ). NoneCloses before v room count) here none in
        elim (splits f.raw (print_end f.end) r m (sym later)) [
          | inl v ↦ line_end_cut before f v.0 m room count field good v.2 some few (omega arith)
              (subst (λ (w : List ℕ). NoneCloses before (f.name ++ (58 ∷ w)) room count) v.1 at)
          | inr v ↦ value_cut before f r v.0 room count field good v.1 few
              (let n = ap length v.3 in omega (arith, length-append v.0 (print_end f.end), end_size f.end)) at
        ]

-- within a section
pub section_cut : (before fs : List Field) (last : LineEnd) (text m : List ℕ) (room count : ℕ) → All IsField fs
    → IsGood (map name_and_value (before ++ fs))
    → print_section fs last ≡ text ++ m → 0 < length m → length m ≤ room → count ≡ length fs → NoneCloses before text room count → ⊥
section_cut before [] last text m room count all good e some wide size none =
    elim (ends_cut last text m e some) [
      | inl t ↦ closed lf (ap (λ (u : List ℕ). u ++ 10 ∷ []) t)
      | inr t ↦ closed crlf (ap (λ (u : List ℕ). u ++ 10 ∷ []) t.0)
    ]
  where
    closed : (end : LineEnd) → text ++ 10 ∷ [] ≡ print_end end → ⊥
    closed end t =
        closes_empty before text room count (10 ∷ []) end (subst (λ (fs : List Field). IsGood (map name_and_value fs))
        (append-nil before) good) t (omega arith) none.end
section_cut before (f ∷ fs) last text m room count all good e some wide size none =
    elim (splits (print_field f) (print_section fs last) text m (sym e ∙ section_cons f fs last)) [
      | inl t ↦
          let at : NoneCloses before (print_field f ++ t.0) room count = subst (λ (v : List ℕ). NoneCloses before v room count) t.1 none in
          section_cut (before ++ f ∷ []) fs last t.0 m room (length fs) later
          (subst (λ (gs : List Field). IsGood (map name_and_value gs)) (sym (append_assoc before (f ∷ []) fs)) good) t.2 some wide refl
          (record {
            end = refuses_next before f t.0 room (length fs) count (10 ∷ []) field one at.end;
            two_ends = refuses_next before f t.0 room (length fs) count (10 ∷ 10 ∷ []) field one at.two_ends;
            zero = refuses_next before f t.0 room (length fs) count (48 ∷ 10 ∷ 10 ∷ []) field one at.zero;
            colon = refuses_next before f t.0 room (length fs) count (58 ∷ 10 ∷ 10 ∷ []) field one at.colon;
            letter = refuses_next before f t.0 room (length fs) count (120 ∷ 58 ∷ 10 ∷ 10 ∷ []) field one at.letter;
          })
      | inr t ↦
          let n = ap length t.3 in
          field_cut before f text t.0 room count field first_good t.1 t.2 (omega arith)
          (omega (arith, length-append t.0 (print_section fs last), section_size fs last)) none
    ]
  where
    field : IsField f
    field = All-head IsField f fs all

    later : All IsField fs
    later = All-tail IsField f fs all

    one : count ≡ length fs + 1
    one = omega arith

    first_good : IsGood (map name_and_value before ++ name_and_value f ∷ [])
    first_good =
        subst IsGood (map_append before (f ∷ [])) (good_front (map name_and_value (before ++ f ∷ [])) (map name_and_value fs)
        (subst IsGood (map_append (before ++ f ∷ []) fs) (subst (λ (gs : List Field). IsGood (map name_and_value gs))
        (sym (append_assoc before (f ∷ []) fs)) good)))
