-- Where any bytes make a head of those that are there, one of a few short texts does.
use Rattle.std.proofs.Common.{◌≡◌, true, ℕ, zero, suc, ◌+◌, ◌<◌, ◌≤◌, ◌⊎◌, inl, inr, List, [], ◌∷◌, ◌++◌, length, length-append, take, map, refl, sym, ap, ◌∙◌, subst, arith, append-nil, append_assoc, codes}
use Rattle.std.proofs.lemmas.List.{take_at}
use Rattle.std.proofs.lemmas.Grind.{flat_map-append}
use Rattle.std.proofs.lemmas.Str.{IsUtf8-from_ascii}
use Rattle.std.proofs.lemmas.Str.Ascii.{IsAscii-cons, IsAscii-nil}
use Rattle.std.proofs.lemmas.List.Elements.{All-cons, All-nil}
use Rattle.httparse.specs.Grammar.{LineEnd, crlf, lf, print_end, print_blank, print_version, IsField, IsToken, AllPass, is_token_byte, is_uri_byte, print_section, RequestHead, IsRequestHead, print_request, HasNoRequest, EndsInTarget}
use Rattle.httparse.specs.Spans.{name_and_value}
use Rattle.httparse.proofs.GrammarLemmas.{cons-append}
use Rattle.sp_rest.specs.Wire.Heads.{NeverHead}
use Rattle.sp_rest.specs.Wire.Completions.{IsUnserved, NoFieldsEnd, NoVersionEnd, NoTarget}
use Rattle.sp_rest.proofs.Splits.{splits}
use Rattle.sp_rest.proofs.Fields.{IsGood}
use Rattle.sp_rest.proofs.Sections.{Refuses, section_cut, section_size, ends_cut, end_size, All-front}

-- the bytes of a line, and what follows it
abbrev pub line : List LineEnd → List ℕ → List ℕ → ℕ → LineEnd → List ℕ → List ℕ
line blank method target minor end rest =
    print_blank blank ++ (method ++ (32 ∷ (target ++ (32 ∷ (print_version minor ++ (print_end end ++ rest))))))

printed : (h : RequestHead) → print_request h ≡ line h.blank h.method h.target h.minor h.line_end (print_section h.fields h.last)
unfolding print_request
printed h = regroup (print_blank h.blank) h.method h.target (print_version h.minor) (print_end h.line_end) (print_section h.fields h.last)
  where
    regroup : (a b c d e f : List ℕ) → (a ++ b ++ 32 ∷ c ++ 32 ∷ d ++ e ++ f) ≡ a ++ (b ++ (32 ∷ (c ++ (32 ∷ (d ++ (e ++ f))))))
    regroup a b c d e f = simp (append_assoc, cons-append)

-- these bytes make the front a head after all
serves : (bytes s : List ℕ) (h : RequestHead) → IsRequestHead h
    → bytes ++ s ≡ line h.blank h.method h.target h.minor h.line_end (print_section h.fields h.last)
    → length bytes + length s ≤ 8192 → length h.fields ≤ 64 → IsGood (map name_and_value h.fields) → IsUnserved bytes s → ⊥
serves bytes s h is e fits few good none =
    let whole : bytes ++ s ≡ print_request h = e ∙ sym (printed h) in
    let size : length (print_request h) ≡ length (bytes ++ s) = ap length (sym whole) in
    none (
      h,
      good.0,
      [],
      record {
        reads = (is, whole ∙ sym (append-nil (print_request h)));
        short = omega (arith, length-append bytes s);
        few = few;
        body = good.1;
      },
    )

empty_good : IsGood []
empty_good = (0, refl)

letter_is_token : is_token_byte 65 ≡ true
unfolding is_token_byte
letter_is_token = refl

slash : (blank : List LineEnd) (method : List ℕ) → IsToken method
    → IsRequestHead (record { blank = blank; method = method; target = 47 ∷ []; minor = 1; line_end = lf; fields = []; last = lf })
slash blank method token = record {
  method = token;
  target = (omega arith, All-cons (λ v. is_uri_byte v ≡ true) 47 [] refl (All-nil _));
  target_text = IsUtf8-from_ascii _ (IsAscii-cons 47 [] (omega arith) IsAscii-nil);
  minor = omega arith;
  fields = All-nil IsField;
}

short_method : IsToken (65 ∷ [])
short_method = (omega arith, All-cons (λ v. is_token_byte v ≡ true) 65 [] letter_is_token (All-nil _))

-- within the empty lines
blank_cut : (blank : List LineEnd) (x m : List ℕ) → print_blank blank ≡ x ++ m → 0 < length m
    → (es : List LineEnd) × ((x ≡ print_blank es) ⊎ (x ≡ print_blank es ++ 13 ∷ []))
blank_cut [] [] m e some = let n = ap length e in absurd (omega arith)
blank_cut [] (b ∷ x) m e some = let n = ap length e in absurd (omega arith)
blank_cut (end ∷ blank) x m e some =
    elim (splits (print_end end) (print_blank blank) x m (sym e)) [
      | inl t ↦ later t.0 t.1 (blank_cut blank t.0 m t.2 some)
      | inr t ↦ elim (ends_cut end x t.0 t.1 t.2) [
        | inl u ↦ ([], inl u)
        | inr u ↦ ([], inr u.0)
      ]
    ]
  where
    later : (y : List ℕ) → x ≡ print_end end ++ y → (es : List LineEnd) × ((y ≡ print_blank es) ⊎ (y ≡ print_blank es ++ 13 ∷ []))
        → (es : List LineEnd) × ((x ≡ print_blank es) ⊎ (x ≡ print_blank es ++ 13 ∷ []))
    later y is (es, inl u) = (end ∷ es, inl (is ∙ ap (λ (v : List ℕ). print_end end ++ v) u))
    later y is (es, inr u) =
        (end ∷ es, inr (is ∙ ap (λ (v : List ℕ). print_end end ++ v) u ∙ sym (append_assoc (print_end end) (print_blank es) (13 ∷ []))))

-- before the method
before_method : (bytes : List ℕ) (es : List LineEnd) → bytes ≡ print_blank es → length bytes + 14 ≤ 8192 → NoTarget bytes → ⊥
before_method bytes es is fits none =
    serves bytes (codes "A / HTTP/1.1\n\n") (record {
      blank = es;
      method = 65 ∷ [];
      target = 47 ∷ [];
      minor = 1;
      line_end = lf;
      fields = [];
      last = lf;
    })
    (slash es (65 ∷ []) short_method) (ap (λ (v : List ℕ). v ++ codes "A / HTTP/1.1\n\n") is) fits (omega arith) empty_good none.before

in_line_end : (bytes : List ℕ) (es : List LineEnd) → bytes ≡ print_blank es ++ 13 ∷ [] → length bytes + 15 ≤ 8192 → NoTarget bytes → ⊥
in_line_end bytes es is fits none =
    serves bytes (codes "\nA / HTTP/1.1\n\n") (record {
      blank = es ++ crlf ∷ [];
      method = 65 ∷ [];
      target = 47 ∷ [];
      minor = 1;
      line_end = lf;
      fields = [];
      last = lf;
    })
    (slash (es ++ crlf ∷ []) (65 ∷ []) short_method)
    (ap (λ (v : List ℕ). v ++ codes "\nA / HTTP/1.1\n\n") is ∙ append_assoc (print_blank es) (13 ∷ []) (codes "\nA / HTTP/1.1\n\n")
    ∙ sym (ap (λ (v : List ℕ). v ++ codes "A / HTTP/1.1\n\n") (flat_map-append print_end es (crlf ∷ []))
    ∙ append_assoc (print_blank es) (13 ∷ 10 ∷ []) (codes "A / HTTP/1.1\n\n")))
    fits (omega arith) empty_good none.in_line_end

in_method : (bytes : List ℕ) (blank : List LineEnd) (method : List ℕ) → bytes ≡ print_blank blank ++ method → IsToken method
    → length bytes + 13 ≤ 8192 → NoTarget bytes → ⊥
in_method bytes blank method is token fits none =
    serves bytes (codes " / HTTP/1.1\n\n") (record {
      blank = blank;
      method = method;
      target = 47 ∷ [];
      minor = 1;
      line_end = lf;
      fields = [];
      last = lf;
    })
    (slash blank method token) (ap (λ (v : List ℕ). v ++ codes " / HTTP/1.1\n\n") is ∙ append_assoc
    (print_blank blank) method (codes " / HTTP/1.1\n\n"))
    fits (omega arith) empty_good none.in_method

-- the same head with another end of its line and no fields
bare : (h : RequestHead) (minor : ℕ) (end : LineEnd) → IsRequestHead h → minor ≤ 1
    → IsRequestHead (record {
      blank = h.blank;
      method = h.method;
      target = h.target;
      minor = minor;
      line_end = end;
      fields = [];
      last = lf;
    })
bare h minor end is small =
    record { method = is.method; target = is.target; target_text = is.target_text; minor = small; fields = All-nil IsField }

regroup_4 : (a b c z s : List ℕ) → (a ++ (b ++ (32 ∷ (c ++ (32 ∷ z))))) ++ s ≡ a ++ (b ++ (32 ∷ (c ++ (32 ∷ (z ++ s)))))
regroup_4 a b c z s = simp (append_assoc, cons-append)

-- within the version, or behind it
in_version : (bytes : List ℕ) (h : RequestHead) (minor : ℕ) (end : LineEnd) (z s : List ℕ) → IsRequestHead h → minor ≤ 1
    → bytes ≡ print_blank h.blank ++ (h.method ++ (32 ∷ (h.target ++ (32 ∷ z))))
    → z ++ s ≡ print_version minor ++ (print_end end ++ 10 ∷ [])
    → length bytes + length s ≤ 8192 → IsUnserved bytes s → ⊥
in_version bytes h minor end z s is small e whole fits none =
    serves bytes s (record { blank = h.blank; method = h.method; target = h.target; minor = minor; line_end = end; fields = []; last = lf })
    (bare h minor end is small)
    (ap (λ (v : List ℕ). v ++ s) e ∙ regroup_4 (print_blank h.blank) h.method h.target z s
    ∙ ap (λ (v : List ℕ). print_blank h.blank ++ (h.method ++ (32 ∷ (h.target ++ (32 ∷ v))))) whole)
    fits (omega arith) empty_good none

-- the version's front, by its length
version_cut : (bytes : List ℕ) (h : RequestHead) (z w : List ℕ) → IsRequestHead h
    → bytes ≡ print_blank h.blank ++ (h.method ++ (32 ∷ (h.target ++ (32 ∷ z))))
    → print_version h.minor ≡ z ++ w → 0 < length w → length bytes + length w + 2 ≤ 8192 → NoVersionEnd bytes → ⊥
version_cut bytes h z w is e cut some fits none = by_length (length z) refl
  where
    size : length z + length w ≡ 8
    size = let n : length (print_version h.minor) ≡ length (z ++ w) = ap length cut in omega (arith, length-append z w)

    front : (k : ℕ) → length z ≡ k → z ≡ take k (print_version h.minor)
    front k is_k = sym (take_at z w k is_k) ∙ sym (ap (take k) cut)

    one : (k : ℕ) (s : List ℕ) → length z ≡ k → length s + k ≡ 10
        → take k (print_version h.minor) ++ s ≡ codes "HTTP/1.1\n\n" → IsUnserved bytes s → ⊥
    one k s is_k long whole unserved =
        in_version bytes h 1 lf z s is (omega arith) e (ap (λ (v : List ℕ). v ++ s) (front k is_k) ∙ whole)
        (let n = size in omega arith) unserved

    by_length : (k : ℕ) → length z ≡ k → ⊥
    by_length zero is_k = one 0 (codes "HTTP/1.1\n\n") is_k refl refl none.from_0
    by_length (suc zero) is_k = one 1 (codes "TTP/1.1\n\n") is_k refl refl none.from_1
    by_length (suc (suc zero)) is_k = one 2 (codes "TP/1.1\n\n") is_k refl refl none.from_2
    by_length (suc (suc (suc zero))) is_k = one 3 (codes "P/1.1\n\n") is_k refl refl none.from_3
    by_length (suc (suc (suc (suc zero)))) is_k = one 4 (codes "/1.1\n\n") is_k refl refl none.from_4
    by_length (suc (suc (suc (suc (suc zero))))) is_k = one 5 (codes "1.1\n\n") is_k refl refl none.from_5
    by_length (suc (suc (suc (suc (suc (suc zero)))))) is_k = one 6 (codes ".1\n\n") is_k refl refl none.from_6
    by_length (suc (suc (suc (suc (suc (suc (suc zero))))))) is_k = one 7 (codes "1\n\n") is_k refl refl none.from_7
    by_length (suc (suc (suc (suc (suc (suc (suc (suc k)))))))) is_k = let n = size in omega arith

-- what follows a part of the head
abbrev pub after_version : RequestHead → List ℕ
after_version h = print_end h.line_end ++ print_section h.fields h.last

abbrev pub after_target : RequestHead → List ℕ
after_target h = print_version h.minor ++ after_version h

abbrev pub after_method : RequestHead → List ℕ
after_method h = h.target ++ (32 ∷ after_target h)

abbrev pub after_blank : RequestHead → List ℕ
after_blank h = h.method ++ (32 ∷ after_method h)

version_size : (h : RequestHead) → 2 ≤ length (after_version h)
version_size h =
    omega (arith, length-append (print_end h.line_end) (print_section h.fields h.last), end_size h.line_end, section_size h.fields h.last)

method_size : (h : RequestHead) → IsRequestHead h → 12 ≤ length (after_method h)
method_size h is =
    let some = is.target.0 in
    omega (arith, length-append h.target (32 ∷ after_target h), length-append (print_version h.minor) (after_version h), version_size h)

blank_size : (h : RequestHead) → IsRequestHead h → 14 ≤ length (after_blank h)
blank_size h is =
    let some = is.method.0 in
    omega (arith, length-append h.method (32 ∷ after_method h), method_size h is)

-- a head is no less than this
pub print_size : (h : RequestHead) → IsRequestHead h → 14 ≤ length (print_request h)
print_size h is = let size = ap length (printed h) in omega (arith, length-append (print_blank h.blank) (after_blank h), blank_size h is)

-- a head that would come, its front being there
pub record Coming (bytes : List ℕ) (h : RequestHead) (m : List ℕ) : Type 0 where
  pub is : IsRequestHead h
  pub some : 0 < length m
  pub fits : length bytes + length m ≤ 8192
  pub few : length h.fields ≤ 64
  pub good : IsGood (map name_and_value h.fields)

-- behind the request line
in_fields : (bytes : List ℕ) (h : RequestHead) (m q : List ℕ) → Coming bytes h m
    → bytes ≡ print_blank h.blank ++ (h.method ++ (32 ∷ (h.target ++ (32 ∷ (print_version h.minor ++ (print_end h.line_end ++ q))))))
    → print_section h.fields h.last ≡ q ++ m → NoFieldsEnd bytes → ⊥
in_fields bytes h m q come e cut none =
    section_cut [] h.fields h.last q m (length m) (length h.fields) come.is.fields come.good cut come.some (omega arith) refl
    (record {
      end = refuse (codes "\n") none.end;
      two_ends = refuse (codes "\n\n") none.two_ends;
      zero = refuse (codes "0\n\n") none.zero;
      colon = refuse (codes ":\n\n") none.colon;
      letter = refuse (codes "x:\n\n") none.letter;
    })
  where
    regroup : (a b c d f q s : List ℕ) → (a ++ (b ++ (32 ∷ (c ++ (32 ∷ (d ++ (f ++ q))))))) ++ s
        ≡ a ++ (b ++ (32 ∷ (c ++ (32 ∷ (d ++ (f ++ (q ++ s)))))))
    regroup a b c d f q s = simp append_assoc

    refuse : (s : List ℕ) → IsUnserved bytes s → Refuses [] q (length m) (length h.fields) s
    refuse s unserved gs last all good same short fewer =
        serves bytes s (record {
          blank = h.blank;
          method = h.method;
          target = h.target;
          minor = h.minor;
          line_end = h.line_end;
          fields = gs;
          last = last;
        })
        (record {
          method = come.is.method;
          target = come.is.target;
          target_text = come.is.target_text;
          minor = come.is.minor;
          fields = all;
        })
        (ap (λ (v : List ℕ). v ++ s) e ∙ regroup (print_blank h.blank) h.method h.target (print_version h.minor) (print_end h.line_end) q s
        ∙ ap (λ (v : List ℕ). line h.blank h.method h.target h.minor h.line_end v) same)
        (let fits = come.fits in omega arith) (let few = come.few in omega arith) good unserved

-- behind the version
past_version : (bytes : List ℕ) (h : RequestHead) (m y : List ℕ) → Coming bytes h m
    → bytes ≡ print_blank h.blank ++ (h.method ++ (32 ∷ (h.target ++ (32 ∷ (print_version h.minor ++ y)))))
    → after_version h ≡ y ++ m → NoFieldsEnd bytes → ⊥
past_version bytes h m y come e cut none =
    elim (splits (print_end h.line_end) (print_section h.fields h.last) y m (sym cut)) [
      | inl t ↦ in_fields bytes h m t.0 come (e ∙ ap (λ (v : List ℕ). print_blank h.blank
          ++ (h.method ++ (32 ∷ (h.target ++ (32 ∷ (print_version h.minor ++ v)))))) t.1) t.2 none
      | inr t ↦
          let size = ap length t.3 in
          let two : length bytes + 2 ≤ 8192 = let fits = come.fits in
          omega (arith, length-append t.0 (print_section h.fields h.last), section_size h.fields h.last) in
          elim (ends_cut h.line_end y t.0 t.1 t.2) [
            | inl u ↦ closed lf (ap (λ (v : List ℕ). v ++ 10 ∷ 10 ∷ []) u) two
            | inr u ↦ closed crlf (ap (λ (v : List ℕ). v ++ 10 ∷ 10 ∷ []) u.0) two
          ]
    ]
  where
    closed : (end : LineEnd) → y ++ 10 ∷ 10 ∷ [] ≡ print_end end ++ 10 ∷ [] → length bytes + 2 ≤ 8192 → ⊥
    closed end t two =
        in_version bytes h h.minor end (print_version h.minor ++ y) (10 ∷ 10 ∷ []) come.is come.is.minor e
        (append_assoc (print_version h.minor) y (10 ∷ 10 ∷ []) ∙ ap (λ (v : List ℕ). print_version h.minor ++ v) t) two none.two_ends

-- behind the target
past_target : (bytes : List ℕ) (h : RequestHead) (m z : List ℕ) → Coming bytes h m
    → bytes ≡ print_blank h.blank ++ (h.method ++ (32 ∷ (h.target ++ (32 ∷ z))))
    → after_target h ≡ z ++ m → NoFieldsEnd bytes → NoVersionEnd bytes → ⊥
past_target bytes h m z come e cut none no_version =
    elim (splits (print_version h.minor) (after_version h) z m (sym cut)) [
      | inl t ↦ past_version bytes h m t.0 come (e ∙ ap (λ (v : List ℕ). print_blank h.blank
          ++ (h.method ++ (32 ∷ (h.target ++ (32 ∷ v))))) t.1) t.2 none
      | inr t ↦
          let size = ap length t.3 in
          version_cut bytes h z t.0 come.is e t.1 t.2 (let fits = come.fits in omega (
            arith,
            length-append t.0
                (after_version h),
            version_size h,
          )) no_version
    ]

-- behind the method and its space
past_method : (bytes : List ℕ) (h : RequestHead) (m y : List ℕ) → Coming bytes h m
    → bytes ≡ print_blank h.blank ++ (h.method ++ (32 ∷ y)) → after_method h ≡ y ++ m
    → (EndsInTarget bytes → ⊥) → NoFieldsEnd bytes → NoVersionEnd bytes → ⊥
past_method bytes h m y come e cut outside none no_version =
    elim (splits h.target (32 ∷ after_target h) y m (sym cut)) [
      | inl t ↦ whole t.0 t.1 t.2
      | inr t ↦ outside (
        h.blank,
        h.method,
        y,
        come.is.method,
        All-front is_uri_byte y t.0
            (subst (AllPass is_uri_byte) t.1 come.is.target.1),
        ends y e,
      )
    ]
  where
    ends : (v : List ℕ) → bytes ≡ print_blank h.blank ++ (h.method ++ (32 ∷ v)) → bytes ≡ print_blank h.blank ++ h.method ++ 32 ∷ v
    ends v is = is ∙ sym (append_assoc (print_blank h.blank) h.method (32 ∷ v))

    whole : (z : List ℕ) → y ≡ h.target ++ z → 32 ∷ after_target h ≡ z ++ m → ⊥
    whole [] is rest =
        outside (
          h.blank,
          h.method,
          h.target,
          come.is.method,
          come.is.target.1,
          ends h.target
              (e ∙ ap (λ (v : List ℕ). print_blank h.blank ++ (h.method ++ (32 ∷ v))) (is ∙ append-nil h.target)),
        )
    whole (b ∷ z) is rest =
        let space : 32 ≡ b = cc in
        let later : after_target h ≡ z ++ m = cc in
        past_target bytes h m z come (e ∙ ap (λ (v : List ℕ). print_blank h.blank ++ (h.method ++ (32 ∷ v)))
        (is ∙ ap (λ (n : ℕ). h.target ++ (n ∷ z)) (sym space))) later none no_version

-- behind the empty lines
past_blank : (bytes : List ℕ) (h : RequestHead) (m x : List ℕ) → Coming bytes h m
    → bytes ≡ print_blank h.blank ++ x → after_blank h ≡ x ++ m
    → (EndsInTarget bytes → ⊥) → NoFieldsEnd bytes → NoVersionEnd bytes → NoTarget bytes → ⊥
past_blank bytes h m x come e cut outside none no_version no_target =
    elim (splits h.method (32 ∷ after_method h) x m (sym cut)) [
      | inl t ↦ whole t.0 t.1 t.2
      | inr t ↦ part x refl t.0 t.1 t.2 t.3
    ]
  where
    part : (y : List ℕ) → x ≡ y → (u : List ℕ) → h.method ≡ x ++ u → 0 < length u → m ≡ u ++ (32 ∷ after_method h) → ⊥
    part [] is u method more rest =
        let size = ap length rest in
        before_method bytes h.blank (e ∙ ap (λ (v : List ℕ). print_blank h.blank ++ v) is ∙ append-nil (print_blank h.blank))
        (let fits = come.fits in omega (arith, length-append u (32 ∷ after_method h), method_size h come.is)) no_target
    part (b ∷ y) is u method more rest =
        let size = ap length rest in
        let long : 0 < length x = subst (λ (v : List ℕ). 0 < length v) (sym is) (omega arith) in
        in_method bytes h.blank x e (long, All-front is_token_byte x u (subst (AllPass is_token_byte) method come.is.method.1))
        (let fits = come.fits in omega (arith, length-append u (32 ∷ after_method h), method_size h come.is)) no_target

    whole : (y : List ℕ) → x ≡ h.method ++ y → 32 ∷ after_method h ≡ y ++ m → ⊥
    whole [] is rest =
        let size = ap length rest in
        in_method bytes h.blank h.method (e ∙ ap (λ (v : List ℕ). print_blank h.blank ++ v) (is ∙ append-nil h.method)) come.is.method
        (let fits = come.fits in omega (arith, method_size h come.is)) no_target
    whole (b ∷ y) is rest =
        let space : 32 ≡ b = cc in
        let later : after_method h ≡ y ++ m = cc in
        past_method bytes h m y come (e ∙ ap (λ (v : List ℕ). print_blank h.blank ++ v)
        (is ∙ ap (λ (n : ℕ). h.method ++ (n ∷ y)) (sym space))) later outside none no_version

-- where none of the texts serves, nothing does
pub never_by : (bytes : List ℕ) → HasNoRequest bytes → (EndsInTarget bytes → ⊥) → NoFieldsEnd bytes → NoVersionEnd bytes
    → NoTarget bytes → NeverHead bytes
never_by bytes no_head outside none no_version no_target more h len rest head =
    elim (splits (print_request h) rest bytes more head.reads.1) [
      | inl t ↦ no_head h t.0 (head.reads.0, t.1)
      | inr t ↦ from_front t.0 t.1 t.2
    ]
  where
    in_blank : (u : List ℕ) → {m : List ℕ} → Coming bytes h m
        → (es : List LineEnd) × ((bytes ≡ print_blank es) ⊎ (bytes ≡ print_blank es ++ 13 ∷ [])) → 0 < length u
        → length m ≡ length (u ++ after_blank h) → ⊥
    in_blank u come (es, inl t) some size =
        before_method bytes es t (let fits = come.fits in omega (arith, length-append u (after_blank h), blank_size h come.is)) no_target
    in_blank u come (es, inr t) some size =
        in_line_end bytes es t (let fits = come.fits in omega (arith, length-append u (after_blank h), blank_size h come.is)) no_target

    from_front : (m : List ℕ) → print_request h ≡ bytes ++ m → 0 < length m → ⊥
    from_front m e some =
        let size : length (print_request h) ≡ length (bytes ++ m) = ap length e in
        let short = head.short in
        let come : Coming bytes h m = record {
          is = head.reads.0;
          some = some;
          fits = omega (arith, length-append bytes m);
          few = head.few;
          good = (len, head.body);
        } in
        elim (splits (print_blank h.blank) (after_blank h) bytes m (sym e ∙ printed h)) [
          | inl t ↦ past_blank bytes h m t.0 come t.1 t.2 outside none no_version no_target
          | inr t ↦ in_blank t.0 come (blank_cut h.blank bytes t.0 t.1 t.2) t.2 (ap length t.3)
        ]
