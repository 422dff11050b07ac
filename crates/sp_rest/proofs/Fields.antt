-- Which fields leave the body's length open.
use Rattle.std.proofs.Common.{◌≡◌, ℕ, ◌⊎◌, inl, inr, Bool, true, false, ◌||◌, List, [], ◌∷◌, ◌++◌, length, length-append, map, refl, sym, ap, ◌∙◌, arith, rules, Some, None, append-nil, codes}
use Rattle.std.specs.List.{filter, list_any}
use Rattle.std.proofs.lemmas.Bool.{cond-true, cond-false}
use Rattle.std.proofs.lemmas.List.{length-map}
use Rattle.std.proofs.lemmas.List.Elements.{filter-append}
use Rattle.std.proofs.lemmas.List.Folds.{list_any-append}
use Rattle.std.specs.Char.{to_ascii_lowercase}
use Rattle.std.proofs.lemmas.Slice.Eq.{bytes_eq-Decides}
use Rattle.sp_rest.specs.Wire.Request.{is_named, length_in, length_by, body_length}
use Rattle.sp_rest.proofs.Trims.{IsLength}

abbrev pub Pair : Type 0
Pair = List ℕ × List ℕ

abbrev pub is_encoding : Pair → Bool
is_encoding = is_named (codes "transfer-encoding")

abbrev pub is_size : Pair → Bool
is_size = is_named (codes "content-length")

-- the fields give a length of the body
abbrev pub IsGood : List Pair → Type 0
IsGood pairs = (k : ℕ) × (body_length pairs ≡ Some k)

-- no encoding, and a length
pub record Parts (pairs : List Pair) : Type 0 where
  pub plain : list_any is_encoding pairs ≡ false
  pub size : ℕ
  pub sized : length_by (filter is_size pairs) ≡ Some size

none_some : {n : ℕ} → None ≡ Some n → ⊥
none_some x = search rules

pub good_parts : (pairs : List Pair) → IsGood pairs → Parts pairs
good_parts pairs good = by_test (list_any is_encoding pairs) refl
  where
    by_test : (t : Bool) → list_any is_encoding pairs ≡ t → Parts pairs
    by_test true coded = absurd (none_some (sym (cond-true _ _ _ coded) ∙ good.1))
    by_test false plain = record { plain = plain; size = good.0; sized = sym (cond-false _ _ _ plain) ∙ good.1 }

pub good_from : (pairs : List Pair) → Parts pairs → IsGood pairs
good_from pairs parts = (parts.size, cond-false _ _ _ parts.plain ∙ parts.sized)

by_front : (xs ys : List Pair) (n : ℕ) → length_by (xs ++ ys) ≡ Some n → (k : ℕ) × (length_by xs ≡ Some k)
by_front [] ys n e = (0, refl)
by_front (x ∷ []) [] n e = (n, e)
by_front (x ∷ []) (y ∷ ys) n e = absurd (none_some e)
by_front (x ∷ y ∷ xs) ys n e = absurd (none_some e)

or_none : (a b : Bool) → (a || b) ≡ false → (a ≡ false) × (b ≡ false)
or_none true b e = absurd (cc)
or_none false b e = (refl, e)

pub good_front : (ps qs : List Pair) → IsGood (ps ++ qs) → IsGood ps
good_front ps qs good =
    let parts = good_parts (ps ++ qs) good in
    let none = or_none _ _ (sym (list_any-append is_encoding ps qs) ∙ parts.plain) in
    let sized = by_front (filter is_size ps) (filter is_size qs) parts.size
    (sym (ap length_by (filter-append is_size ps qs)) ∙ parts.sized) in
    good_from ps (record { plain = none.0; size = sized.0; sized = sized.1 })

-- a field with another name changes nothing
pub good_push : (ps : List Pair) (p : Pair) → IsGood ps → is_encoding p ≡ false → is_size p ≡ false → IsGood (ps ++ p ∷ [])
good_push ps p good no_encoding no_size =
    let parts = good_parts ps good in
    let one : filter is_size (p ∷ []) ≡ [] = cond-false _ _ _ no_size in
    let same : filter is_size (ps ++ p ∷ []) ≡ filter is_size ps = filter-append is_size ps (p ∷ [])
    ∙ ap (λ (ys : List Pair). filter is_size ps ++ ys) one ∙ append-nil (filter is_size ps) in
    good_from (ps ++ p ∷ []) (record {
      plain = list_any-append is_encoding ps (p ∷ []) ∙ rw (parts.plain, no_encoding) refl;
      size = parts.size;
      sized = ap length_by same ∙ parts.sized;
    })

by_last : (xs : List Pair) (p q : Pair) (n k : ℕ) → length_by (xs ++ p ∷ []) ≡ Some n → length_in q.1 ≡ Some k
    → length_by (xs ++ q ∷ []) ≡ Some k
by_last [] p q n k e f = f
by_last (x ∷ []) p q n k e f = absurd (none_some e)
by_last (x ∷ y ∷ xs) p q n k e f = absurd (none_some e)

last_length : (xs : List Pair) (p : Pair) (n : ℕ) → length_by (xs ++ p ∷ []) ≡ Some n → length_in p.1 ≡ Some n
last_length [] p n e = e
last_length (x ∷ []) p n e = absurd (none_some e)
last_length (x ∷ y ∷ xs) p n e = absurd (none_some e)

-- the last field's value, where it is the length
pub given_length : (ps : List Pair) (p : Pair) → IsGood (ps ++ p ∷ []) → is_size p ≡ true → IsLength p.1
given_length ps p good size =
    let parts = good_parts (ps ++ p ∷ []) good in
    let one : filter is_size (p ∷ []) ≡ p ∷ [] = cond-true _ _ _ size in
    let sized = sym (ap length_by (filter-append is_size ps (p ∷ []) ∙ ap (λ (ys : List Pair). filter is_size ps
    ++ ys) one)) ∙ parts.sized in
    (parts.size, last_length (filter is_size ps) p parts.size sized)

-- another value of the last field
pub good_change : (ps : List Pair) (name v w : List ℕ) → IsGood (ps ++ (name, v) ∷ []) → (is_size (name, v) ≡ true → IsLength w)
    → IsGood (ps ++ (name, w) ∷ [])
good_change ps name v w good given = by_test (is_size (name, v)) refl
  where
    before : IsGood ps
    before = good_front ps ((name, v) ∷ []) good

    none : (list_any is_encoding ps ≡ false) × ((is_encoding (name, v) || false) ≡ false)
    none =
        or_none (list_any is_encoding ps) (is_encoding (name, v) || false)
        (sym (list_any-append is_encoding ps ((name, v) ∷ [])) ∙ (good_parts (ps ++ (name, v) ∷ []) good).plain)

    plain : list_any is_encoding (ps ++ (name, w) ∷ []) ≡ false
    plain = list_any-append is_encoding ps ((name, w) ∷ []) ∙ rw (none.0, none.1) refl

    by_test : (t : Bool) → is_size (name, v) ≡ t → IsGood (ps ++ (name, w) ∷ [])
    by_test true size =
        let k = given size in
        let parts = good_parts (ps ++ (name, v) ∷ []) good in
        let old : filter is_size ((name, v) ∷ []) ≡ (name, v) ∷ [] = cond-true (is_size (name, v)) _ _ size in
        let new_one : filter is_size ((name, w) ∷ []) ≡ (name, w) ∷ [] = cond-true (is_size (name, v)) _ _ size in
        let sized = sym (ap length_by (filter-append is_size ps ((name, v) ∷ []) ∙ ap
        (λ (ys : List Pair). filter is_size ps ++ ys) old)) ∙ parts.sized in
        good_from (ps ++ (name, w) ∷ []) (record {
          plain = plain;
          size = k.0;
          sized = ap length_by (filter-append is_size ps ((name, w) ∷ []) ∙ ap (λ (ys : List Pair). filter is_size ps ++ ys) new_one)
              ∙ by_last (filter is_size ps) (name, v) (name, w) parts.size k.0 sized k.1;
        })
    by_test false other =
        let parts = good_parts ps before in
        let one : filter is_size ((name, w) ∷ []) ≡ [] = cond-false _ _ _ other in
        good_from (ps ++ (name, w) ∷ []) (record {
          plain = plain;
          size = parts.size;
          sized = ap length_by (filter-append is_size ps ((name, w) ∷ []) ∙ ap (λ (ys : List Pair). filter is_size ps ++ ys) one
              ∙ append-nil (filter is_size ps)) ∙ parts.sized;
        })

-- a name is as long as the one that it is
pub named_length : (name t v : List ℕ) → is_named name (t, v) ≡ true → length t ≡ length name
named_length name t v is =
    let same : map to_ascii_lowercase t ≡ map to_ascii_lowercase name =
    (bytes_eq-Decides (map to_ascii_lowercase t) (map to_ascii_lowercase name)).0 is in
    sym (length-map t to_ascii_lowercase) ∙ ap length same ∙ length-map name to_ascii_lowercase

other_length : (name t v : List ℕ) (b : Bool) → is_named name (t, v) ≡ b → (length t ≡ length name → ⊥) → is_named name (t, v) ≡ false
other_length name t v true is differs = absurd (differs (named_length name t v is))
other_length name t v false is differs = is

-- with a letter more a name is neither of the two
pub other_name : (t v w : List ℕ) → (is_encoding (t, v) ≡ true) ⊎ (is_size (t, v) ≡ true)
    → (is_encoding (t ++ 120 ∷ [], w) ≡ false) × (is_size (t ++ 120 ∷ [], w) ≡ false)
other_name t v w (inl e) =
    let size : length t ≡ 17 = named_length (codes "transfer-encoding") t v e in
    let more = length-append t (120 ∷ []) in (
      other_length (codes "transfer-encoding") (t ++ 120 ∷ []) w _ refl
          (λ x. let y : length (t ++ 120 ∷ []) ≡ 17 = x in omega arith),
      other_length (codes "content-length") (t ++ 120 ∷ []) w _ refl
          (λ x. let y : length (t ++ 120 ∷ []) ≡ 14 = x in omega arith),
    )
other_name t v w (inr e) =
    let size : length t ≡ 14 = named_length (codes "content-length") t v e in
    let more = length-append t (120 ∷ []) in (
      other_length (codes "transfer-encoding") (t ++ 120 ∷ []) w _ refl
          (λ x. let y : length (t ++ 120 ∷ []) ≡ 17 = x in omega arith),
      other_length (codes "content-length") (t ++ 120 ∷ []) w _ refl
          (λ x. let y : length (t ++ 120 ∷ []) ≡ 14 = x in omega arith),
    )

-- no field of an encoding is there
pub no_encoding : (ps : List Pair) (p : Pair) → IsGood (ps ++ p ∷ []) → is_encoding p ≡ true → ⊥
no_encoding ps p good coded =
    let none = or_none (list_any is_encoding ps) (is_encoding p || false)
    (sym (list_any-append is_encoding ps (p ∷ [])) ∙ (good_parts (ps ++ p ∷ []) good).plain) in
    let first = or_none (is_encoding p) false none.1 in
    absurd (cc (first.0, coded))
