-- The cut of a list at a byte is the one at the first such byte.
use Rattle.std.proofs.Common.{◌≡◌, ◌==◌, ◌≤◌, ◌<◌, ℕ, suc, ◌+◌, Bool, true, false, not, cond, List, [], ◌∷◌, ◌++◌}
use Rattle.std.proofs.Common.{length, take, drop, Option, Some, None, refl, sym, ap, subst, ◌∙◌, arith}
use Rattle.std.specs.Prelude.{option_map, position}
use Rattle.std.specs.List.{list_any, list_all, position_or_len}
use Rattle.std.proofs.Math.Dec.{ltb}
use Rattle.std.proofs.lemmas.Bool.{lt-ltb, le-ltb, ltb-true, ltb-false, eq-eqb, eqb-true, cond-true, cond-false}
use Rattle.std.proofs.lemmas.Bool.{or_parts, or_from, and_parts}
use Rattle.std.proofs.lemmas.List.Folds.{list_any-append}
use Rattle.std.proofs.lemmas.List.{append_assoc}
use Rattle.std.proofs.lemmas.Option.{some_pair_parts}
use Rattle.sp_tape.specs.Cut.{cut}

-- a byte stands somewhere in a list
abbrev pub has_byte : ℕ → List ℕ → Bool
has_byte byte xs = list_any (λ x. x == byte) xs

abbrev onto : ℕ → List ℕ × List ℕ → List ℕ × List ℕ
onto x p = (x ∷ p.0, p.1)

pub cut-found : (byte : ℕ) (a b : List ℕ) → has_byte byte a ≡ false → cut byte (a ++ byte ∷ b) ≡ Some (a, b)
cut-found byte [] b clear = cond-true (byte == byte) (Some ([], b)) (option_map (onto byte) (cut byte b))
    (eq-eqb byte byte refl)
cut-found byte (x ∷ a) b clear =
    let parts = or_parts (x == byte) (has_byte byte a) clear in
    cond-false (x == byte) (Some ([], a ++ byte ∷ b)) (option_map (onto x) (cut byte (a ++ byte ∷ b))) parts.0 ∙
    ap (option_map (onto x)) (cut-found byte a b parts.1)

-- both sides of a cut, the first without the byte
pub record IsCut (byte : ℕ) (xs a b : List ℕ) : Type 0 where
  pub joined : xs ≡ a ++ byte ∷ b
  pub clear : has_byte byte a ≡ false

cut_step : (byte x : ℕ) (xs a b : List ℕ) (o : Option (List ℕ × List ℕ)) → ((p q : List ℕ) → o ≡ Some (p, q) →
    IsCut byte xs p q) → (t : Bool) → (x == byte) ≡ t → cond t (Some ([], xs)) (option_map (onto x) o) ≡ Some (a, b) →
    IsCut byte (x ∷ xs) a b
cut_step byte x xs a b o rest true h e =
    let parts = some_pair_parts [] a xs b e in
    let here : x ≡ byte = eqb-true x byte h in
    let joined : x ∷ xs ≡ byte ∷ b = cc (here, parts.1) in
    subst (λ (l : List ℕ). IsCut byte (x ∷ xs) l b) parts.0 (record { joined = joined; clear = refl })
cut_step byte x xs a b None rest false h e = absurd (cc)
cut_step byte x xs a b (Some (p, q)) rest false h e =
    let parts = some_pair_parts (x ∷ p) a q b e in
    let r = rest p q refl in
    let joined : x ∷ xs ≡ (x ∷ p) ++ byte ∷ q = ap (λ (l : List ℕ). x ∷ l) r.joined in
    subst (λ (l : List ℕ). IsCut byte (x ∷ xs) l b) parts.0
    (subst (λ (l : List ℕ). IsCut byte (x ∷ xs) (x ∷ p) l) parts.1 (record {
      joined = joined;
      clear =
          or_from (x == byte) (has_byte byte p) h r.clear;
    }))

pub is_cut : (byte : ℕ) (xs a b : List ℕ) → cut byte xs ≡ Some (a, b) → IsCut byte xs a b
is_cut byte [] a b e = absurd (cc)
is_cut byte (x ∷ xs) a b e = cut_step byte x xs a b (cut byte xs) (is_cut byte xs) (x == byte) refl e

none_step : (byte x : ℕ) (xs : List ℕ) (o : Option (List ℕ × List ℕ)) → (o ≡ None → has_byte byte xs ≡ false) →
    (t : Bool) → (x == byte) ≡ t → cond t (Some ([], xs)) (option_map (onto x) o) ≡ None →
    has_byte byte (x ∷ xs) ≡ false
none_step byte x xs o rest true h e = absurd (cc)
none_step byte x xs (Some p) rest false h e = absurd (cc)
none_step byte x xs None rest false h e = or_from (x == byte) (has_byte byte xs) h (rest refl)

pub cut-none : (byte : ℕ) (xs : List ℕ) → cut byte xs ≡ None → has_byte byte xs ≡ false
cut-none byte [] e = refl
cut-none byte (x ∷ xs) e = none_step byte x xs (cut byte xs) (cut-none byte xs) (x == byte) refl e

-- a byte stands in no list all of whose bytes pass a test that it fails
pub apart : (test : ℕ → Bool) (byte : ℕ) → test byte ≡ false → (xs : List ℕ) → list_all test xs ≡ true →
    has_byte byte xs ≡ false
apart test byte fails [] all = refl
apart test byte fails (x ∷ xs) all =
    let parts = and_parts (test x) (list_all test xs) all in
    or_from (x == byte) (has_byte byte xs) (one (x == byte) refl parts.0) (apart test byte fails xs parts.1)
  where
    one : (t : Bool) → (x == byte) ≡ t → test x ≡ true → (x == byte) ≡ false
    one false h passes = h
    one true h passes = let same : x ≡ byte = eqb-true x byte h in absurd (cc (ap test same, passes, fails))

pub clear-append : (byte : ℕ) (xs ys : List ℕ) → has_byte byte xs ≡ false → has_byte byte ys ≡ false →
    has_byte byte (xs ++ ys) ≡ false
clear-append byte xs ys p q = list_any-append (λ x. x == byte) xs ys ∙ or_from (has_byte byte xs) (has_byte byte ys) p q

-- what follows the list follows its second side
pub cut-more : (byte : ℕ) (xs a b more : List ℕ) → cut byte xs ≡ Some (a, b) →
    cut byte (xs ++ more) ≡ Some (a, b ++ more)
cut-more byte xs a b more e =
    let c = is_cut byte xs a b e in
    ap (λ (l : List ℕ). cut byte (l ++ more)) c.joined ∙ (ap (cut byte) (append_assoc a (byte ∷ b) more) ∙
    cut-found byte a (b ++ more) c.clear)

abbrev split_at : List ℕ → ℕ → List ℕ × List ℕ
split_at xs i = (take i xs, drop (i + 1) xs)

abbrev found_at : ℕ → List ℕ → Option (List ℕ × List ℕ)
found_at n xs = option_map (split_at xs) (cond (ltb n (length xs)) (Some n) None)

found_further : (n x : ℕ) (xs : List ℕ) → found_at (suc n) (x ∷ xs) ≡ option_map (onto x) (found_at n xs)
found_further n x xs = one (ltb n (length xs)) refl
  where
    one : (t : Bool) → ltb n (length xs) ≡ t →
        found_at (suc n) (x ∷ xs) ≡ option_map (onto x) (option_map (split_at xs) (cond t (Some n) None))
    one true h =
        let below : n < length xs = ltb-true n (length xs) h in
        let far : suc n + 1 ≡ suc (n + 1) = omega arith in
        ap (λ t. option_map (split_at (x ∷ xs)) (cond t (Some (suc n)) None)) (lt-ltb (suc n) (suc (length xs))
        (omega arith)) ∙ ap (λ k. Some (x ∷ take n xs, drop k (x ∷ xs))) far
    one false h =
        let above : length xs ≤ n = ltb-false n (length xs) h in
        ap (λ t. option_map (split_at (x ∷ xs)) (cond t (Some (suc n)) None)) (le-ltb (suc n) (suc (length xs))
        (omega arith))

-- the cut is at the place of the first such byte
pub cut_by_position : (byte : ℕ) (xs : List ℕ) →
    cut byte xs ≡ option_map (λ i. (take i xs, drop (i + 1) xs)) (position (λ x. x == byte) xs)
cut_by_position byte [] = refl
cut_by_position byte (x ∷ xs) = one (cut_by_position byte xs) (x == byte)
  where
    one : cut byte xs ≡ found_at (position_or_len (λ y. y == byte) xs) xs → (t : Bool) →
        cond t (Some ([], xs)) (option_map (onto x) (cut byte xs))
        ≡ found_at (cond (not t) (1 + position_or_len (λ y. y == byte) xs) 0) (x ∷ xs)
    one rest true = sym (ap (λ t. option_map (split_at (x ∷ xs)) (cond t (Some 0) None))
        (lt-ltb 0 (suc (length xs)) (omega arith)))
    one rest false =
        let n = position_or_len (λ y. y == byte) xs in
        let next : suc n ≡ 1 + n = omega arith in
        ap (option_map (onto x)) rest ∙ (sym (found_further n x xs) ∙ ap (λ k. found_at k (x ∷ xs)) next)
