-- What a text in quotes says, so far.
use Rattle.std.proofs.Common.{◌≡◌, ◌∙◌, ◌+◌, ◌-◌, ◌<◌, ◌≤◌, ℕ, Bool, true, false, List, [], ◌∷◌, ◌++◌, Option, Some, None, length, drop, get_or, refl, ap, sym, append_assoc, append-nil, arith}
use Rattle.std.specs.Prelude.{◌==◌, if◌then◌else◌}
use Rattle.std.proofs.lemmas.Bool.{cond-true, cond-false}
use Rattle.std.proofs.lemmas.Bool.Decides.{nat_tests}
use Rattle.std.proofs.lemmas.List.{drop_more, drop_all}
use Rattle.sp_selector.specs.Scan.{quoted, with_byte}

-- bytes that were read before, and how many they were in the text
abbrev pub with_front : List ℕ → ℕ → Option (List ℕ × ℕ) → Option (List ℕ × ℕ)
with_front front len None = None
with_front front len (Some x) = Some (front ++ x.0, len + x.1)

-- what was read so far, and what is left, are all: a quote that stands just before isn't counted yet
pub record ReadSoFar (text front : List ℕ) (at : ℕ) (after : Bool) : Type 0 where
  pub whole : with_front front (if after then at - 1 else at) (quoted after (drop at text)) ≡ quoted false text
  pub behind : after ≡ true → 0 < at

with_front-with_byte : (front : List ℕ) (len b k : ℕ) (r : Option (List ℕ × ℕ)) → with_front front len (with_byte b k r) ≡ with_front (front ++ b ∷ []) (len + k) r
with_front-with_byte front len b k None = refl
with_front-with_byte front len b k (Some x) =
    let longer : len + (k + x.1) ≡ len + k + x.1 = omega arith in
    ap (λ n. Some (front ++ b ∷ x.0, n)) longer ∙ ap (λ bs. Some (bs, len + k + x.1)) (sym (append_assoc front (b ∷ []) x.0))

with_none : (r : Option (List ℕ × ℕ)) → with_front [] 0 r ≡ r
with_none None = refl
with_none (Some x) = let same : 0 + x.1 ≡ x.1 = omega arith in ap (λ n. Some (x.0, n)) same

pub nothing_read : (text front : List ℕ) → front ≡ [] → ReadSoFar text front 0 false
nothing_read text front none = record {
  whole = ap (λ bs. with_front bs 0 (quoted false text)) none ∙ with_none (quoted false text);
  behind = λ h. cc;
}

pub a_quote : (text front : List ℕ) (at b : ℕ) → at < length text → b ≡ get_or text at 0 → b ≡ 39 → ReadSoFar text front at false → ReadSoFar text front (at + 1) true
a_quote text front at b within is quote so_far =
    let q : (get_or text at 0 == 39) ≡ true = grind (arith, nat_tests) in
    let left = drop_more text at 0 within in
    let same : quoted false (drop at text) ≡ quoted true (drop (at + 1) text) = ap (quoted false) left ∙ cond-true _ _ _ q in
    let len : at + 1 - 1 ≡ at = omega arith in
    record {
      whole = ap (λ n. with_front front n (quoted true (drop (at + 1) text))) len ∙ ap (with_front front at) (sym same) ∙ so_far.whole;
      behind = λ _. omega arith;
    }

pub a_byte : (text front : List ℕ) (at b : ℕ) → at < length text → b ≡ get_or text at 0 → (b ≡ 39 → ⊥) → ReadSoFar text front at false → ReadSoFar text (front ++ b ∷ []) (at + 1) false
a_byte text front at b within is other so_far =
    let q : (b == 39) ≡ false = grind (arith, nat_tests) in
    let left : drop at text ≡ b ∷ drop (at + 1) text = drop_more text at 0 within ∙ ap (λ c. c ∷ drop (at + 1) text) (sym is) in
    let same : quoted false (drop at text) ≡ with_byte b 1 (quoted false (drop (at + 1) text)) = ap (quoted false) left ∙ cond-false _ _ _ q in
    record {
      whole = sym (with_front-with_byte front at b 1 (quoted false (drop (at + 1) text))) ∙ ap (with_front front at) (sym same) ∙ so_far.whole;
      behind = λ h. cc;
    }

pub two_quotes : (text front : List ℕ) (at b : ℕ) → at < length text → b ≡ get_or text at 0 → b ≡ 39 → ReadSoFar text front at true → ReadSoFar text (front ++ b ∷ []) (at + 1) false
two_quotes text front at b within is quote so_far =
    let q : (b == 39) ≡ true = grind (arith, nat_tests) in
    let left : drop at text ≡ b ∷ drop (at + 1) text = drop_more text at 0 within ∙ ap (λ c. c ∷ drop (at + 1) text) (sym is) in
    let same : quoted true (drop at text) ≡ with_byte b 2 (quoted false (drop (at + 1) text)) = ap (quoted true) left ∙ cond-true _ _ _ q in
    let behind = so_far.behind refl in
    let len : at + 1 ≡ at - 1 + 2 = omega arith in
    record {
      whole = ap (λ n. with_front (front ++ b ∷ []) n (quoted false (drop (at + 1) text))) len ∙ sym (with_front-with_byte front (at - 1) b 2 (quoted false (drop (at + 1) text))) ∙ ap (with_front front (at - 1)) (sym same) ∙ so_far.whole;
      behind = λ h. cc;
    }

pub closed : (text front : List ℕ) (at b : ℕ) → at < length text → b ≡ get_or text at 0 → (b ≡ 39 → ⊥) → ReadSoFar text front at true → Some (front, at - 1) ≡ quoted false text
closed text front at b within is other so_far =
    let q : (b == 39) ≡ false = grind (arith, nat_tests) in
    let left : drop at text ≡ b ∷ drop (at + 1) text = drop_more text at 0 within ∙ ap (λ c. c ∷ drop (at + 1) text) (sym is) in
    let same : quoted true (drop at text) ≡ Some ([], 0) = ap (quoted true) left ∙ cond-false _ _ _ q in
    let len : at - 1 ≡ at - 1 + 0 = omega arith in
    ap (λ n. Some (front, n)) len ∙ ap (λ bs. Some (bs, at - 1 + 0)) (sym (append-nil front)) ∙ ap (with_front front (at - 1)) (sym same) ∙ so_far.whole

no_more : (text : List ℕ) (at : ℕ) → length text ≤ at → drop at text ≡ []
no_more text at past = drop_all at text past

pub closed_at_end : (text front : List ℕ) (at : ℕ) → at ≡ length text → ReadSoFar text front at true → Some (front, length text - 1) ≡ quoted false text
closed_at_end text front at end so_far =
    let same : quoted true (drop at text) ≡ Some ([], 0) = ap (quoted true) (no_more text at (omega arith)) in
    let len : length text - 1 ≡ at - 1 + 0 = omega arith in
    ap (λ n. Some (front, n)) len ∙ ap (λ bs. Some (bs, at - 1 + 0)) (sym (append-nil front)) ∙ ap (with_front front (at - 1)) (sym same) ∙ so_far.whole

pub never_closed : (text front : List ℕ) (at : ℕ) → at ≡ length text → ReadSoFar text front at false → None ≡ quoted false text
never_closed text front at end so_far =
    let same : quoted false (drop at text) ≡ None = ap (quoted false) (no_more text at (omega arith)) in
    ap (with_front front at) (sym same) ∙ so_far.whole
