-- A text is bad at one offset.
use Rattle.std.proofs.Common.{◌≡◌, ◌∙◌, ◌⊎◌, ◌+◌, ◌<◌, ◌≤◌, ◌++◌, ℕ, Bool, true, false, List, length, take, drop, Option, Some, None, inl, inr, sym, ap, subst, append_assoc, arith}
use Rattle.std.specs.Prelude.{slice_index}
use Rattle.std.proofs.lemmas.Bool.{cases_lt}
use Rattle.std.proofs.lemmas.List.{take-append-drop, take-append-le, length-take}
use Rattle.sp_base.specs.Topic.{first_bad_byte}
use Rattle.sp_selector.specs.declared.token.Token.{Token}
use Rattle.sp_selector.specs.Places.{IsTokens, CanGoOn, CannotGoOn, CannotFollow, NoToken, MoreMissing, IsBadAt}
use Rattle.sp_selector.specs.Places as bad
use Rattle.sp_selector.specs.Scan.{Scanned, scan}

-- what can go on can't begin with what can't
not_further : (n : ℕ) (ts : List Token) → CannotGoOn (take n ts) → CanGoOn ts → ⊥
not_further n ts never c =
    let more = (scan 0 0 c.more).tokens in
    never (drop n ts ++ more) c.tree (subst (λ us. IsTokens us c.tree) (ap (λ us. us ++ more) (sym (take-append-drop n ts)) ∙ append_assoc (take n ts) (drop n ts) more) c.selector)

shorter_front : (n k : ℕ) (ts : List Token) → n ≤ k → n ≤ length ts → take n (take k ts) ≡ take n ts
shorter_front n k ts less within =
    sym (take-append-le n (take k ts) (drop k ts) (omega (arith, length-take k ts))) ∙ ap (take n) (take-append-drop k ts)

not_after : (s : Scanned) (a b : ℕ) (p : CannotFollow s a) (q : CannotFollow s b) → p.index < q.index → ⊥
not_after s a b p q less =
    let n = p.index + 1 in
    let within : n ≤ length s.tokens = omega (arith, p.token) in
    not_further n (take q.index s.tokens) (subst CannotGoOn (sym (shorter_front n q.index s.tokens (omega arith) within)) p.with_it) q.before

not_all : (s : Scanned) (a : ℕ) (p : CannotFollow s a) → CanGoOn s.tokens → ⊥
not_all s a p c = not_further (p.index + 1) s.tokens p.with_it c

same_place : (s : Scanned) (a b : ℕ) → CannotFollow s a → CannotFollow s b → a ≡ b
same_place s a b p q = by_order (cases_lt p.index q.index) (cases_lt q.index p.index)
  where
    by_order : (p.index < q.index) ⊎ (q.index ≤ p.index) → (q.index < p.index) ⊎ (p.index ≤ q.index) → a ≡ b
    by_order (inl less) other = absurd (not_after s a b p q less)
    by_order (inr more) (inl less) = absurd (not_after s b a q p less)
    by_order (inr more) (inr less) =
        let same : p.index ≡ q.index = omega arith in
        p.place ∙ ap (slice_index s.places) same ∙ sym q.place

whole_or_not : (w : Bool) → w ≡ false → w ≡ true → ⊥
whole_or_not w h g = cc

utf8_or_not : (o : Option ℕ) (k : ℕ) → o ≡ Some k → o ≡ None → ⊥
utf8_or_not o k h g = cc

same_byte : (o : Option ℕ) (j k : ℕ) → o ≡ Some j → o ≡ Some k → j ≡ k
same_byte o j k h g = cc

pub one_place : (text : List ℕ) (a b : ℕ) → IsBadAt text a → IsBadAt text b → a ≡ b
one_place text a b (bad.too_long l p) (bad.too_long m q) = p ∙ sym q
one_place text a b (bad.too_long l p) (bad.bad_byte m q) = absurd (omega arith)
one_place text a b (bad.too_long l p) (bad.bad_token m u q) = absurd (omega arith)
one_place text a b (bad.too_long l p) (bad.no_token m u q) = absurd (omega arith)
one_place text a b (bad.too_long l p) (bad.too_short m u q) = absurd (omega arith)
one_place text a b (bad.bad_byte l p) (bad.too_long m q) = absurd (omega arith)
one_place text a b (bad.bad_byte l p) (bad.bad_byte m q) = same_byte (first_bad_byte text) a b p q
one_place text a b (bad.bad_byte l p) (bad.bad_token m u q) = absurd (utf8_or_not (first_bad_byte text) a p u)
one_place text a b (bad.bad_byte l p) (bad.no_token m u q) = absurd (utf8_or_not (first_bad_byte text) a p u)
one_place text a b (bad.bad_byte l p) (bad.too_short m u q) = absurd (utf8_or_not (first_bad_byte text) a p u)
one_place text a b (bad.bad_token l v p) (bad.too_long m q) = absurd (omega arith)
one_place text a b (bad.bad_token l v p) (bad.bad_byte m q) = absurd (utf8_or_not (first_bad_byte text) b q v)
one_place text a b (bad.bad_token l v p) (bad.bad_token m u q) = same_place (scan 0 0 text) a b p q
one_place text a b (bad.bad_token l v p) (bad.no_token m u q) = absurd (not_all (scan 0 0 text) a p q.before)
one_place text a b (bad.bad_token l v p) (bad.too_short m u q) = absurd (not_all (scan 0 0 text) a p q.before)
one_place text a b (bad.no_token l v p) (bad.too_long m q) = absurd (omega arith)
one_place text a b (bad.no_token l v p) (bad.bad_byte m q) = absurd (utf8_or_not (first_bad_byte text) b q v)
one_place text a b (bad.no_token l v p) (bad.bad_token m u q) = absurd (not_all (scan 0 0 text) b q p.before)
one_place text a b (bad.no_token l v p) (bad.no_token m u q) = p.place ∙ sym q.place
one_place text a b (bad.no_token l v p) (bad.too_short m u q) = absurd (whole_or_not (scan 0 0 text).whole p.none q.all)
one_place text a b (bad.too_short l v p) (bad.too_long m q) = absurd (omega arith)
one_place text a b (bad.too_short l v p) (bad.bad_byte m q) = absurd (utf8_or_not (first_bad_byte text) b q v)
one_place text a b (bad.too_short l v p) (bad.bad_token m u q) = absurd (not_all (scan 0 0 text) b q p.before)
one_place text a b (bad.too_short l v p) (bad.no_token m u q) = absurd (whole_or_not (scan 0 0 text).whole q.none p.all)
one_place text a b (bad.too_short l v p) (bad.too_short m u q) = p.place ∙ sym q.place
