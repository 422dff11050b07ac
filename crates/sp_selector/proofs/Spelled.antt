-- Tokens that complete others, and a text of theirs.
use Rattle.std.proofs.Common.{◌≡◌, ◌+◌, ◌++◌, ℕ, Bool, true, List, [], ◌∷◌, refl, ap, arith}
use Rattle.std.specs.Prelude.{codes}
use Rattle.std.specs.Str.{chars, is_utf8}
use Rattle.std.specs.Str.Lossy.{utf8_valid_len}
use lib.Utf8.{encode}
use Rattle.sp_selector.specs.declared.token.Mark.TheVariants as mark
use Rattle.sp_selector.specs.declared.token.Token.{Token}
use Rattle.sp_selector.specs.declared.token.Token.TheVariants as token
use Rattle.sp_selector.specs.declared.tree.Operator.TheVariants as operator
use Rattle.sp_selector.specs.Scan.{token_at, keyword_of, scan, counted}

-- tokens of which none is counted
pub data Plain : List Token → Type 0 where
  nothing : Plain []
  an_and : {ts : List Token} → Plain ts → Plain (token.Infix operator.And ∷ ts)
  a_like : {ts : List Token} → Plain ts → Plain (token.Mark mark.Like ∷ ts)
  a_null : {ts : List Token} → Plain ts → Plain (token.Mark mark.Null ∷ ts)
  a_true : {ts : List Token} → Plain ts → Plain (token.Mark mark.True ∷ ts)
  a_close : {ts : List Token} → Plain ts → Plain (token.Mark mark.Close ∷ ts)
  an_empty : {ts : List Token} → Plain ts → Plain (token.Text [] ∷ ts)
  a_point : {ts : List Token} → Plain ts → Plain (token.Text (33 ∷ []) ∷ ts)

pub plain_count : {ts : List Token} → Plain ts → (b : Bool) → counted b ts ≡ 0
plain_count nothing b = refl
plain_count (an_and p) b = omega (arith, plain_count p)
plain_count (a_like p) b = omega (arith, plain_count p)
plain_count (a_null p) b = omega (arith, plain_count p)
plain_count (a_true p) b = omega (arith, plain_count p)
plain_count (a_close p) b = omega (arith, plain_count p)
plain_count (an_empty p) b = omega (arith, plain_count p)
plain_count (a_point p) b = omega (arith, plain_count p)

-- they are all tokens of a text
abbrev pub Spelled : List Token → Type 0
Spelled ts = (text : List ℕ) × ((at : ℕ) → ((scan 0 at text).whole ≡ true) × ((scan 0 at text).tokens ≡ ts))

pub plain_spelled : {ts : List Token} → Plain ts → Spelled ts
unfolding token_at keyword_of utf8_valid_len is_utf8 chars encode
plain_spelled nothing = ([], λ at. (refl, refl))
plain_spelled (an_and p) = let s = plain_spelled p in (codes "AND " ++ s.0, λ at. let r = s.1 (at + 1 + 1 + 1 + 1) in (r.0, ap (λ ts. token.Infix operator.And ∷ ts) r.1))
plain_spelled (a_like p) = let s = plain_spelled p in (codes "LIKE " ++ s.0, λ at. let r = s.1 (at + 1 + 1 + 1 + 1 + 1) in (r.0, ap (λ ts. token.Mark mark.Like ∷ ts) r.1))
plain_spelled (a_null p) = let s = plain_spelled p in (codes "NULL " ++ s.0, λ at. let r = s.1 (at + 1 + 1 + 1 + 1 + 1) in (r.0, ap (λ ts. token.Mark mark.Null ∷ ts) r.1))
plain_spelled (a_true p) = let s = plain_spelled p in (codes "TRUE " ++ s.0, λ at. let r = s.1 (at + 1 + 1 + 1 + 1 + 1) in (r.0, ap (λ ts. token.Mark mark.True ∷ ts) r.1))
plain_spelled (a_close p) = let s = plain_spelled p in (codes ")" ++ s.0, λ at. let r = s.1 (at + 1) in (r.0, ap (λ ts. token.Mark mark.Close ∷ ts) r.1))
plain_spelled (an_empty p) = let s = plain_spelled p in (codes "'' " ++ s.0, λ at. let r = s.1 (at + 1 + 1 + 1) in (r.0, ap (λ ts. token.Text [] ∷ ts) r.1))
plain_spelled (a_point p) = let s = plain_spelled p in (codes "'!' " ++ s.0, λ at. let r = s.1 (at + 1 + 1 + 1 + 1) in (r.0, ap (λ ts. token.Text (33 ∷ []) ∷ ts) r.1))

-- so they are behind a parenthesis
pub open_spelled : {ts : List Token} → Spelled ts → Spelled (token.Mark mark.Open ∷ ts)
unfolding token_at
open_spelled s = (codes "(" ++ s.0, λ at. let r = s.1 (at + 1) in (r.0, ap (λ ts. token.Mark mark.Open ∷ ts) r.1))
