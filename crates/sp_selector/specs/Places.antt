-- At which offset a text that is no selector is bad.
use Rattle.std.specs.Prelude.{◌≡◌, ◌++◌, ◌+◌, ◌<◌, ◌≤◌, ℕ, true, false, List, [], length, take, Some, None, slice_index}
use Rattle.sp_base.specs.Topic.{first_bad_byte}
use Rattle.sp_selector.specs.declared.parse.Chain.TheVariants.{Disjunction}
use Rattle.sp_selector.specs.declared.token.Token.{Token}
use Rattle.sp_selector.specs.Grammar.{Chained, Derives}
use Rattle.sp_selector.specs.Scan.{Scanned, scan, counted}
use Rattle.sp_selector.specs.Tree.{Expression}

-- the grammar derives the tokens from the tree, and at most 200 of them are counted
pub record IsTokens (ts : List Token) (e : Expression) : Type 0 where
  pub few : counted false ts ≤ 200
  pub derived : Derives (Chained Disjunction) ts e []

-- with the tokens of some more text, or of none, they are those of a selector
pub record CanGoOn (ts : List Token) : Type 0 where
  pub more : List ℕ
  pub whole : (scan 0 0 more).whole ≡ true
  pub tree : Expression
  pub selector : IsTokens (ts ++ (scan 0 0 more).tokens) tree

-- whatever tokens follow, they are those of no selector
abbrev pub CannotGoOn : List Token → Type 0
CannotGoOn ts = (more : List Token) (e : Expression) → IsTokens (ts ++ more) e → ⊥

-- the first token after which no continuation is a selector begins at the offset
pub record CannotFollow (s : Scanned) (at : ℕ) : Type 0 where
  pub index : ℕ
  pub token : index < length s.tokens
  pub before : CanGoOn (take index s.tokens)
  pub with_it : CannotGoOn (take (index + 1) s.tokens)
  pub place : at ≡ slice_index s.places index

-- all tokens can go on, but no token begins at the offset behind them
pub record NoToken (s : Scanned) (at : ℕ) : Type 0 where
  pub before : CanGoOn s.tokens
  pub none : s.whole ≡ false
  pub place : at ≡ s.end

-- all tokens can go on and are those of no selector: more is missing at the end of the text
pub record MoreMissing (text : List ℕ) (s : Scanned) (at : ℕ) : Type 0 where
  pub before : CanGoOn s.tokens
  pub all : s.whole ≡ true
  pub none : (e : Expression) → IsTokens s.tokens e → ⊥
  pub place : at ≡ length text

-- the length is asked first, then UTF-8, then the tokens from the left
pub data IsBadAt (text : List ℕ) (at : ℕ) : Type 0 where
  too_long : 2000 < length text → at ≡ 2000 → IsBadAt text at
  bad_byte : length text ≤ 2000 → first_bad_byte text ≡ Some at → IsBadAt text at
  bad_token : length text ≤ 2000 → first_bad_byte text ≡ None → CannotFollow (scan 0 0 text) at → IsBadAt text at
  no_token : length text ≤ 2000 → first_bad_byte text ≡ None → NoToken (scan 0 0 text) at → IsBadAt text at
  too_short : length text ≤ 2000 → first_bad_byte text ≡ None → MoreMissing text (scan 0 0 text) at → IsBadAt text at
