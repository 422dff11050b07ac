-- Which texts are selectors, and of which tree.
use Rattle.std.specs.Prelude.{◌≡◌, ◌==◌, ◌&&◌, ◌+◌, ◌-◌, ◌*◌, ◌≤◌, ℕ, Bool, true, false, List, [], ◌∷◌, length, take, Option, Some, None, Result, Ok, Err, if◌then◌else◌, nat_lt}
use Rattle.std.specs.List.{slice_index_or}
use Rattle.sp_base.specs.Topic.{first_bad_byte}
use Rattle.sp_selector.specs.declared.datum.Datum.{Datum}
use Rattle.sp_selector.specs.declared.datum.Datum.TheVariants.{Truth}
use Rattle.sp_selector.specs.declared.parse.Chain.TheVariants.{Disjunction}
use Rattle.sp_selector.specs.declared.selector.SelectorError.{SelectorError}
use Rattle.sp_selector.specs.declared.selector.SelectorError.TheVariants as error
use Rattle.sp_selector.specs.declared.token.Token.{Token}
use Rattle.sp_selector.specs.Grammar.{Chained, Derives}
use Rattle.sp_selector.specs.Limit.{allowed}
use Rattle.sp_selector.specs.Parser.{◌>>=◌, Whole, reads}
use Rattle.sp_selector.specs.Scan.{Scanned, scan, counted}
use Rattle.sp_selector.specs.Tree.{Expression}

-- UTF-8 of at most 2,000 bytes that is cut into tokens as a whole, of which at most 200 are counted, and which the grammar derives from the tree
pub record IsSelector (text : List ℕ) (e : Expression) : Type 0 where
  pub short : length text ≤ 2000
  pub utf8 : first_bad_byte text ≡ None
  pub whole : (scan 0 0 text).whole ≡ true
  pub few : counted false (scan 0 0 text).tokens ≤ 200
  pub derived : Derives (Chained Disjunction) (scan 0 0 text).tokens e []

-- no token may be left
abbrev pub all_used : Expression → List Token → Result Expression ℕ
all_used e [] = Ok e
all_used e (t ∷ ts) = Err (length (t ∷ ts))

-- the tree of all tokens, or how many are left from the one on that can't stand there
abbrev pub reading_of : List Token → Result Expression ℕ
reading_of ts = reads (10 * length ts + 10) (Whole (Chained Disjunction)) ts >>= λ x. all_used x.0 x.1

-- the offset of a token, or of the end behind the last one
abbrev pub place_in : Scanned → ℕ → ℕ
place_in s index = slice_index_or s.places index s.end

-- the tree counts only where all tokens were usable and go up to the end of the text
abbrev pub judged : Scanned → ℕ → Result Expression ℕ → Result Expression ℕ
judged s usable (Err left) = Err (place_in s (usable - left))
judged s usable (Ok e) = if (usable == length s.tokens) && s.whole then Ok e else Err (place_in s usable)

-- the tree of the tokens before the one that is beyond the limit, if there is one, or an offset
abbrev pub judgement : Scanned → Result Expression ℕ
judgement s = judged s (allowed 200 false s.tokens) (reading_of (take (allowed 200 false s.tokens) s.tokens))

-- a byte that is not UTF-8 goes before all tokens
abbrev pub where_utf8 : Option ℕ → Result Expression ℕ → Result Expression ℕ
where_utf8 None r = r
where_utf8 (Some at) r = Err at

-- the tree of a text, or the offset where reading from the left can't go on: the length is asked first, then UTF-8, then the tokens
unfoldable pub selector_in : List ℕ → Result Expression ℕ
selector_in text = if nat_lt 2000 (length text) then Err 2000 else where_utf8 (first_bad_byte text) (judgement (scan 0 0 text))

-- what was answered, seen by `view`, is what the text says, unless there was no memory
abbrev pub Answers : {A B : Type 0} → (A → B) → Result A SelectorError → Result B ℕ → Type 0
Answers view (Ok x) r = r ≡ Ok (view x)
Answers view (Err (error.Bad at)) r = r ≡ Err at
Answers view (Err error.Memory) r = Unit {0}

-- the value is TRUE
abbrev pub is_true : Datum → Bool
is_true (Truth b) = b
is_true d = false
