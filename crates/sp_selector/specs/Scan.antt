-- The tokens of a text.
use Rattle.std.specs.Prelude.{◌==◌, ◌&&◌, ◌||◌, ◌+◌, ◌-◌, ℕ, zero, suc, ℤ, Bool, true, false, not, List, [], ◌∷◌, length, take, drop, Option, Some, None, if◌then◌else◌, nat_le, slice_index, codes}
use Rattle.std.specs.List.{position_or_len}
use Rattle.std.specs.Str.{str_eq_ignore_ascii_case}
use Rattle.std.specs.Str.Lossy.{utf8_valid_len}
use Rattle.sp_message.specs.Decimal.{is_digit, whole_of, millionths_of, joined}
use Rattle.sp_selector.specs.declared.token.Mark.TheVariants as mark
use Rattle.sp_selector.specs.declared.token.Token.{Token}
use Rattle.sp_selector.specs.declared.token.Token.TheVariants as token
use Rattle.sp_selector.specs.declared.tree.Operator.TheVariants.{Or, And, Equal, NotEqual, Less, AtMost, Greater, AtLeast, Add, Subtract, Multiply, Divide}

-- a token and how many bytes it has, if one begins there
abbrev pub Found : Type 0
Found = Option (Token × ℕ)

-- a space, a tab, CR or LF
abbrev pub is_separator : ℕ → Bool
is_separator b = (b == 32) || (b == 9) || (b == 13) || (b == 10)

-- a letter, _ or $
abbrev pub begins_word : ℕ → Bool
begins_word b = (nat_le 97 b && nat_le b 122) || (nat_le 65 b && nat_le b 90) || (b == 95) || (b == 36)

-- such a byte or a digit
abbrev pub is_word_byte : ℕ → Bool
is_word_byte b = begins_word b || is_digit b

-- the longest front of such bytes
abbrev pub word_len : List ℕ → ℕ
word_len text = position_or_len (λ b. not (is_word_byte b)) text

-- the longest front of digits
abbrev pub digits_len : List ℕ → ℕ
digits_len text = position_or_len (λ b. not (is_digit b)) text

-- the keyword that a word is, in any case of letters
unfoldable pub keyword_of : List ℕ → Option Token
keyword_of word =
    if str_eq_ignore_ascii_case word (codes "AND") then Some (token.Infix And)
    else (if str_eq_ignore_ascii_case word (codes "OR") then Some (token.Infix Or)
    else (if str_eq_ignore_ascii_case word (codes "NOT") then Some (token.Mark mark.Not)
    else (if str_eq_ignore_ascii_case word (codes "BETWEEN") then Some (token.Mark mark.Between)
    else (if str_eq_ignore_ascii_case word (codes "IN") then Some (token.Mark mark.In)
    else (if str_eq_ignore_ascii_case word (codes "LIKE") then Some (token.Mark mark.Like)
    else (if str_eq_ignore_ascii_case word (codes "ESCAPE") then Some (token.Mark mark.Escape)
    else (if str_eq_ignore_ascii_case word (codes "IS") then Some (token.Mark mark.Is)
    else (if str_eq_ignore_ascii_case word (codes "NULL") then Some (token.Mark mark.Null)
    else (if str_eq_ignore_ascii_case word (codes "TRUE") then Some (token.Mark mark.True)
    else (if str_eq_ignore_ascii_case word (codes "FALSE") then Some (token.Mark mark.False)
    else None))))))))))

-- a keyword, or else an identifier
abbrev pub word_token : List ℕ → Option Token → Token
word_token word (Some t) = t
word_token word None = token.Name word

-- bytes that are UTF-8, as all parts of a text between ASCII characters are
abbrev pub is_utf8 : List ℕ → Bool
is_utf8 bytes = utf8_valid_len bytes == length bytes

-- a keyword or an identifier at the front
abbrev pub word_at : List ℕ → Found
word_at text =
    let word = take (word_len text) text in
    if is_utf8 word then Some (word_token word (keyword_of word), word_len text) else None

-- no digits before or after the point count as none
abbrev pub whole_or_none : List ℕ → Option ℕ
whole_or_none [] = Some 0
whole_or_none (b ∷ digits) = whole_of (b ∷ digits)

-- the same behind the point
abbrev pub decimals_or_none : List ℕ → Option ℕ
decimals_or_none [] = Some 0
decimals_or_none (b ∷ digits) = millionths_of (b ∷ digits)

-- digits, digits and a point, a point and one to six digits, or digits, a point and one to six digits, of at most 2^63 - 1
abbrev pub number_token : ℕ → Option ℤ → Found
number_token len None = None
number_token len (Some z) = Some (token.Number z, len)

-- a number with a point, with digits on one side at least
abbrev pub pointed : List ℕ → List ℕ → Found
pointed whole decimals =
    if (length whole == 0) && (length decimals == 0) then None
    else number_token (length whole + 1 + length decimals) (joined (whole_or_none whole) (decimals_or_none decimals))

-- a number at the front
abbrev pub number_at : List ℕ → Found
number_at text =
    let whole = take (digits_len text) text in
    let rest = drop (digits_len text) text in
    if slice_index rest 0 == 46 then pointed whole (take (digits_len (drop 1 rest)) (drop 1 rest))
    else number_token (length whole) (joined (whole_or_none whole) (Some 0))

-- what a text says whose opening quote is past, and how many bytes it has up to its closing quote; each two quotes are one, from the left
abbrev pub with_byte : ℕ → ℕ → Option (List ℕ × ℕ) → Option (List ℕ × ℕ)
with_byte b len None = None
with_byte b len (Some x) = Some (b ∷ x.0, len + x.1)

-- the flag says that a quote stands before
abbrev pub quoted : Bool → List ℕ → Option (List ℕ × ℕ)
quoted false [] = None
quoted true [] = Some ([], 0)
quoted false (b ∷ bs) = if b == 39 then quoted true bs else with_byte b 1 (quoted false bs)
quoted true (b ∷ bs) = if b == 39 then with_byte b 2 (quoted false bs) else Some ([], 0)

-- a text, with both its quotes
abbrev pub text_token : Option (List ℕ × ℕ) → Found
text_token None = None
text_token (Some x) = if is_utf8 x.0 then Some (token.Text x.0, x.1 + 2) else None

-- the other tokens, of one or two characters
abbrev pub symbol_at : ℕ → ℕ → Found
symbol_at b next =
    if b == 40 then Some (token.Mark mark.Open, 1)
    else (if b == 41 then Some (token.Mark mark.Close, 1)
    else (if b == 44 then Some (token.Mark mark.Comma, 1)
    else (if b == 61 then Some (token.Infix Equal, 1)
    else (if b == 43 then Some (token.Infix Add, 1)
    else (if b == 45 then Some (token.Infix Subtract, 1)
    else (if b == 42 then Some (token.Infix Multiply, 1)
    else (if b == 47 then Some (token.Infix Divide, 1)
    else (if (b == 60) && (next == 62) then Some (token.Infix NotEqual, 2)
    else (if (b == 60) && (next == 61) then Some (token.Infix AtMost, 2)
    else (if b == 60 then Some (token.Infix Less, 1)
    else (if (b == 62) && (next == 61) then Some (token.Infix AtLeast, 2)
    else (if b == 62 then Some (token.Infix Greater, 1)
    else None))))))))))))

-- the longest token with which a text begins
unfoldable pub token_at : List ℕ → Found
token_at text =
    let b = slice_index text 0 in
    if begins_word b then word_at text
    else (if is_digit b || (b == 46) then number_at text
    else (if b == 39 then text_token (quoted false (drop 1 text))
    else symbol_at b (slice_index text 1)))

-- the tokens of a text with their offsets; where they end, which is the text's length or, where no token begins, that offset
pub record Scanned : Type 0 where
  pub tokens : List Token
  pub places : List ℕ
  pub end : ℕ
  pub whole : Bool

-- one more token in front
abbrev pub with_token : Token → ℕ → Scanned → Scanned
with_token t at s = record { tokens = t ∷ s.tokens; places = at ∷ s.places; end = s.end; whole = s.whole }

-- the token that was found and those after it, or the end
abbrev pub found_at : ℕ → Found → (ℕ → Scanned) → Scanned
found_at at None more = record { tokens = []; places = []; end = at; whole = false }
found_at at (Some x) more = with_token x.0 at (more (x.1 - 1))

-- the tokens from an offset on, where so many bytes still belong to the last token
abbrev pub scan : ℕ → ℕ → List ℕ → Scanned
scan skip at [] = record { tokens = []; places = []; end = at; whole = true }
scan (suc skip) at (b ∷ bs) = scan skip (at + 1) bs
scan zero at (b ∷ bs) =
    if is_separator b then scan 0 (at + 1) bs else found_at at (token_at (b ∷ bs)) (λ skip. scan skip (at + 1) bs)

-- NOT, + and -, and a parenthesis that begins a primary, which one behind IN doesn't
abbrev pub is_counted : Bool → Token → Bool
is_counted after_in (token.Infix Add) = true
is_counted after_in (token.Infix Subtract) = true
is_counted after_in (token.Mark mark.Not) = true
is_counted after_in (token.Mark mark.Open) = not after_in
is_counted after_in t = false

-- the token is IN
abbrev pub is_in : Token → Bool
is_in (token.Mark mark.In) = true
is_in t = false

-- how many tokens are counted, where IN stands before them or not
abbrev pub counted : Bool → List Token → ℕ
counted after_in [] = 0
counted after_in (t ∷ ts) = (if is_counted after_in t then 1 else 0) + counted (is_in t) ts
