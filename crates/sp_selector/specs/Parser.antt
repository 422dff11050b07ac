-- Reading tokens from the left, one at a time. It gives the tree of the grammar, or how many tokens are left from the one on that can't stand there.
use Rattle.std.specs.Prelude.{◌≡◌, ℕ, zero, suc, true, false, List, [], ◌∷◌, length, Option, Some, None, Result, Ok, Err, if◌then◌else◌}
use Rattle.std.specs.Str.{chars}
use Rattle.sp_selector.specs.declared.parse.Chain.{Chain}
use Rattle.sp_selector.specs.declared.parse.Chain.TheVariants.{Disjunction, Sum}
use Rattle.sp_selector.specs.declared.parse.ParseError.{ParseError}
use Rattle.sp_selector.specs.declared.parse.ParseError.TheVariants as error
use Rattle.sp_selector.specs.declared.token.Mark.{Mark}
use Rattle.sp_selector.specs.declared.token.Mark.TheVariants as mark
use Rattle.sp_selector.specs.declared.token.Token.{Token}
use Rattle.sp_selector.specs.declared.token.Token.TheVariants as token
use Rattle.sp_selector.specs.declared.tree.Operator.{Operator}
use Rattle.sp_selector.specs.declared.tree.Operator.TheVariants.{And, Add, Subtract}
use Rattle.sp_selector.specs.declared.tree.Sign.TheVariants.{Plus, Minus}
use Rattle.sp_selector.specs.Grammar.{Level, Chained, Negation, Condition, Test, Factor, Primary, operand_of, joins, is_comparison}
use Rattle.sp_pattern.specs.Pattern.{pattern_of}
use Rattle.sp_selector.specs.Tree.{Expression}
use Rattle.sp_selector.specs.Tree as tree

infixl 10 ◌>>=◌
-- goes on with a value, and passes on where reading stopped
abbrev pub ◌>>=◌ : {A B : Type 0} → Result A ℕ → (A → Result B ℕ) → Result B ℕ
(Ok x) >>= f = f x
(Err k) >>= f = Err k

-- a value and the tokens after it, or how many tokens are left where none can go on
abbrev pub Reading : Type 0 → Type 0
Reading A = Result (A × List Token) ℕ

-- what is to be read: a level, what else stands in a chain behind its operand, or what follows the first sum of a condition
pub data Goal : Type 0 where
  Whole : Level → Goal
  Chain_after : Chain → Expression → Goal
  Condition_after : Expression → Goal

-- behind one token of a kind
abbrev pub on_infix : {A : Type 0} → List Token → (Operator → List Token → A) → A → A
on_infix (token.Infix op ∷ ts) f d = f op ts
on_infix ts f d = d

-- behind a mark
abbrev pub on_mark : {A : Type 0} → List Token → (Mark → List Token → A) → A → A
on_mark (token.Mark m ∷ ts) f d = f m ts
on_mark ts f d = d

-- behind a text
abbrev pub on_text : {A : Type 0} → List Token → (List ℕ → List Token → A) → A → A
on_text (token.Text t ∷ ts) f d = f t ts
on_text ts f d = d

-- behind AND, which has to stand there
abbrev pub after_and : List Token → Result (List Token) ℕ
after_and (token.Infix And ∷ ts) = Ok ts
after_and ts = Err (length ts)

-- behind a closing parenthesis
abbrev pub after_close : List Token → Result (List Token) ℕ
after_close (token.Mark mark.Close ∷ ts) = Ok ts
after_close ts = Err (length ts)

-- behind an opening parenthesis
abbrev pub after_open : List Token → Result (List Token) ℕ
after_open (token.Mark mark.Open ∷ ts) = Ok ts
after_open ts = Err (length ts)

-- behind NULL
abbrev pub after_null : List Token → Result (List Token) ℕ
after_null (token.Mark mark.Null ∷ ts) = Ok ts
after_null ts = Err (length ts)

-- [NOT] NULL, behind IS
abbrev pub null_test : Expression → List Token → Reading Expression
null_test e (token.Mark mark.Not ∷ ts) = after_null ts >>= λ rest. Ok (tree.Not (tree.IsNull e), rest)
null_test e ts = after_null ts >>= λ rest. Ok (tree.IsNull e, rest)

-- texts between commas, up to the closing parenthesis
abbrev pub texts_of : List Token → Reading (List (List ℕ))
texts_of (token.Text t ∷ token.Mark mark.Close ∷ ts) = Ok (t ∷ [], ts)
texts_of (token.Text t ∷ token.Mark mark.Comma ∷ ts) = texts_of ts >>= λ x. Ok (t ∷ x.0, x.1)
texts_of (token.Text t ∷ ts) = Err (length ts)
texts_of ts = Err (length ts)

-- the one character of a text, or where that text stands
abbrev pub only_char : List ℕ → ℕ → Result ℕ ℕ
only_char (c ∷ []) left = Ok c
only_char cs left = Err left

-- [ ESCAPE text ], behind a pattern's text
abbrev pub escape_of : List Token → Reading (Option ℕ)
escape_of (token.Mark mark.Escape ∷ token.Text t ∷ ts) = only_char (chars t) (length (token.Text t ∷ ts)) >>= λ c. Ok (Some c, ts)
escape_of (token.Mark mark.Escape ∷ ts) = Err (length ts)
escape_of ts = Ok (None, ts)

-- another operand, where the operator joins the chain, and else the chain ends before it
abbrev pub chain_step : (Goal → List Token → Reading Expression) → Chain → Expression → List Token → Operator → List Token → Reading Expression
chain_step go chain e ts op more =
    if joins chain op then (go (Whole (operand_of chain)) more >>= λ x. go (Chain_after chain (tree.Binary op e x.0)) x.1) else Ok (e, ts)

-- the operator of a chain with which tokens begin, and what follows it
abbrev pub joint : Chain → List Token → Option (Operator × List Token)
joint chain ts = on_infix ts (λ op more. if joins chain op then Some (op, more) else None) None

-- NOT before a negation, or a condition
abbrev pub negation_step : (Goal → List Token → Reading Expression) → List Token → Mark → List Token → Reading Expression
negation_step go ts mark.Not more = go (Whole Negation) more >>= λ x. Ok (tree.Not x.0, x.1)
negation_step go ts m more = go (Whole Condition) ts

-- a comparison with another sum, or the condition ends before the operator
abbrev pub comparison_step : (Goal → List Token → Reading Expression) → Expression → List Token → Operator → List Token → Reading Expression
comparison_step go e ts op more =
    if is_comparison op then (go (Whole (Chained Sum)) more >>= λ x. Ok (tree.Binary op e x.0, x.1)) else Ok (e, ts)

-- what a mark behind the first sum of a condition begins, or the condition ends before it
abbrev pub condition_step : (Goal → List Token → Reading Expression) → Expression → List Token → Mark → List Token → Reading Expression
condition_step go e ts mark.Not more = go (Whole (Test e)) more >>= λ x. Ok (tree.Not x.0, x.1)
condition_step go e ts mark.Is more = null_test e more
condition_step go e ts mark.Between more = go (Whole (Test e)) ts
condition_step go e ts mark.In more = go (Whole (Test e)) ts
condition_step go e ts mark.Like more = go (Whole (Test e)) ts
condition_step go e ts m more = Ok (e, ts)

-- behind BETWEEN
abbrev pub between_step : (Goal → List Token → Reading Expression) → Expression → List Token → Reading Expression
between_step go e ts =
    go (Whole (Chained Sum)) ts >>= λ low. (after_and low.1 >>= λ rest. (go (Whole (Chained Sum)) rest >>= λ high. Ok (tree.Between e low.0 high.0, high.1)))

-- behind IN
abbrev pub in_step : Expression → List Token → Reading Expression
in_step e ts = after_open ts >>= λ rest. (texts_of rest >>= λ x. Ok (tree.In e x.0, x.1))

-- behind LIKE
abbrev pub like_step : Expression → List Token → Reading Expression
like_step e ts = on_text ts (λ p rest. escape_of rest >>= λ x. Ok (tree.Like e (pattern_of x.0 p), x.1)) (Err (length ts))

-- BETWEEN, IN or LIKE
abbrev pub test_step : (Goal → List Token → Reading Expression) → Expression → List Token → Mark → List Token → Reading Expression
test_step go e ts mark.Between more = between_step go e more
test_step go e ts mark.In more = in_step e more
test_step go e ts mark.Like more = like_step e more
test_step go e ts m more = Err (length ts)

-- a sign before a factor, or a primary
abbrev pub factor_step : (Goal → List Token → Reading Expression) → List Token → Operator → List Token → Reading Expression
factor_step go ts Add more = go (Whole Factor) more >>= λ x. Ok (tree.Signed Plus x.0, x.1)
factor_step go ts Subtract more = go (Whole Factor) more >>= λ x. Ok (tree.Signed Minus x.0, x.1)
factor_step go ts op more = go (Whole Primary) ts

-- behind an opening parenthesis
abbrev pub parenthesis_step : (Goal → List Token → Reading Expression) → List Token → Reading Expression
parenthesis_step go ts = go (Whole (Chained Disjunction)) ts >>= λ x. (after_close x.1 >>= λ rest. Ok (x.0, rest))

-- a primary that begins with a mark
abbrev pub mark_step : (Goal → List Token → Reading Expression) → List Token → Mark → List Token → Reading Expression
mark_step go ts mark.Open more = parenthesis_step go more
mark_step go ts mark.True more = Ok (tree.Truth true, more)
mark_step go ts mark.False more = Ok (tree.Truth false, more)
mark_step go ts m more = Err (length ts)

-- a primary
abbrev pub primary_step : (Goal → List Token → Reading Expression) → List Token → Reading Expression
primary_step go [] = Err 0
primary_step go (token.Infix op ∷ more) = Err (suc (length more))
primary_step go (token.Mark m ∷ more) = mark_step go (token.Mark m ∷ more) m more
primary_step go (token.Name t ∷ more) = Ok (tree.Property t, more)
primary_step go (token.Number z ∷ more) = Ok (tree.Number z, more)
primary_step go (token.Text t ∷ more) = Ok (tree.Text t, more)

-- one step of reading, where `go` reads what stands inside
unfoldable pub step : (Goal → List Token → Reading Expression) → Goal → List Token → Reading Expression
step go (Whole (Chained chain)) ts = go (Whole (operand_of chain)) ts >>= λ x. go (Chain_after chain x.0) x.1
step go (Chain_after chain e) ts = on_infix ts (chain_step go chain e ts) (Ok (e, ts))
step go (Whole Negation) ts = on_mark ts (negation_step go ts) (go (Whole Condition) ts)
step go (Whole Condition) ts = go (Whole (Chained Sum)) ts >>= λ x. go (Condition_after x.0) x.1
step go (Condition_after e) ts = on_infix ts (comparison_step go e ts) (on_mark ts (condition_step go e ts) (Ok (e, ts)))
step go (Whole (Test e)) ts = on_mark ts (test_step go e ts) (Err (length ts))
step go (Whole Factor) ts = on_infix ts (factor_step go ts) (go (Whole Primary) ts)
step go (Whole Primary) ts = primary_step go ts

-- at most so many steps, one inside another
unfoldable pub reads : ℕ → Goal → List Token → Reading Expression
reads zero goal ts = Err (length ts)
reads (suc n) goal ts = step (reads n) goal ts

-- what a function returned, seen by `view`, is what reading gives, unless there was no memory
abbrev pub Fails : {B : Type 0} → ParseError → Result B ℕ → Type 0
Fails (error.Stuck k) reading = reading ≡ Err k
Fails error.Memory reading = Unit {0}

-- the same of a value
abbrev pub Gives : {A B : Type 0} → (A → B) → Result A ParseError → Result B ℕ → Type 0
Gives view (Ok x) reading = reading ≡ Ok (view x)
Gives view (Err e) reading = Fails e reading
