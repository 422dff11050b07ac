-- The grammar of selectors, as a relation between tokens and trees.
use Rattle.std.specs.Prelude.{◌≡◌, ℕ, ℤ, Bool, true, false, List, [], ◌∷◌, Some, None}
use Rattle.sp_selector.specs.declared.token.Mark.TheVariants as mark
use Rattle.sp_selector.specs.declared.token.Token.{Token}
use Rattle.sp_selector.specs.declared.token.Token.TheVariants as token
use Rattle.sp_selector.specs.declared.tree.Operator.{Operator}
use Rattle.sp_selector.specs.declared.tree.Operator.TheVariants.{Or, And, Equal, NotEqual, Less, AtMost}
use Rattle.sp_selector.specs.declared.tree.Operator.TheVariants.{Greater, AtLeast, Add, Subtract, Multiply, Divide}
use Rattle.std.specs.Str.{chars}
use Rattle.sp_pattern.specs.Pattern.{pattern_of}
use Rattle.sp_selector.specs.declared.tree.Sign.TheVariants.{Plus, Minus}
use Rattle.sp_selector.specs.declared.parse.Chain.{Chain}
use Rattle.sp_selector.specs.declared.parse.Chain.TheVariants.{Disjunction, Conjunction, Sum, Product}
use Rattle.sp_selector.specs.Tree.{Expression}
use Rattle.sp_selector.specs.Tree as tree

-- the levels of the grammar; a test is what follows the operand of BETWEEN, IN or LIKE
pub data Level : Type 0 where
  Chained : Chain → Level
  Negation : Level
  Condition : Level
  Test : Expression → Level
  Factor : Level
  Primary : Level

-- what the operands of a chain are
abbrev pub operand_of : Chain → Level
operand_of Disjunction = Chained Conjunction
operand_of Conjunction = Negation
operand_of Sum = Chained Product
operand_of Product = Factor

-- which operators stand between the operands of a chain
abbrev pub joins : Chain → Operator → Bool
joins Disjunction Or = true
joins Conjunction And = true
joins Sum Add = true
joins Sum Subtract = true
joins Product Multiply = true
joins Product Divide = true
joins chain op = false

-- = <> < <= > >=
abbrev pub is_comparison : Operator → Bool
is_comparison Equal = true
is_comparison NotEqual = true
is_comparison Less = true
is_comparison AtMost = true
is_comparison Greater = true
is_comparison AtLeast = true
is_comparison op = false

-- texts between commas, up to the closing parenthesis
pub data Texts : List Token → List (List ℕ) → List Token → Type 0 where
  last : {t : List ℕ} {rest : List Token} → Texts (token.Text t ∷ token.Mark mark.Close ∷ rest) (t ∷ []) rest
  more : {t : List ℕ} {ts rest : List Token} {texts : List (List ℕ)} → Texts ts texts rest
      → Texts (token.Text t ∷ token.Mark mark.Comma ∷ ts) (t ∷ texts) rest

-- tokens of a level are those of a tree, and then a rest
pub data Derives : Level → List Token → Expression → List Token → Type 0 where
  -- or = and { OR and }, and = not { AND not },
  -- sum = product { ( + | - ) product }, product = unary { ( * | / ) unary }
  one : {chain : Chain} {ts rest : List Token} {e : Expression} → Derives (operand_of chain) ts e rest
      → Derives (Chained chain) ts e rest
  another : {chain : Chain} {op : Operator} {ts more rest : List Token} {e f : Expression} → joins chain op ≡ true
      → Derives (Chained chain) ts e (token.Infix op ∷ more) → Derives (operand_of chain) more f rest
      → Derives (Chained chain) ts (tree.Binary op e f) rest
  -- not = { NOT } condition
  negated : {ts rest : List Token} {e : Expression} → Derives Negation ts e rest
      → Derives Negation (token.Mark mark.Not ∷ ts) (tree.Not e) rest
  condition : {ts rest : List Token} {e : Expression} → Derives Condition ts e rest → Derives Negation ts e rest
  -- condition = sum [ comparison sum | [NOT] test | IS [NOT] NULL ]
  sum : {ts rest : List Token} {e : Expression} → Derives (Chained Sum) ts e rest → Derives Condition ts e rest
  compares : {op : Operator} {ts more rest : List Token} {e f : Expression} → is_comparison op ≡ true
      → Derives (Chained Sum) ts e (token.Infix op ∷ more) → Derives (Chained Sum) more f rest
      → Derives Condition ts (tree.Binary op e f) rest
  tested : {ts more rest : List Token} {e c : Expression} → Derives (Chained Sum) ts e more
      → Derives (Test e) more c rest → Derives Condition ts c rest
  not_tested : {ts more rest : List Token} {e c : Expression}
      → Derives (Chained Sum) ts e (token.Mark mark.Not ∷ more) → Derives (Test e) more c rest
      → Derives Condition ts (tree.Not c) rest
  is_null : {ts rest : List Token} {e : Expression}
      → Derives (Chained Sum) ts e (token.Mark mark.Is ∷ token.Mark mark.Null ∷ rest)
      → Derives Condition ts (tree.IsNull e) rest
  is_not_null : {ts rest : List Token} {e : Expression}
      → Derives (Chained Sum) ts e (token.Mark mark.Is ∷ token.Mark mark.Not ∷ token.Mark mark.Null ∷ rest)
      → Derives Condition ts (tree.Not (tree.IsNull e)) rest
  -- test = BETWEEN sum AND sum | IN ( text { , text } ) | LIKE text [ ESCAPE text ]
  between : {ts more rest : List Token} {e low high : Expression}
      → Derives (Chained Sum) ts low (token.Infix And ∷ more) → Derives (Chained Sum) more high rest
      → Derives (Test e) (token.Mark mark.Between ∷ ts) (tree.Between e low high) rest
  among : {ts rest : List Token} {e : Expression} {texts : List (List ℕ)} → Texts ts texts rest
      → Derives (Test e) (token.Mark mark.In ∷ token.Mark mark.Open ∷ ts) (tree.In e texts) rest
  like : {rest : List Token} {e : Expression} {p : List ℕ}
      → Derives (Test e) (token.Mark mark.Like ∷ token.Text p ∷ rest) (tree.Like e (pattern_of None p)) rest
  like_escape : {rest : List Token} {e : Expression} {p t : List ℕ} {c : ℕ} → chars t ≡ c ∷ []
      → Derives (Test e) (token.Mark mark.Like ∷ token.Text p ∷ token.Mark mark.Escape ∷ token.Text t ∷ rest)
      (tree.Like e (pattern_of (Some c) p)) rest
  -- unary = { + | - } primary
  plus : {ts rest : List Token} {e : Expression} → Derives Factor ts e rest
      → Derives Factor (token.Infix Add ∷ ts) (tree.Signed Plus e) rest
  minus : {ts rest : List Token} {e : Expression} → Derives Factor ts e rest
      → Derives Factor (token.Infix Subtract ∷ ts) (tree.Signed Minus e) rest
  primary : {ts rest : List Token} {e : Expression} → Derives Primary ts e rest → Derives Factor ts e rest
  -- primary = number | text | TRUE | FALSE | identifier | ( or )
  number : {z : ℤ} {rest : List Token} → Derives Primary (token.Number z ∷ rest) (tree.Number z) rest
  text : {t : List ℕ} {rest : List Token} → Derives Primary (token.Text t ∷ rest) (tree.Text t) rest
  yes : {rest : List Token} → Derives Primary (token.Mark mark.True ∷ rest) (tree.Truth true) rest
  no : {rest : List Token} → Derives Primary (token.Mark mark.False ∷ rest) (tree.Truth false) rest
  name : {t : List ℕ} {rest : List Token} → Derives Primary (token.Name t ∷ rest) (tree.Property t) rest
  parenthesis : {ts rest : List Token} {e : Expression}
      → Derives (Chained Disjunction) ts e (token.Mark mark.Close ∷ rest)
      → Derives Primary (token.Mark mark.Open ∷ ts) e rest
