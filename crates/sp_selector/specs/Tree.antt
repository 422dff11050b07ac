-- Trees of selectors.
use Rattle.std.specs.Prelude.{ℕ, ℤ, Bool, List}
use Rattle.sp_selector.specs.declared.tree.Operator.{Operator}
use Rattle.sp_pattern.specs.declared.item.PatternItem.{PatternItem}
use Rattle.sp_selector.specs.declared.tree.Sign.{Sign}
use Rattle.sp_selector.specs.declared.tree.Tree.{Tree}
use Rattle.sp_selector.specs.declared.tree.Tree.TheVariants as node

-- a tree without where it lies in memory; a number is in millionths
pub data Expression : Type 0 where
  Number : ℤ → Expression
  Text : List ℕ → Expression
  Truth : Bool → Expression
  Property : List ℕ → Expression
  Not : Expression → Expression
  Signed : Sign → Expression → Expression
  Binary : Operator → Expression → Expression → Expression
  Between : (operand low high : Expression) → Expression
  In : Expression → List (List ℕ) → Expression
  Like : Expression → List PatternItem → Expression
  IsNull : Expression → Expression

-- the tree, without where it lies in memory
abbrev pub expression : Tree → Expression
expression (node.Number z) = Number z
expression (node.Text text) = Text text
expression (node.Truth b) = Truth b
expression (node.Property name) = Property name
expression (node.Not' p t) = Not (expression t)
expression (node.Signed' sign p t) = Signed sign (expression t)
expression (node.Binary' op p t q u) = Binary op (expression t) (expression u)
expression (node.Between' p t q low r high) = Between (expression t) (expression low) (expression high)
expression (node.In' p t texts) = In (expression t) texts
expression (node.Like' p t pattern) = Like (expression t) pattern
expression (node.IsNull' p t) = IsNull (expression t)
