-- Which messages a selector takes.
use Rattle.std.specs.Prelude.{ℕ, Bool, true, false, List, Option, Some, None}
use Rattle.std.specs.Result.{result_err, result_ok}
use Rattle.sp_message.specs.declared.property.Property.{Property}
use Rattle.sp_selector.specs.Selector.{is_true, selector_in}
use Rattle.sp_selector.specs.Tree.{Expression}
use Rattle.sp_selector.specs.Values.{value}

-- the tree of a text that is a selector; by a law it is the one that the grammar derives the text's tokens from
unfoldable pub tree_in : List ℕ → Option Expression
tree_in text = result_ok (selector_in text)

-- where a text is bad that is no selector; by a law it is where the grammar says so
unfoldable pub selector_fault : List ℕ → Option ℕ
selector_fault text = result_err (selector_in text)

-- whether the value of a tree is TRUE for these properties
abbrev pub is_true_for : List Property → Option Expression → Bool
is_true_for properties (Some e) = is_true (value e properties)
is_true_for properties None = false

-- a selector takes a message with these properties where the value of its tree is TRUE
abbrev pub takes : List ℕ → List Property → Bool
takes text properties = is_true_for properties (tree_in text)

-- what passes: with a selector what it takes, and without one everything
abbrev pub passes : Option (List ℕ) → List Property → Bool
passes None properties = true
passes (Some text) properties = takes text properties
