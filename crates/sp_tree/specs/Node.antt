-- A node: its children by a subscription's level, and the endpoints whose subscriptions end there.
use Rattle.std.specs.Prelude.{◌≡◌, ◌≤◌, ◌-◌, ℕ, Bool, true, false, ◌&&◌, List, [], ◌∷◌, length, take, nat_eq, if◌then◌else◌, Option, Some}
use Rattle.std.specs.List.{ends_with}
use Rattle.sp_base.specs.Rows.{Roomy}
use Rattle.sp_tree.specs.Children.{child}
use Rattle.sp_tree.specs.declared.ending.Ending.{Ending}
use Rattle.sp_tree.specs.declared.node.Node.{Node}

-- a level that ends in `*`
abbrev pub is_prefix : List ℕ → Bool
is_prefix level = ends_with nat_eq level (42 ∷ [])

-- the child that a subscription's level leads to: one that ends in `*` by what stands before it, and
-- any other by its text
abbrev pub child_at : Node → List ℕ → Option ℕ
child_at node level =
    if is_prefix level then child node.by_prefix (take (length level - 1) level) else child node.by_text level

-- no child by a text has a level that ends in `*`
abbrev pub AreTexts : Node → Type 0
AreTexts node = (text : List ℕ) (place : ℕ) → child node.by_text text ≡ Some place → is_prefix text ≡ false

-- the endpoints whose subscriptions end at a node, those in `>` for more levels apart, and exceptions apart
abbrev pub endpoints_at : Node → Bool → Bool → Roomy ℕ
endpoints_at node false false = node.here.plain
endpoints_at node false true = node.here.exceptions
endpoints_at node true false = node.below.plain
endpoints_at node true true = node.below.exceptions

-- both truth values are the same
abbrev pub same : Bool → Bool → Bool
same true b = b
same false true = false
same false false = true

-- a subscription that ends so is in `>` or not, and an exception or not
abbrev pub is_at : Ending → Bool → Bool → Bool
is_at ending rest exception = same ending.rest rest && same ending.exception exception

-- the same endpoints, wherever their subscriptions end
abbrev pub HasSameEndpoints : Node → Node → Type 0
HasSameEndpoints old new =
    (rest exception : Bool) → (endpoints_at new rest exception).items ≡ (endpoints_at old rest exception).items

-- at least as much room for more endpoints
abbrev pub KeepsRoom : Node → Node → Type 0
KeepsRoom old new =
    (rest exception : Bool) → (endpoints_at old rest exception).room ≤ (endpoints_at new rest exception).room
