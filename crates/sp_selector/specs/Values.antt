-- The value of a tree for a message.
use Rattle.std.specs.Prelude.{◌==◌, ◌*◌, ◌-◌, ◌^◌, ℕ, ℤ, pos, ◌+ℤ◌, ◌-ℤ◌, ◌*ℤ◌, neg_ℤ, unsigned_abs, int_div, Bool, true, false, not, List, Option, Some, None, if◌then◌else◌, bytes_eq, nat_le}
use Rattle.std.specs.List.{list_any}
use Rattle.std.specs.declared.cmp.Ordering.{Ordering}
use Rattle.std.specs.Ordering.{int_cmp, int_eq, is_lt, is_le, is_gt, is_ge}
use Rattle.std.specs.Str.{chars}
use Rattle.sp_message.specs.declared.property.Property as declared
use Rattle.sp_message.specs.declared.value.Value.{Value}
use Rattle.sp_message.specs.declared.value.Value.TheVariants as kind
use Rattle.sp_message.specs.Property.{value_under}
use Rattle.sp_selector.specs.declared.tree.Operator.{Operator}
use Rattle.sp_selector.specs.declared.tree.Operator.TheVariants.{Or, And, Equal, NotEqual, Less, AtMost, Greater, AtLeast, Add, Subtract, Multiply, Divide}
use Rattle.sp_pattern.specs.Pattern.{matches}
use Rattle.sp_selector.specs.declared.tree.Sign.{Sign}
use Rattle.sp_selector.specs.declared.tree.Sign.TheVariants.{Plus, Minus}
use Rattle.sp_selector.specs.declared.datum.Datum.{Datum}
use Rattle.sp_selector.specs.declared.datum.Datum.TheVariants.{Null, Truth, Number, Text}
use Rattle.sp_selector.specs.Tree.{Expression}
use Rattle.sp_selector.specs.Tree as tree

-- the number of millionths, or NULL where its magnitude exceeds (2^63 - 1) million
abbrev pub bounded : ℤ → Datum
bounded z = if nat_le (unsigned_abs z) ((2 ^ 63 - 1) * 1000000) then Number z else Null

-- arithmetic on two numbers of millionths, exact and then cut toward zero
abbrev pub product : ℤ → ℤ → Datum
product x y = bounded (int_div (x *ℤ y) (pos 1000000))

-- no quotient by zero
abbrev pub quotient : ℤ → ℤ → Datum
quotient x y = if unsigned_abs y == 0 then Null else bounded (int_div (x *ℤ pos 1000000) y)

-- a number or a text is neither TRUE nor FALSE
abbrev pub truth_of : Datum → Option Bool
truth_of Null = None
truth_of (Truth b) = Some b
truth_of (Number z) = None
truth_of (Text text) = None

-- a truth value as a value
abbrev pub of_truth : Option Bool → Datum
of_truth None = Null
of_truth (Some b) = Truth b

-- AND, OR and NOT of three truth values
abbrev pub and_of : Option Bool → Option Bool → Option Bool
and_of (Some false) b = Some false
and_of (Some true) b = b
and_of None (Some false) = Some false
and_of None (Some true) = None
and_of None None = None

-- TRUE where a side is
abbrev pub or_of : Option Bool → Option Bool → Option Bool
or_of (Some true) b = Some true
or_of (Some false) b = b
or_of None (Some true) = Some true
or_of None (Some false) = None
or_of None None = None

-- UNKNOWN stays
abbrev pub not_of : Option Bool → Option Bool
not_of (Some b) = Some (not b)
not_of None = None

-- whether an order of two numbers is what a comparison asks for
abbrev pub ordered : Operator → Ordering → Bool
ordered Less o = is_lt o
ordered AtMost o = is_le o
ordered Greater o = is_gt o
ordered AtLeast o = is_ge o
ordered op o = false

-- whether two texts or two truth values that are equal or not are what a comparison asks for: they have no order
abbrev pub alike : Operator → Bool → Bool
alike Equal same = same
alike NotEqual same = not same
alike op same = false

-- both are TRUE or both FALSE
abbrev pub same_truth : Bool → Bool → Bool
same_truth true b = b
same_truth false b = not b

-- two numbers
abbrev pub numbers_compared : Operator → ℤ → ℤ → Bool
numbers_compared Equal x y = int_eq x y
numbers_compared NotEqual x y = not (int_eq x y)
numbers_compared op x y = ordered op (int_cmp x y)

-- a comparison: UNKNOWN with NULL on either side, FALSE for unlike kinds
abbrev pub compared : Operator → Datum → Datum → Option Bool
compared op Null d = None
compared op (Truth a) Null = None
compared op (Truth a) (Truth b) = Some (alike op (same_truth a b))
compared op (Truth a) (Number y) = Some false
compared op (Truth a) (Text u) = Some false
compared op (Number x) Null = None
compared op (Number x) (Truth b) = Some false
compared op (Number x) (Number y) = Some (numbers_compared op x y)
compared op (Number x) (Text u) = Some false
compared op (Text t) Null = None
compared op (Text t) (Truth b) = Some false
compared op (Text t) (Number y) = Some false
compared op (Text t) (Text u) = Some (alike op (bytes_eq t u))

-- an operator on two numbers
abbrev pub arithmetic : Operator → ℤ → ℤ → Datum
arithmetic Add x y = bounded (x +ℤ y)
arithmetic Subtract x y = bounded (x -ℤ y)
arithmetic Multiply x y = product x y
arithmetic Divide x y = quotient x y
arithmetic op x y = Null

-- arithmetic: NULL with NULL or another kind than numbers
abbrev pub computed : Operator → Datum → Datum → Datum
computed op (Number x) (Number y) = arithmetic op x y
computed op a b = Null

-- the value of two operands with an operator between them
abbrev pub applied : Operator → Datum → Datum → Datum
applied Or a b = of_truth (or_of (truth_of a) (truth_of b))
applied And a b = of_truth (and_of (truth_of a) (truth_of b))
applied Add a b = computed Add a b
applied Subtract a b = computed Subtract a b
applied Multiply a b = computed Multiply a b
applied Divide a b = computed Divide a b
applied op a b = of_truth (compared op a b)

-- the value of a factor with its sign
abbrev pub signed : Sign → Datum → Datum
signed Plus (Number z) = Number z
signed Minus (Number z) = Number (neg_ℤ z)
signed sign d = Null

-- a test of a text: UNKNOWN for NULL, FALSE for another kind than text
abbrev pub of_text : (List ℕ → Bool) → Datum → Option Bool
of_text test Null = None
of_text test (Truth b) = Some false
of_text test (Number z) = Some false
of_text test (Text text) = Some (test text)

-- the value is NULL
abbrev pub is_null : Datum → Bool
is_null Null = true
is_null d = false

-- a property's value, or NULL without one
abbrev pub of_value : Option Value → Datum
of_value None = Null
of_value (Some (kind.Whole n)) = bounded (n *ℤ pos 1000000)
of_value (Some (kind.Fixed z)) = Number z
of_value (Some (kind.Text text)) = Text text
of_value (Some (kind.Bool b)) = Truth b

-- the value of a tree for the properties of a message
abbrev pub value : Expression → List declared.Property → Datum
value (tree.Number z) ps = Number z
value (tree.Text text) ps = Text text
value (tree.Truth b) ps = Truth b
value (tree.Property name) ps = of_value (value_under name ps)
value (tree.Not e) ps = of_truth (not_of (truth_of (value e ps)))
value (tree.Signed sign e) ps = signed sign (value e ps)
value (tree.Binary op e f) ps = applied op (value e ps) (value f ps)
value (tree.Between e low high) ps =
    of_truth (and_of (compared AtLeast (value e ps) (value low ps)) (compared AtMost (value e ps) (value high ps)))
value (tree.In e texts) ps = of_truth (of_text (λ t. list_any (λ u. bytes_eq u t) texts) (value e ps))
value (tree.Like e pattern) ps = of_truth (of_text (λ t. matches pattern (chars t)) (value e ps))
value (tree.IsNull e) ps = Truth (is_null (value e ps))
