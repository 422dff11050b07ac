-- Deadlines by place, and which of them is the first.
use Rattle.std.specs.Prelude.{◌≡◌, ◌==◌, ℕ, Bool, false, List, Option, Some, None, nat_lt, slice_index_or, if◌then◌else◌}
use Rattle.sp_chain.specs.declared.deadline.Deadline.{Deadline}

-- the order of moments, and at one moment of numbers
abbrev pub is_before : Deadline → Deadline → Bool
is_before a b = if a.moment == b.moment then nat_lt a.number b.number else nat_lt a.moment b.moment

-- the one that stands before the other in that order, where both are there
abbrev pub earlier : Option Deadline → Option Deadline → Option Deadline
earlier None b = b
earlier (Some a) None = Some a
earlier (Some a) (Some b) = if is_before b a then Some b else Some a

-- the deadline at a place, where one is
abbrev pub at : List (Option Deadline) → ℕ → Option Deadline
at deadlines place = slice_index_or deadlines place None

-- some place has this deadline
abbrev pub Has : List (Option Deadline) → Deadline → Type 0
Has deadlines d = (place : ℕ) × (at deadlines place ≡ Some d)

-- it is that of some place and no other stands before it, or no place has one
abbrev pub IsFirst : List (Option Deadline) → Option Deadline → Type 0
IsFirst deadlines None = (place : ℕ) → at deadlines place ≡ None
IsFirst deadlines (Some d) = Has deadlines d × ((e : Deadline) → Has deadlines e → is_before e d ≡ false)
