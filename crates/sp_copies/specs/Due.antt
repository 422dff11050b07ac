-- Which copies are to expire: those whose deadline has come, the earliest first.
use Rattle.std.specs.Prelude.{◌==◌, ℕ, Bool, not, ◌&&◌, ◌||◌, List, [], ◌∷◌, Option, filter, fold, option_map, slice_get, unwrap_or, nat_lt, if◌then◌else◌}
use Rattle.sp_copies.specs.declared.made.MadeCopy.{MadeCopy}
use Rattle.sp_copies.specs.History.{History, has_come, is_closed, is_held}

-- a copy is due where it is spooled, no flow holds it, and its deadline has come
abbrev pub is_due : History → ℕ → MadeCopy → Bool
is_due H moment c = not (is_closed H.closed c.number) && not (is_held H.held c.number) && has_come c.deadline moment

-- the moment at which a copy's deadline comes
abbrev pub deadline_of : MadeCopy → ℕ
deadline_of c = unwrap_or c.deadline 0

-- the order of (deadline, number)
abbrev pub is_earlier : MadeCopy → MadeCopy → Bool
is_earlier c d =
    nat_lt (deadline_of c) (deadline_of d) || ((deadline_of c == deadline_of d) && nat_lt c.number d.number)

-- a copy in its place among others that stand in that order
abbrev pub placed : MadeCopy → List MadeCopy → List MadeCopy
placed c [] = c ∷ []
placed c (d ∷ ds) = if is_earlier c d then c ∷ d ∷ ds else d ∷ placed c ds

-- copies in that order
abbrev pub by_deadline : List MadeCopy → List MadeCopy
by_deadline copies = fold (λ before c. placed c before) [] copies

-- the copies that are due, in that order
abbrev pub due_copies : History → ℕ → List MadeCopy
due_copies H moment = by_deadline (filter (is_due H moment) H.made)

-- the number of the first copy that is due, where one is
abbrev pub first_due : History → ℕ → Option ℕ
first_due H moment = option_map (λ c. c.number) (slice_get (due_copies H moment) 0)
