-- Which calls of a disk in memory are to fail. Calls are counted from 1.
use Rattle.std.specs.Prelude.{◌≡◌, ℕ, ◌+◌, ◌<◌, Bool, true, false, cond, List, length, get_or, nat_eq, nat_le, Option, Some, None}
use Rattle.std.specs.List.{list_any}
use Rattle.sp_disk.specs.declared.call.Taken.{Taken}

-- the disk stops at this call, or has stopped before it
abbrev pub has_stopped : Option ℕ → ℕ → Bool
has_stopped None number = false
has_stopped (Some stop) number = nat_le stop number

-- the call of this number is to fail: the disk has stopped, or the number is in the list
abbrev pub is_to_fail : List ℕ → Option ℕ → ℕ → Bool
is_to_fail failing stop number = cond (has_stopped stop number) true (list_any (λ n. nat_eq n number) failing)

-- each of these calls failed exactly where it was to fail
abbrev pub FailedByPlan : List ℕ → Option ℕ → List Taken → Type 0
FailedByPlan failing stop calls =
    (k : ℕ) (d : Taken) → k < length calls → (get_or calls k d).failed ≡ is_to_fail failing stop (k + 1)
