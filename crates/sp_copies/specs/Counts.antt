-- How many copies of an endpoint, or of all, have which fate.
use Rattle.std.specs.Prelude.{◌==◌, ℕ, Bool, true, false, ◌&&◌, not, List, [], ◌∷◌, Option, Some, None, filter, map, count_by, sum_by, nat_lt}
use Rattle.std.specs.List.{list_any}
use Rattle.sp_copies.specs.declared.made.MadeCopy.{MadeCopy}
use Rattle.sp_copies.specs.declared.closed.Cause.{Cause}
use Rattle.sp_copies.specs.declared.closed.Cause.TheVariants as causes
use Rattle.sp_copies.specs.declared.closed.CauseCount.{CauseCount}
use Rattle.sp_copies.specs.declared.closed.Closing.{Closing}
use Rattle.sp_copies.specs.declared.closed.Closing.TheVariants.{Accepted, Moved, Discarded}
use Rattle.sp_copies.specs.History.{History, is_closed, used_bytes}

-- whether a copy is of the endpoint, or of any where none is named
abbrev pub is_of : Option ℕ → MadeCopy → Bool
is_of None c = true
is_of (Some endpoint) c = c.endpoint == endpoint

abbrev pub is_accepted : Option Closing → Bool
is_accepted None = false
is_accepted (Some Accepted) = true
is_accepted (Some (Moved copy)) = false
is_accepted (Some (Discarded cause)) = false

abbrev pub is_moved : Option Closing → Bool
is_moved None = false
is_moved (Some Accepted) = false
is_moved (Some (Moved copy)) = true
is_moved (Some (Discarded cause)) = false

abbrev pub is_discarded : Option Closing → Bool
is_discarded None = false
is_discarded (Some Accepted) = false
is_discarded (Some (Moved copy)) = false
is_discarded (Some (Discarded cause)) = true

-- a cause's place in the order of the causes' names
abbrev pub cause_place : Cause → ℕ
cause_place causes.Deleted = 0
cause_place causes.DmqDisabled = 1
cause_place causes.DmqMissing = 2
cause_place causes.DmqQuota = 3
cause_place causes.DmqSelf = 4
cause_place causes.Expired = 5
cause_place causes.NotSpooled = 6
cause_place causes.RedeliveryExceeded = 7
cause_place causes.Rejected = 8
cause_place causes.TopicChanged = 9

-- all causes, in the order of their names
abbrev pub all_causes : List Cause
all_causes =
    causes.Deleted ∷ causes.DmqDisabled ∷ causes.DmqMissing ∷ causes.DmqQuota ∷ causes.DmqSelf ∷ causes.Expired ∷
    causes.NotSpooled ∷ causes.RedeliveryExceeded ∷ causes.Rejected ∷ causes.TopicChanged ∷ []

abbrev pub is_discarded_by : Cause → Option Closing → Bool
is_discarded_by cause None = false
is_discarded_by cause (Some Accepted) = false
is_discarded_by cause (Some (Moved copy)) = false
is_discarded_by cause (Some (Discarded told)) = cause_place told == cause_place cause

-- whether a copy was made in the endpoint, or in any where none is named
abbrev pub is_made_in : List MadeCopy → Option ℕ → ℕ → Bool
is_made_in made e copy = list_any (λ c. (c.number == copy) && is_of e c) made

-- how many copies were made
abbrev pub made_count : History → Option ℕ → ℕ
made_count H e = count_by (is_of e) H.made

-- how many of them are spooled
abbrev pub spooled_count : History → Option ℕ → ℕ
spooled_count H e = count_by (λ c. is_of e c && not (is_closed H.closed c.number)) H.made

-- how many closings of an endpoint's copies are such
abbrev pub closing_count : History → Option ℕ → (Closing → Bool) → ℕ
closing_count H e such = count_by (λ x. is_made_in H.made e x.copy && such x.how) H.closed

-- the causes that discarded copies, with how many each did, in the order of their names
abbrev pub causes_in : History → Option ℕ → List CauseCount
causes_in H e =
    filter (λ k. nat_lt 0 k.count)
    (map (λ cause. record { cause = cause; count = closing_count H e (λ how. is_discarded_by cause (Some how)) })
    all_causes)

-- the bytes that the spooled copies use
abbrev pub used_in : History → Option ℕ → ℕ
used_in H None = sum_by (λ c. c.size) (filter (λ c. not (is_closed H.closed c.number)) H.made)
used_in H (Some endpoint) = used_bytes H endpoint
