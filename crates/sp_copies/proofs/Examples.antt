-- Worked examples, by computation alone: the definitions say what they are to say.
use Rattle.std.proofs.Common.{◌≡◌, List, ◌∷◌, length, refl, Some, None, cond, ap}
use Rattle.std.proofs.lemmas.Bool.{eq-eqb}
use Rattle.sp_copies.specs.declared.made.NewCopy.{NewCopy}
use Rattle.sp_copies.specs.declared.made.Origin.TheVariants.{Published}
use Rattle.sp_copies.specs.declared.closed.ClosedCopy.{ClosedCopy}
use Rattle.sp_copies.specs.declared.closed.Closing.{Closing}
use Rattle.sp_copies.specs.declared.closed.Closing.TheVariants as closings
use Rattle.sp_copies.specs.declared.closed.Fate.TheVariants as fates
use Rattle.sp_copies.specs.History.{History, empty_history, with_made, with_held, with_given_back, with_closed, fate_of, attempts_of, holder_in, next_spooled, used_bytes, closed_after, closed_as, told_closing}

-- a closing is told while 999,999 others have come after it, and not once 1,000,000 have
pub first_closing : (x : ClosedCopy) (later : List ClosedCopy) → closed_after (x ∷ later) x.copy ≡ length later
first_closing x later = ap (λ b. cond b (length later) (closed_after later x.copy)) (eq-eqb x.copy x.copy refl)

pub told_yet : (how : Closing) → told_closing 999999 (Some how) ≡ closed_as how
told_yet how = refl

pub told_no_more : (how : Closing) → told_closing 1000000 (Some how) ≡ fates.Earlier
told_no_more how = refl

abbrev copy_of_64 : NewCopy
copy_of_64 = record { endpoint = 1; message = 1; size = 64; origin = Published; deadline = None; partition = 0 }

-- two copies of 64 bytes in endpoint 1, of which flow 7 gave the first back and flow 8 holds it
abbrev held_again : History
held_again = with_held 1 8 (with_given_back 1 (with_held 1 7 (with_made copy_of_64 (with_made copy_of_64 (empty_history 1)))))

pub held_is_spooled : fate_of held_again 1 ≡ fates.Spooled
held_is_spooled = refl

pub handed_out_twice : attempts_of held_again.attempts 1 ≡ 2
handed_out_twice = refl

pub held_by_eight : holder_in held_again 1 0 ≡ Some 8
held_by_eight = refl

pub held_uses_bytes : used_bytes held_again 1 ≡ 128
held_uses_bytes = refl

-- the same, after flow 8 accepted it
abbrev accepted : History
accepted = with_closed 1 closings.Accepted 0 held_again

pub first_accepted : fate_of accepted 1 ≡ fates.Accepted
first_accepted = refl

pub held_no_more : holder_in accepted 1 0 ≡ None
held_no_more = refl

pub one_is_left : next_spooled accepted 1 0 ≡ Some 2
one_is_left = refl

pub one_uses_bytes : used_bytes accepted 1 ≡ 64
one_uses_bytes = refl

pub third_never_made : fate_of accepted 3 ≡ fates.Never
third_never_made = refl
