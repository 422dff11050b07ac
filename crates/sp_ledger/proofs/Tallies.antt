-- In every tally of a sound ledger made is spooled, accepted, moved and discarded, and discarded is what the
-- causes did.
use Rattle.sp_copies.proofs.Counting.{count-none}
use Rattle.sp_copies.proofs.Marks.{eqb-turned}
use Rattle.sp_copies.specs.Counts.{all_causes, is_accepted, is_discarded, is_discarded_by, is_moved, is_of}
use Rattle.sp_copies.specs.History.{History, closed_after, closed_as, closing_of, closings_of, fate_of, is_closed}
use Rattle.sp_copies.specs.History.{is_made, told_closing}
use Rattle.sp_copies.specs.declared.closed.Cause.{Cause}
use Rattle.sp_copies.specs.declared.closed.Cause.TheVariants as causes
use Rattle.sp_copies.specs.declared.closed.CauseCount.{CauseCount}
use Rattle.sp_copies.specs.declared.closed.ClosedCopy.{ClosedCopy}
use Rattle.sp_copies.specs.declared.closed.Closing.{Closing}
use Rattle.sp_copies.specs.declared.closed.Closing.TheVariants.{Accepted, Moved, Discarded}
use Rattle.sp_copies.specs.declared.closed.Fate.TheVariants as fates
use Rattle.sp_copies.specs.declared.made.MadeCopy.{MadeCopy}
use Rattle.sp_ledger.proofs.Listed.{lesser_is_not, pairs_head, pairs_tail}
use Rattle.sp_ledger.specs.Ledger.{Ledger}
use Rattle.sp_ledger.specs.Sound.{IsSound}
use Rattle.sp_ledger.specs.Tally.{IsBalanced, closing_count, is_made_in, tally_in}
use Rattle.sp_ledger.specs.Told.{FateHolds, fate_in}
use Rattle.std.proofs.Common.{ap, arith, get_or, refl, subst, sym, ◌∙◌}
use Rattle.std.proofs.lemmas.Bool.{eq-eqb, eqb-true, ltb-false}
use Rattle.std.proofs.lemmas.List.Elements.{All-weaker}
use Rattle.std.proofs.lemmas.List.Folds.{list_any_none}
use Rattle.std.proofs.lemmas.List.Sums.{sum_by-cons}
use Rattle.std.specs.List.{list_any}
use Rattle.std.specs.Prelude.{AllPairs, Bool, List, None, Option, Some, [], cond, count_by, false, filter, find}
use Rattle.std.specs.Prelude.{is_some, length, map, nat_le, nat_lt, not, option_map, sum_by, true, ℕ, ◌&&◌, ◌+◌, ◌<◌}
use Rattle.std.specs.Prelude.{◌==◌, ◌||◌, ◌∷◌, ◌≡◌, ◌≤◌}

-- a copy is closed where it has a closing
pub closed-closing : (closed : List ClosedCopy) (copy : ℕ) → is_closed closed copy ≡ is_some (closing_of closed copy)
closed-closing [] copy = refl
closed-closing (x ∷ xs) copy = one (closed-closing xs copy) (x.copy == copy)
  where
    one : is_closed xs copy ≡ is_some (closing_of xs copy) → (b : Bool) →
        (b || is_closed xs copy) ≡ is_some
        (option_map (λ (y : ClosedCopy). y.how) (cond b (Some x) (find (λ y. y.copy == copy) xs)))
    one rest true = refl
    one rest false = rest

abbrev one_of : Bool → ℕ
one_of b = cond b 1 0

count-cons : {X : Type 0} (p : X → Bool) (x : X) (xs : List X) → count_by p (x ∷ xs) ≡ one_of (p x) + count_by p xs
count-cons {X} p x xs = sum_by-cons {X = X} (λ y. one_of (p y)) x xs

-- what is found of a number that stands once is counted once
counts_one : (e : Option ℕ) (copy : ℕ) (made : List MadeCopy) →
    AllPairs (λ (a b : MadeCopy). a.number < b.number) made →
    count_by (λ c. is_of e c && (copy == c.number)) made ≡ one_of (is_made_in made e copy)
counts_one e copy [] rise = refl
counts_one e copy (c ∷ cs) rise =
    one (c.number == copy) refl (counts_one e copy cs (pairs_tail (λ (a b : MadeCopy). a.number < b.number) c cs rise))
  where
    head : count_by (λ d. is_of e d && (copy == d.number)) (c ∷ cs) ≡ one_of
        (is_of e c && (c.number == copy)) + count_by (λ d. is_of e d && (copy == d.number)) cs
    head = count-cons {X = MadeCopy} (λ d. is_of e d && (copy == d.number)) c cs ∙ ap
        (λ b. one_of (is_of e c && b) + count_by (λ (d : MadeCopy). is_of e d && (copy == d.number)) cs)
        (eqb-turned copy c.number)

    none_later : (c.number == copy) ≡ true → list_any (λ (d : MadeCopy). (d.number == copy) && is_of e d) cs ≡ false
    none_later is =
        list_any_none {X = MadeCopy} (λ d. (d.number == copy) && is_of e d) cs
        (All-weaker (λ (d : MadeCopy). c.number < d.number)
        (λ (d : MadeCopy). ((d.number == copy) && is_of e d) ≡ false)
        (λ d lt. let same : c.number ≡ copy = eqb-true _ _ is in
        ap (λ b. b && is_of e d)
        (eqb-turned d.number copy ∙ lesser_is_not copy d.number (subst (λ n. n < d.number) same lt))) cs
        (pairs_head (λ (a b : MadeCopy). a.number < b.number) c cs rise))

    one : (same : Bool) → (c.number == copy) ≡ same →
        count_by (λ d. is_of e d && (copy == d.number)) cs ≡ one_of (is_made_in cs e copy) →
        count_by (λ d. is_of e d && (copy == d.number)) (c ∷ cs) ≡ one_of (is_made_in (c ∷ cs) e copy)
    one true is later =
        let rest : one_of (is_made_in cs e copy) ≡ 0 = ap one_of (none_later is) in
        first (ends (ap (λ b. one_of (is_of e c && b)) is) (later ∙ rest)) (none_later is) is
      where
        turned : (b : Bool) → one_of (b && true) ≡ one_of (b || false)
        turned true = refl
        turned false = refl

        ends : one_of (is_of e c && (c.number == copy)) ≡ one_of (is_of e c && true) →
            count_by (λ d. is_of e d && (copy == d.number)) cs ≡ 0 →
            count_by (λ d. is_of e d && (copy == d.number)) (c ∷ cs) ≡ one_of (is_of e c && true)
        ends a b = omega (arith, head, a, b)

        first : count_by (λ d. is_of e d && (copy == d.number)) (c ∷ cs) ≡ one_of (is_of e c && true) →
            list_any (λ (d : MadeCopy). (d.number == copy) && is_of e d) cs ≡ false → (c.number == copy) ≡ true →
            count_by (λ d. is_of e d && (copy == d.number)) (c ∷ cs) ≡ one_of (is_made_in (c ∷ cs) e copy)
        first h none here = h
            ∙ (turned (is_of e c) ∙ ap one_of
            (sym (ap (λ b. (b && is_of e c) || list_any (λ (d : MadeCopy). (d.number == copy) && is_of e d) cs)
            here ∙ ap (λ b. is_of e c || b) none)))
    one false is later = let none :
        one_of (is_of e c && (c.number == copy)) ≡ 0 = ap (λ b. one_of (is_of e c && b)) is ∙ never (is_of e c) in
        step_on none ∙ ap (λ b. one_of
        ((b && is_of e c) || list_any (λ (d : MadeCopy). (d.number == copy) && is_of e d) cs)) (sym is)
      where
        never : (b : Bool) → one_of (b && false) ≡ 0
        never true = refl
        never false = refl

        step_on : one_of (is_of e c && (c.number == copy)) ≡ 0 →
            count_by (λ d. is_of e d && (copy == d.number)) (c ∷ cs) ≡ one_of (is_made_in cs e copy)
        step_on a = omega (arith, head, a, later)

-- made copies are spooled or closed
split_made : (closed : List ClosedCopy) (e : Option ℕ) (made : List MadeCopy) →
    count_by (is_of e) made ≡ count_by (λ c. is_of e c && not (is_closed closed c.number)) made + count_by
    (λ c. is_of e c && is_closed closed c.number) made
split_made closed e [] = refl
split_made closed e (c ∷ cs) =
    let all = count-cons {X = MadeCopy} (is_of e) c cs in
    let open_ones = count-cons {X = MadeCopy} (λ x. is_of e x && not (is_closed closed x.number)) c cs in
    let shut_ones = count-cons {X = MadeCopy} (λ x. is_of e x && is_closed closed x.number) c cs in
    omega (arith, all, open_ones, shut_ones, one (is_of e c) (is_closed closed c.number), split_made closed e cs)
  where
    one : (of shut : Bool) → one_of of ≡ one_of (of && not shut) + one_of (of && shut)
    one true true = refl
    one true false = refl
    one false shut = refl

-- one closing more closes the copy that it names
one_more : (e : Option ℕ) (x : ClosedCopy) (xs : List ClosedCopy) → is_closed xs x.copy ≡ false →
    (made : List MadeCopy) →
    count_by (λ c. is_of e c && is_closed (x ∷ xs) c.number) made ≡ count_by
    (λ c. is_of e c && (x.copy == c.number)) made + count_by (λ c. is_of e c && is_closed xs c.number) made
one_more e x xs new [] = refl
one_more e x xs new (c ∷ cs) =
    let after = count-cons {X = MadeCopy} (λ d. is_of e d && is_closed (x ∷ xs) d.number) c cs in
    let here = count-cons {X = MadeCopy} (λ d. is_of e d && (x.copy == d.number)) c cs in
    let before = count-cons {X = MadeCopy} (λ d. is_of e d && is_closed xs d.number) c cs in
    omega (arith, after, here, before, one (is_of e c) (x.copy == c.number) refl, one_more e x xs new cs)
  where
    one : (of same : Bool) → (x.copy == c.number) ≡ same →
        one_of (of && (same || is_closed xs c.number)) ≡ one_of (of && same) + one_of (of && is_closed xs c.number)
    one false same is = refl
    one true true is = let none :
        is_closed xs c.number ≡ false = subst (λ n. is_closed xs n ≡ false) (eqb-true _ _ is) new in let zero_more :
        one_of (is_closed xs c.number) ≡ 0 = ap one_of none in omega (arith, zero_more)
    one true false is = omega arith

-- no closing of a copy stands twice
module _ (made : List MadeCopy) (e : Option ℕ) (rise : AllPairs (λ (a b : MadeCopy). a.number < b.number) made) where
  closings-cons : (copy : ℕ) (x : ClosedCopy) (xs : List ClosedCopy) →
      length (closings_of (x ∷ xs) copy) ≡ one_of (x.copy == copy) + length (closings_of xs copy)
  closings-cons copy x xs = one (x.copy == copy)
    where
      one : (b : Bool) → length (cond b (x ∷ closings_of xs copy) (closings_of xs copy)) ≡ one_of b + length
          (closings_of xs copy)
      one true = omega arith
      one false = omega arith

  none_open : (copy : ℕ) (xs : List ClosedCopy) → length (closings_of xs copy) ≡ 0 → is_closed xs copy ≡ false
  none_open copy [] h = refl
  none_open copy (x ∷ xs) h = one (x.copy == copy) refl (none_open copy xs)
    where
      one : (b : Bool) → (x.copy == copy) ≡ b → (length (closings_of xs copy) ≡ 0 → is_closed xs copy ≡ false) →
          is_closed (x ∷ xs) copy ≡ false
      one true is later = absurd
          (let more = closings-cons copy x xs in let here : one_of (x.copy == copy) ≡ 1 = ap one_of is in
          omega (arith, more, here, h))
      one false is later =
          ap (λ b. b || is_closed xs copy) is ∙ later (let more = closings-cons copy x xs in omega (arith, more, h))

  -- closed copies are counted by their closings
  closed_counted : (closed : List ClosedCopy) → ((copy : ℕ) → length (closings_of closed copy) ≤ 1) →
      count_by (λ c. is_of e c && is_closed closed c.number) made ≡ count_by (λ x. is_made_in made e x.copy) closed
  closed_counted [] once = none made
    where
      none : (cs : List MadeCopy) → count_by (λ c. is_of e c && false) cs ≡ 0
      none cs = count-none {X = MadeCopy} (λ c. is_of e c && false) cs
          (list_any_none {X = MadeCopy} (λ c. is_of e c && false) cs (λ k d lt. never (is_of e (get_or cs k d))))
        where
          never : (b : Bool) → (b && false) ≡ false
          never true = refl
          never false = refl
  closed_counted (x ∷ xs) once =
      let more = closings-cons x.copy x xs in
      let here : one_of (x.copy == x.copy) ≡ 1 = ap one_of (eq-eqb x.copy x.copy refl) in
      let most = once x.copy in
      let new : is_closed xs x.copy ≡ false = none_open x.copy xs (omega (arith, more, here, most)) in
      let rest = closed_counted xs
      (λ copy. let few = once copy in let one = closings-cons copy x xs in omega (arith, few, one)) in
      let after = one_more e x xs new made in
      let counts = counts_one e x.copy made rise in
      let cons = count-cons {X = ClosedCopy} (λ y. is_made_in made e y.copy) x xs in
      omega (arith, rest, after, counts, cons)

-- a closing accepts, moves or discards
kinds_of_closing : (made : List MadeCopy) (e : Option ℕ) (closed : List ClosedCopy) →
    count_by (λ x. is_made_in made e x.copy) closed
    ≡ count_by (λ x. is_made_in made e x.copy && is_accepted (Some x.how)) closed
    + count_by (λ x. is_made_in made e x.copy && is_moved (Some x.how)) closed
    + count_by (λ x. is_made_in made e x.copy && is_discarded (Some x.how)) closed
kinds_of_closing made e [] = refl
kinds_of_closing made e (x ∷ xs) =
    let all = count-cons {X = ClosedCopy} (λ y. is_made_in made e y.copy) x xs in
    let accepted = count-cons {X = ClosedCopy} (λ y. is_made_in made e y.copy && is_accepted (Some y.how)) x xs in
    let moved = count-cons {X = ClosedCopy} (λ y. is_made_in made e y.copy && is_moved (Some y.how)) x xs in
    let discarded = count-cons {X = ClosedCopy} (λ y. is_made_in made e y.copy && is_discarded (Some y.how)) x xs in
    omega (arith, all, accepted, moved, discarded, one (is_made_in made e x.copy) x.how, kinds_of_closing made e xs)
  where
    one : (of : Bool) (how : Closing) →
        one_of of ≡ one_of (of && is_accepted (Some how)) + one_of (of && is_moved (Some how)) + one_of
        (of && is_discarded (Some how))
    one false how = refl
    one true Accepted = refl
    one true (Moved to) = refl
    one true (Discarded cause) = refl

-- and discards by one cause
sum-both : {X : Type 0} (f g : X → ℕ) (xs : List X) → sum_by (λ x. f x + g x) xs ≡ sum_by f xs + sum_by g xs
sum-both f g [] = refl
sum-both {X} f g (x ∷ xs) =
    let both = sum_by-cons {X = X} (λ y. f y + g y) x xs in
    let one = sum_by-cons {X = X} f x xs in
    let other = sum_by-cons {X = X} g x xs in
    omega (arith, both, one, other, sum-both f g xs)

sum-same : {X : Type 0} (f g : X → ℕ) → ((x : X) → f x ≡ g x) → (xs : List X) → sum_by f xs ≡ sum_by g xs
sum-same f g same [] = refl
sum-same {X} f g same (x ∷ xs) =
    let one = sum_by-cons {X = X} f x xs in
    let other = sum_by-cons {X = X} g x xs in
    omega (arith, one, other, same x, sum-same f g same xs)

by_causes : (made : List MadeCopy) (e : Option ℕ) (closed : List ClosedCopy) →
    count_by (λ x. is_made_in made e x.copy && is_discarded (Some x.how)) closed ≡ sum_by
    (λ cause. count_by (λ (x : ClosedCopy). is_made_in made e x.copy && is_discarded_by cause (Some x.how)) closed)
    all_causes
by_causes made e [] = refl
by_causes made e (x ∷ xs) =
    let of = is_made_in made e x.copy in
    let all = count-cons {X = ClosedCopy} (λ y. is_made_in made e y.copy && is_discarded (Some y.how)) x xs in
    let each = sum-same {X = Cause}
    (λ cause. count_by (λ (y : ClosedCopy). is_made_in made e y.copy && is_discarded_by cause (Some y.how))
    (x ∷ xs)) (λ cause. one_of (of && is_discarded_by cause (Some x.how)) + count_by
    (λ (y : ClosedCopy). is_made_in made e y.copy && is_discarded_by cause (Some y.how)) xs)
    (λ cause. count-cons {X = ClosedCopy} (λ y. is_made_in made e y.copy && is_discarded_by cause (Some y.how))
    x xs) all_causes in
    let both = sum-both {X = Cause} (λ cause. one_of (of && is_discarded_by cause (Some x.how)))
    (λ cause. count_by (λ (y : ClosedCopy). is_made_in made e y.copy && is_discarded_by cause (Some y.how)) xs)
    all_causes in
    omega (arith, all, each, both, one of x.how, by_causes made e xs)
  where
    one : (of : Bool) (how : Closing) →
        one_of (of && is_discarded (Some how)) ≡ sum_by
        (λ (cause : Cause). one_of (of && is_discarded_by cause (Some how))) all_causes
    one false how = refl
    one true Accepted = refl
    one true (Moved to) = refl
    one true (Discarded causes.Deleted) = refl
    one true (Discarded causes.DmqDisabled) = refl
    one true (Discarded causes.DmqMissing) = refl
    one true (Discarded causes.DmqQuota) = refl
    one true (Discarded causes.DmqSelf) = refl
    one true (Discarded causes.Expired) = refl
    one true (Discarded causes.NotSpooled) = refl
    one true (Discarded causes.RedeliveryExceeded) = refl
    one true (Discarded causes.Rejected) = refl
    one true (Discarded causes.TopicChanged) = refl

-- causes that discarded nothing are left out, and count nothing
none_left_out : (ks : List CauseCount) →
    sum_by (λ (k : CauseCount). k.count) (filter (λ k. nat_lt 0 k.count) ks) ≡ sum_by (λ (k : CauseCount). k.count) ks
none_left_out [] = refl
none_left_out (k ∷ ks) =
    one (none_left_out ks) (nat_lt 0 k.count) refl ∙ sym (sum_by-cons {X = CauseCount} (λ c. c.count) k ks)
  where
    one : sum_by (λ (c : CauseCount). c.count) (filter (λ c. nat_lt 0 c.count) ks) ≡ sum_by
        (λ (c : CauseCount). c.count) ks → (b : Bool) → nat_lt 0 k.count ≡ b →
        sum_by (λ (c : CauseCount). c.count)
        (cond b (k ∷ filter (λ c. nat_lt 0 c.count) ks) (filter (λ c. nat_lt 0 c.count) ks)) ≡ k.count + sum_by
        (λ (c : CauseCount). c.count) ks
    one rest true is = sum_by-cons {X = CauseCount} (λ c. c.count) k (filter (λ c. nat_lt 0 c.count) ks) ∙ ap
        (λ n. k.count + n) rest
    one rest false is = let none = ltb-false 0 k.count is in omega (arith, none, rest)

pub tally_balanced : (L : Ledger) → IsSound L → (e : Option ℕ) → IsBalanced (tally_in L.copies e)
tally_balanced L s e =
    let H = L.copies in
    let split = split_made H.closed e H.made in
    let closings = closed_counted H.made e s.one.numbered.rise H.closed s.one.closed_once in
    let parts = kinds_of_closing H.made e H.closed in
    record {
      made = omega (arith, split, closings, parts);
      discarded = by_causes H.made e H.closed ∙ sym
          (none_left_out (map (λ cause. record {
            cause = cause;
            count = closing_count H e (λ how. is_discarded_by cause (Some how));
          }) all_causes));
    }

-- what a query is told of a copy holds
closed_holds : (H : History) (copy : ℕ) (how : Closing) → closing_of H.closed copy ≡ Some how →
    FateHolds H copy (closed_as how)
closed_holds H copy Accepted is = is
closed_holds H copy (Moved to) is = is
closed_holds H copy (Discarded cause) is = is

told_holds : (H : History) (copy after : ℕ) → is_made H.made copy ≡ true → (closing : Option Closing) →
    closing_of H.closed copy ≡ closing → FateHolds H copy (told_closing after closing)
told_holds H copy after made None is = made
told_holds H copy after made (Some how) is = one (nat_le 1000000 after)
  where
    one : (b : Bool) → FateHolds H copy (cond b fates.Earlier (closed_as how))
    one true = closed-closing H.closed copy ∙ ap is_some is
    one false = closed_holds H copy how is

pub fate_holds : (H : History) (copy : ℕ) → FateHolds H copy (fate_of H copy)
fate_holds H copy = one (is_made H.made copy) refl
  where
    one : (b : Bool) → is_made H.made copy ≡ b →
        FateHolds H copy (cond b (told_closing (closed_after H.closed copy) (closing_of H.closed copy)) fates.Never)
    one true is = told_holds H copy (closed_after H.closed copy) is (closing_of H.closed copy) refl
    one false is = tt

pub fate_in_holds : (H : History) (copy : ℕ) → FateHolds H copy (fate_in H copy)
fate_in_holds H copy = one (is_made H.made copy) refl
  where
    one : (b : Bool) → is_made H.made copy ≡ b →
        FateHolds H copy (cond b (told_closing 0 (closing_of H.closed copy)) fates.Never)
    one true is = told_holds H copy 0 is (closing_of H.closed copy) refl
    one false is = tt
