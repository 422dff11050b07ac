-- How many copies are spooled and how many are free, after each change.
use Rattle.std.proofs.Common.{◌≡◌, ◌≤◌, ℕ, ◌+◌, true, not, ◌&&◌, cond, [], ◌∷◌, ◌++◌, ap, sym, ◌∙◌, arith}
use Rattle.std.proofs.lemmas.List.Sums.{sum_by_push}
use Rattle.std.proofs.lemmas.Bool.{and_parts, and_from, and_right, or_right, eq-eqb}
use Rattle.sp_copies.specs.declared.made.NewCopy.{NewCopy}
use Rattle.sp_copies.specs.declared.made.MadeCopy.{MadeCopy}
use Rattle.sp_copies.specs.declared.held.HeldCopy.{HeldCopy}
use Rattle.sp_copies.specs.declared.closed.ClosedCopy.{ClosedCopy}
use Rattle.sp_copies.specs.declared.closed.Closing.{Closing}
use Rattle.sp_copies.specs.History.{History, is_made, is_closed, is_held, is_spooled, is_free, let_go, numbered, with_made, with_closed, with_held, with_given_back}
use Rattle.sp_copies.specs.Sound.{IsSoundHistory}
use Rattle.sp_copies.specs.Inside.{spooled, free}
use Rattle.sp_copies.proofs.Counting.{at-most-one, count-weaker, count-fewer, count-but-for, once-made}
use Rattle.sp_copies.proofs.Marks.{eqb-turned, is_closed-push, is_held-push, held-else, still-open, still-free}

-- each free copy is spooled
pub free-le-spooled : (H : History) → free H ≤ spooled H
free-le-spooled H = count-weaker (λ c. not (is_closed H.closed c.number) && not (is_held H.held c.number))
    (λ c. not (is_closed H.closed c.number)) (λ c h. (and_parts _ _ h).0) H.made

pub spooled-made : (H : History) (c : NewCopy) → spooled (with_made c H) ≤ spooled H + 1
spooled-made H c = omega (
  arith,
  sum_by_push {X = MadeCopy} (λ c. cond (not (is_closed H.closed c.number)) 1 0) H.made (numbered H.next c),
  at-most-one (not (is_closed H.closed H.next)),
)

pub free-made : (H : History) (c : NewCopy) → free (with_made c H) ≤ free H + 1
free-made H c = omega (
  arith,
  sum_by_push {X = MadeCopy}
      (λ c. cond (not (is_closed H.closed c.number) && not (is_held H.held c.number)) 1 0) H.made (numbered H.next c),
  at-most-one (not (is_closed H.closed H.next) && not (is_held H.held H.next)),
)

pub spooled-closed : (H : History) (copy : ℕ) (how : Closing) (moment : ℕ) → is_spooled H copy ≡ true → spooled
    (with_closed copy how moment H) + 1 ≤ spooled H
spooled-closed H copy how moment open_now =
    let x : ClosedCopy = record { copy = copy; how = how; moment = moment } in
    let both = and_parts (is_made H.made copy) (not (is_closed H.closed copy)) open_now in
    count-fewer (λ c. not (is_closed H.closed c.number)) (λ c. not (is_closed (H.closed ++ x ∷ []) c.number)) copy
    (λ c h. (still-open H.closed x c.number h).0)
    (λ c e. ap (λ n. not (is_closed H.closed n)) e ∙ both.1)
    (λ c e. ap not (is_closed-push H.closed x c.number ∙ or_right _ _ (eq-eqb copy c.number (sym e))))
    H.made both.0

pub free-closed : (H : History) (copy : ℕ) (how : Closing) (moment : ℕ) → free (with_closed copy how moment H) ≤ free H
free-closed H copy how moment =
    let x : ClosedCopy = record { copy = copy; how = how; moment = moment } in
    count-weaker (λ c. not (is_closed (H.closed ++ x ∷ []) c.number) && not (is_held (let_go copy H.held) c.number))
    (λ c. not (is_closed H.closed c.number) && not (is_held H.held c.number))
    (λ c h. freed x c (and_parts _ _ h))
    H.made
  where
    freed : (x : ClosedCopy) (c : MadeCopy) → (not (is_closed (H.closed ++ x ∷ []) c.number) ≡ true) ×
        (not (is_held (let_go x.copy H.held) c.number) ≡ true) →
        (not (is_closed H.closed c.number) && not (is_held H.held c.number)) ≡ true
    freed x c both =
        let open_before = still-open H.closed x c.number both.0 in
        and_from _ _ open_before.0
        (ap not (sym (held-else H.held x.copy c.number (eqb-turned c.number x.copy ∙ open_before.1))) ∙ both.1)

pub free-held : (H : History) (copy flow : ℕ) → is_free H copy ≡ true → free (with_held copy flow H) + 1 ≤ free H
free-held H copy flow free_now =
    let x : HeldCopy = record { copy = copy; flow = flow } in
    let parts = and_parts (is_spooled H copy) (not (is_held H.held copy)) free_now in
    let both = and_parts (is_made H.made copy) (not (is_closed H.closed copy)) parts.0 in
    count-fewer (λ c. not (is_closed H.closed c.number) && not (is_held H.held c.number))
    (λ c. not (is_closed H.closed c.number) && not (is_held (H.held ++ x ∷ []) c.number)) copy
    (λ c h. let p = and_parts _ _ h in and_from _ _ p.0 (still-free H.held x c.number p.1).0)
    (λ c e. and_from _ _ (ap (λ n. not (is_closed H.closed n)) e ∙ both.1)
    (ap (λ n. not (is_held H.held n)) e ∙ parts.1))
    (λ c e. and_right _ _ (ap not (is_held-push H.held x c.number ∙ or_right _ _ (eq-eqb copy c.number (sym e)))))
    H.made both.0

pub free-given_back : (H : History) (copy : ℕ) → IsSoundHistory H → free (with_given_back copy H) ≤ free H + 1
free-given_back H copy s =
    let most = count-but-for (λ c. not (is_closed H.closed c.number) && not (is_held H.held c.number))
    (λ c. not (is_closed H.closed c.number) && not (is_held (let_go copy H.held) c.number)) copy
    (λ c ne h. let p = and_parts _ _ h in and_from _ _ p.0 (ap not (sym (held-else H.held copy c.number ne)) ∙ p.1))
    H.made in
    omega (arith, most, once-made copy H.made s.rise)
