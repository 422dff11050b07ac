-- Copies of a published message, each in an endpoint of its own, keep what holds of a ledger, also where some are
-- closed at once.
use Rattle.sp_access.specs.Flow.{FlowView}
use Rattle.sp_copies.proofs.Counting.{sum-weaker}
use Rattle.sp_copies.proofs.MadeSound.{made_sound, used-with_made}
use Rattle.sp_copies.proofs.Marks.{still-open}
use Rattle.sp_copies.specs.History.{History, is_closed, is_made, is_open_in, is_spooled, numbered, used_bytes}
use Rattle.sp_copies.specs.History.{with_closed, with_made}
use Rattle.sp_copies.specs.Sound.{IsSoundHistory}
use Rattle.sp_copies.specs.declared.closed.Cause.TheVariants.{NotSpooled}
use Rattle.sp_copies.specs.declared.closed.ClosedCopy.{ClosedCopy}
use Rattle.sp_copies.specs.declared.closed.Closing.{Closing}
use Rattle.sp_copies.specs.declared.closed.Closing.TheVariants.{Discarded}
use Rattle.sp_copies.specs.declared.made.MadeCopy.{MadeCopy}
use Rattle.sp_copies.specs.declared.made.NewCopy.{NewCopy}
use Rattle.sp_endpoint.specs.Endpoint.{EndpointView}
use Rattle.sp_ledger.proofs.CopiesKept.{AreKept, IsFine, closed_kept, made_links}
use Rattle.sp_ledger.proofs.Listed.{All-any, All-both, and_both, and_left, and_right, any_last, lesser_is_not}
use Rattle.sp_ledger.proofs.Listed.{pairs_head, pairs_tail}
use Rattle.sp_ledger.specs.Changes.{Share, all_shared, with_share}
use Rattle.sp_ledger.specs.Ledger.{Published}
use Rattle.sp_ledger.specs.Limits.{greatest_quota}
use Rattle.std.proofs.Common.{ap, append-nil, arith, refl, ◌∙◌}
use Rattle.std.proofs.lemmas.Bool.{eq-eqb, eqb-true}
use Rattle.std.proofs.lemmas.List.Elements.{All-head, All-tail, All-weaker, filter-append}
use Rattle.std.proofs.lemmas.List.Folds.{list_any_none}
use Rattle.std.specs.Prelude.{All, AllPairs, Bool, IsTrue, List, [], cond, false, filter, length, not, sum_by, true}
use Rattle.std.specs.Prelude.{ℕ, ◌&&◌, ◌++◌, ◌+◌, ◌<◌, ◌==◌, ◌^◌, ◌∷◌, ◌≡◌, ◌≤◌}

-- a copy that is made elsewhere takes no bytes here
used_elsewhere : (H : History) (c : NewCopy) (e : ℕ) → (c.endpoint == e) ≡ false →
    used_bytes (with_made c H) e ≡ used_bytes H e
used_elsewhere H c e other =
    ap (λ (cs : List MadeCopy). sum_by (λ (x : MadeCopy). x.size) cs)
    (filter-append {X = MadeCopy} (is_open_in H.closed e) H.made (numbered H.next c ∷ [])
    ∙ (ap (λ b. filter (is_open_in H.closed e) H.made ++ cond (b && not (is_closed H.closed H.next))
    (numbered H.next c ∷ []) []) other
    ∙ append-nil (filter (is_open_in H.closed e) H.made)))

-- no closing has the next number, or a later one
pub later_open : (H : History) → IsSoundHistory H → (copy : ℕ) → H.next ≤ copy → is_closed H.closed copy ≡ false
later_open H s copy later =
    list_any_none {X = ClosedCopy} (λ x. x.copy == copy) H.closed
    (All-weaker (λ (x : ClosedCopy). IsTrue (is_made H.made x.copy)) (λ (x : ClosedCopy). (x.copy == copy) ≡ false)
    (λ x made. All-any (λ (c : MadeCopy). c.number < H.next) ((x.copy == copy) ≡ false) (λ c. c.number == x.copy)
    H.made s.below (λ c lt is. let same : c.number ≡ x.copy = eqb-true _ _ is in
    lesser_is_not x.copy copy (omega (arith, same, lt, later))) made) H.closed s.closed_made)

pub next_open : (H : History) → IsSoundHistory H → is_closed H.closed H.next ≡ false
next_open H s = later_open H s H.next (omega arith)

next_spooled : (H : History) (c : NewCopy) → IsSoundHistory H → is_spooled (with_made c H) H.next ≡ true
next_spooled H c s =
    and_both (is_made (H.made ++ numbered H.next c ∷ []) H.next) _
    (any_last {X = MadeCopy} (λ x. x.number == H.next) H.made (numbered H.next c) (eq-eqb H.next H.next refl))
    (ap not (next_open H s))

-- a copy that is closed at once takes no bytes anywhere
used_closed_at_once : (moment : ℕ) (H : History) (c : NewCopy) (how : Closing) (e : ℕ) →
    used_bytes (with_closed H.next how moment (with_made c H)) e ≤ used_bytes H e
used_closed_at_once moment H c how e =
    let x : ClosedCopy = record { copy = H.next; how = how; moment = moment } in
    let open_after = is_open_in (H.closed ++ x ∷ []) e in
    let gone : is_closed (H.closed ++ x ∷ []) H.next ≡ true =
    any_last {X = ClosedCopy} (λ y. y.copy == H.next) H.closed x (eq-eqb H.next H.next refl) in
    let same : used_bytes (with_closed H.next how moment (with_made c H)) e ≡ sum_by (λ (d : MadeCopy). d.size)
    (filter open_after H.made) =
    ap (λ (cs : List MadeCopy). sum_by (λ (d : MadeCopy). d.size) cs)
    (filter-append {X = MadeCopy} open_after H.made (numbered H.next c ∷ [])
    ∙ (ap (λ b. filter open_after H.made ++ cond b (numbered H.next c ∷ []) [])
    (shut (c.endpoint == e) (is_closed (H.closed ++ x ∷ []) H.next) gone)
    ∙ append-nil (filter open_after H.made))) in
    let less = sum-weaker (λ (d : MadeCopy). d.size) open_after (is_open_in H.closed e)
    (λ d is. and_both (d.endpoint == e) _ (and_left (d.endpoint == e) _ is)
    (still-open H.closed x d.number (and_right (d.endpoint == e) _ is)).0) H.made in
    omega (arith, same, less)
  where
    shut : (at closed : Bool) → closed ≡ true → (at && not closed) ≡ false
    shut true closed is = ap not is
    shut false closed is = refl

module _ (flows : List FlowView) (endpoints : List EndpointView) (messages : List Published)
    (next unit moment : ℕ) where
  abbrev Keeps : History → Type 0
  Keeps H = AreKept greatest_quota flows endpoints messages next unit H

  -- a copy that is made here, and fits where it is spooled
  pub record MayShare (s : Share) (H : History) : Type 0 where
    pub fine : IsFine flows endpoints messages next unit H s.copy
    pub fits : s.is_spooled ≡ true → used_bytes H s.copy.endpoint + s.copy.size ≤ greatest_quota
    pub small : s.is_spooled ≡ false → s.copy.size ≤ 2 ^ 37

  abbrev as_share : NewCopy → Bool → Share
  as_share c spooled = record { copy = c; is_spooled = spooled }

  one_shared : 0 < unit → (c : NewCopy) (spooled : Bool) (H : History) → MayShare (as_share c spooled) H → Keeps H →
      Keeps (with_share moment (as_share c spooled) H)
  one_shared some c true H may k =
      let most = may.fits refl in
      made_links flows endpoints messages next unit greatest_quota greatest_quota some c H may.fine k
      (made_sound H c k.history (omega (arith, most))) (used-with_made H c greatest_quota k.quota most)
  one_shared some c false H may k =
      let small = may.small refl in
      let here = k.quota c.endpoint in
      let fits : used_bytes H c.endpoint + c.size ≤ 2 ^ 40 = omega (arith, small, here) in
      let sound = made_sound H c k.history fits in
      let made = made_links flows endpoints messages next unit greatest_quota (2 ^ 40) some c H may.fine k sound
      (used-with_made H c (2 ^ 40) (λ e. let most = k.quota e in omega (arith, most)) fits) in
      let done = closed_kept flows endpoints messages next unit (2 ^ 40) H.next (Discarded NotSpooled) moment
      (with_made c H) made (next_spooled H c k.history) refl in
      record {
        history = done.history;
        quota = λ e. let most = k.quota e in let less = used_closed_at_once moment H c (Discarded NotSpooled) e in
            omega (arith, most, less);
        bound = done.bound;
        there = done.there;
        moved_made = done.moved_made;
        made_moved = done.made_moved;
        moved_once = done.moved_once;
        numbered = done.numbered;
        open_messages = done.open_messages;
        attempts = done.attempts;
      }

  share_elsewhere : (s : Share) (H : History) (e : ℕ) → (s.copy.endpoint == e) ≡ false →
      used_bytes (with_share moment s H) e ≤ used_bytes H e
  share_elsewhere s H e other = one s.is_spooled
    where
      one : (b : Bool) → used_bytes
          (cond b (with_made s.copy H) (with_closed H.next (Discarded NotSpooled) moment (with_made s.copy H)))
          e ≤ used_bytes H e
      one true = let same = used_elsewhere H s.copy e other in omega (arith, same)
      one false = used_closed_at_once moment H s.copy (Discarded NotSpooled) e

  -- the next copy number is one more
  share_next : (s : Share) (H : History) → (with_share moment s H).next ≡ H.next + 1
  share_next s H = one s.is_spooled
    where
      one : (b : Bool) → (cond b (with_made s.copy H)
          (with_closed H.next (Discarded NotSpooled) moment (with_made s.copy H))).next ≡ H.next + 1
      one true = refl
      one false = refl

  -- a share that may be made may also be made after one elsewhere
  still_may : (s t : Share) (H : History) → (s.copy.endpoint == t.copy.endpoint) ≡ false → MayShare t H →
      MayShare t (with_share moment s H)
  still_may s t H other may = record {
    fine = record {
      there = may.fine.there;
      below = may.fine.below;
      message = may.fine.message;
      unmoved = may.fine.unmoved;
    };
    fits = λ is. let less = share_elsewhere s H t.copy.endpoint other in let most = may.fits is in
        omega (arith, less, most);
    small = may.small;
  }

  abbrev pub Elsewhere : Share → Share → Type 0
  Elsewhere s t = (s.copy.endpoint == t.copy.endpoint) ≡ false

  pub shared_kept : 0 < unit → (shares : List Share) (H : History) → All (λ s. MayShare s H) shares →
      AllPairs Elsewhere shares → Keeps H → Keeps (all_shared moment shares H)
  shared_kept some [] H may apart k = k
  shared_kept some (s ∷ ss) H may apart k =
      shared_kept some ss (with_share moment s H)
      (All-weaker (λ t. MayShare t H × Elsewhere s t) (λ t. MayShare t (with_share moment s H))
      (λ t both. still_may s t H both.1 both.0) ss
      (All-both (λ t. MayShare t H) (Elsewhere s) ss (All-tail (λ t. MayShare t H) s ss may)
      (pairs_head Elsewhere s ss apart)))
      (pairs_tail Elsewhere s ss apart)
      (one_shared some s.copy s.is_spooled H (All-head (λ t. MayShare t H) s ss may) k)

  pub shared_next : (shares : List Share) (H : History) → (all_shared moment shares H).next ≡ H.next + length shares
  shared_next [] H = omega arith
  shared_next (s ∷ ss) H = let later = shared_next ss (with_share moment s H) in let here = share_next s H in
      omega (arith, later, here)
