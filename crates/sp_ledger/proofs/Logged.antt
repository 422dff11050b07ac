-- What is logged is there, rises and fits, once a message was published too.
use Rattle.sp_ledger.proofs.Listed.{All-find, find_passes, pairs_tail}
use Rattle.sp_ledger.specs.Changes.{longest_fit, with_logged, with_message, logged_size}
use Rattle.sp_ledger.specs.Ledger.{Ledger, Published, message_of}
use Rattle.sp_ledger.specs.Limits.{bytes_per_mb}
use Rattle.sp_ledger.specs.Sound.{AreLogged, AreMessages}
use Rattle.sp_message.specs.declared.message.Message.{Message}
use Rattle.std.proofs.Common.{ap, arith, refl, subst, sym}
use Rattle.std.proofs.lemmas.Bool.{eq-eqb, eqb-true, leb-true}
use Rattle.std.proofs.lemmas.List.Elements.{All-push, All-tail, All-weaker}
use Rattle.std.proofs.lemmas.List.Folds.{find-append}
use Rattle.std.proofs.lemmas.List.Quantifiers.{all_pairs_push}
use Rattle.std.specs.Option.{option_or}
use Rattle.std.specs.Prelude.{All, AllPairs, Bool, IsTrue, List, None, Option, Some, [], cond, false, is_some, nat_le}
use Rattle.std.specs.Prelude.{sum_by, true, ℕ, ◌*◌, ◌++◌, ◌<◌, ◌==◌, ◌∷◌, ◌≡◌, ◌≤◌}

-- a published message stays, and the new one is there
still_published : (messages : List Published) (new : Published) (number : ℕ) →
    is_some (message_of messages number) ≡ true → is_some (message_of (messages ++ new ∷ []) number) ≡ true
still_published messages new number h =
    rw (find-append {X = Published} (λ m. m.number == number) messages (new ∷ [])) (one (message_of messages number) h)
  where
    one : (found : Option Published) → is_some found ≡ true →
        is_some (option_or found (message_of (new ∷ []) number)) ≡ true
    one None k = absurd (cc)
    one (Some m) k = refl

now_published : (messages : List Published) (new : Published) →
    is_some (message_of (messages ++ new ∷ []) new.number) ≡ true
now_published messages new =
    rw (find-append {X = Published} (λ m. m.number == new.number) messages (new ∷ []))
    (one (message_of messages new.number))
  where
    here : is_some (message_of (new ∷ []) new.number) ≡ true
    here = ap (λ b. is_some (cond b (Some new) None)) (eq-eqb new.number new.number refl)

    one : (found : Option Published) → is_some (option_or found (message_of (new ∷ []) new.number)) ≡ true
    one None = here
    one (Some m) = refl

-- what holds of each logged message holds of those that still fit
fit_kept : (P : ℕ → Type 0) (messages : List Published) (most : ℕ) (ns : List ℕ) → All P ns →
    All P (longest_fit messages most ns)
fit_kept P messages most [] all = all
fit_kept P messages most (n ∷ ns) all =
    one (nat_le (sum_by (logged_size messages) (n ∷ ns)) most) (fit_kept P messages most ns (All-tail P n ns all))
  where
    one : (b : Bool) → All P (longest_fit messages most ns) → All P (cond b (n ∷ ns) (longest_fit messages most ns))
    one true later = all
    one false later = later

fit_rises : (messages : List Published) (most : ℕ) (ns : List ℕ) → AllPairs (λ m n. m < n) ns →
    AllPairs (λ m n. m < n) (longest_fit messages most ns)
fit_rises messages most [] rise = rise
fit_rises messages most (n ∷ ns) rise =
    one (nat_le (sum_by (logged_size messages) (n ∷ ns)) most)
    (fit_rises messages most ns (pairs_tail (λ (a b : ℕ). a < b) n ns rise))
  where
    one : (b : Bool) → AllPairs (λ m n. m < n) (longest_fit messages most ns) →
        AllPairs (λ m n. m < n) (cond b (n ∷ ns) (longest_fit messages most ns))
    one true later = rise
    one false later = later

fit_fits : (messages : List Published) (most : ℕ) (ns : List ℕ) →
    sum_by (logged_size messages) (longest_fit messages most ns) ≤ most
fit_fits messages most [] = omega arith
fit_fits messages most (n ∷ ns) =
    one (nat_le (sum_by (logged_size messages) (n ∷ ns)) most) refl (fit_fits messages most ns)
  where
    one : (b : Bool) → nat_le (sum_by (logged_size messages) (n ∷ ns)) most ≡ b →
        sum_by (logged_size messages) (longest_fit messages most ns) ≤ most →
        sum_by (logged_size messages) (cond b (n ∷ ns) (longest_fit messages most ns)) ≤ most
    one true is later = leb-true (sum_by (logged_size messages) (n ∷ ns)) most is
    one false is later = later

-- a logged message has a lesser number than the next one
logged_below : (next : ℕ) (messages : List Published) → All (λ m. m.number < next) messages → (n : ℕ) →
    is_some (message_of messages n) ≡ true → n < next
logged_below next messages below n is = one (message_of messages n) refl is
  where
    one : (found : Option Published) → message_of messages n ≡ found → is_some found ≡ true → n < next
    one None at k = absurd (cc)
    one (Some m) at k =
        let lt : m.number < next =
        All-find (λ (p : Published). p.number < next) (λ p. p.number == n) messages m below at in
        let same : m.number ≡ n = eqb-true _ _ (find_passes (λ (p : Published). p.number == n) messages m at) in
        omega (arith, lt, same)

-- what is logged once a message was published
pub logged_after : (L : Ledger) (m : Message) → AreMessages L.next.message L.messages → AreLogged L.messages L.log →
    AreLogged (with_message m L) (with_logged L.next.message (with_message m L) L.log)
logged_after L m are logged = one L.log.enabled refl
  where
    still_there : All (λ n. IsTrue (is_some (message_of (with_message m L) n))) L.log.messages
    still_there = All-weaker (λ n. IsTrue (is_some (message_of L.messages n)))
        (λ n. IsTrue (is_some (message_of (with_message m L) n)))
        (λ n is. still_published L.messages (record { number = L.next.message; message = m; moment = L.now }) n is)
        L.log.messages logged.there

    one : (b : Bool) → L.log.enabled ≡ b →
        AreLogged (with_message m L)
        (cond b (record L.log {
          messages = longest_fit (with_message m L) (bytes_per_mb * L.log.size)
              (L.log.messages ++ L.next.message ∷ []);
        }) L.log)
    one true is = record {
      there =
          fit_kept (λ n. IsTrue (is_some (message_of (with_message m L) n))) (with_message m L)
          (bytes_per_mb * L.log.size) (L.log.messages ++ L.next.message ∷ [])
          (All-push (λ n. IsTrue (is_some (message_of (with_message m L) n))) L.log.messages L.next.message
          still_there (now_published L.messages (record { number = L.next.message; message = m; moment = L.now })));
      rise =
          fit_rises (with_message m L) (bytes_per_mb * L.log.size) (L.log.messages ++ L.next.message ∷ [])
          (all_pairs_push (λ (a b : ℕ). a < b) L.log.messages L.next.message logged.rise
          (All-weaker (λ n. IsTrue (is_some (message_of L.messages n))) (λ n. n < L.next.message)
          (λ n is. logged_below L.next.message L.messages are.below n is) L.log.messages logged.there));
      fit = fit_fits (with_message m L) (bytes_per_mb * L.log.size) (L.log.messages ++ L.next.message ∷ []);
      off = λ no. absurd (cc);
    }
    one false is =
        let none = logged.off is in
        record {
          there = still_there;
          rise = logged.rise;
          fit = subst (λ ns. sum_by (logged_size (with_message m L)) ns ≤ bytes_per_mb * L.log.size) (sym none)
              (omega arith);
          off = logged.off;
        }
