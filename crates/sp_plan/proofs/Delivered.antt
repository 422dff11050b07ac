-- Deliveries, one more, and how often a copy was handed out.
use Rattle.sp_copies.specs.History.{attempts_of}
use Rattle.sp_copies.specs.declared.held.CopyAttempts.{CopyAttempts}
use Rattle.sp_copies.specs.declared.made.MadeCopy.{MadeCopy}
use Rattle.sp_event.specs.declared.answer.Delivery.{Delivery}
use Rattle.sp_ledger.proofs.Listed.{All-find}
use Rattle.sp_ledger.specs.Ledger.{Ledger, message_of}
use Rattle.sp_ledger.specs.OnFlows.{delivered, deliveries}
use Rattle.std.proofs.Common.{ap, get_or, refl, take, ◌∙◌}
use Rattle.std.proofs.lemmas.List.{take_more}
use Rattle.std.proofs.lemmas.List.Elements.{filter_map-append}
use Rattle.std.specs.List.{cons_option}
use Rattle.std.specs.Prelude.{All, List, None, Option, Some, [], find, length, option_map, unwrap_or, ℕ, ◌++◌, ◌+◌, ◌<◌, ◌==◌, ◌∷◌, ◌≡◌}

-- no copy was handed out so often
pub attempts_bounded : (attempts : List CopyAttempts) (n : ℕ) → 0 < n → All (λ a. a.count < n) attempts → (copy : ℕ) →
    attempts_of attempts copy < n
attempts_bounded attempts n above all copy = one (find (λ (a : CopyAttempts). a.copy == copy) attempts) refl
  where
    one : (found : Option CopyAttempts) → find (λ (a : CopyAttempts). a.copy == copy) attempts ≡ found →
        unwrap_or (option_map (λ (a : CopyAttempts). a.count) found) 0 < n
    one None is = above
    one (Some a) is = All-find (λ (x : CopyAttempts). x.count < n) (λ x. x.copy == copy) attempts a all is

-- the deliveries of one copy more
pub deliveries_more : (L : Ledger) (cs : List MadeCopy) (i : ℕ) (d : MadeCopy) → i < length cs →
    deliveries L (take (i + 1) cs)
    ≡ deliveries L (take i cs) ++ cons_option (option_map (delivered L (get_or cs i d)) (message_of L.messages (get_or cs i d).message)) []
deliveries_more L cs i d lt =
    ap (deliveries L) (take_more cs i d lt)
    ∙ filter_map-append {X = MadeCopy} {Y = Delivery} (λ c. option_map (delivered L c) (message_of L.messages c.message)) (take i cs) (get_or cs i d ∷ [])
