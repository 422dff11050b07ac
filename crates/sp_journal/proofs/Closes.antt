-- What closing a gate leaves of a journal.
use Rattle.std.proofs.Common.{◌≡◌, ℕ, ◌+◌, ◌≤◌, List, [], ◌∷◌, ◌++◌, length, take, drop, sym, ap, ◌∙◌, subst, inl, inr, drop-drop, take-append-drop, append_assoc}
use Rattle.std.proofs.lemmas.List.{drop_at}
use Rattle.sp_disk.specs.Disk.{written}
use Rattle.sp_unit.specs.UnitBytes.{UnitView}
use Rattle.sp_journal.specs.Closing.{IsClosedAt, MayClose}
use Rattle.sp_journal.specs.Format.{EndsAt}
use Rattle.sp_journal.specs.Unsure.{IsUnsure}
use Rattle.sp_disk.proofs.Tears.{written_byte}
use Rattle.sp_journal.proofs.UnitSteps.{offers_torn, offers_shut, ends_long, offers_long}

-- a closed gate that is written again stays as it is
pub closed_written : (at : ℕ) (file : List ℕ) → IsClosedAt at file → file ≡ written file at (0 ∷ [])
closed_written at file closed =
    sym (take-append-drop at file)
    ∙ ap (λ (l : List ℕ). take at file ++ l) (sym (take-append-drop 1 (drop at file))
    ∙ ap (λ (l : List ℕ). l ++ drop 1 (drop at file)) closed ∙ ap (λ (l : List ℕ). (0 ∷ []) ++ l) (drop-drop 1 at file))
    ∙ sym (append_assoc (take at file) (0 ∷ []) (drop (at + 1) file))

-- a closing after nothing is one
pub closes_on : (at : ℕ) (reads a b c : List ℕ) → b ≡ a → MayClose at reads b c → MayClose at reads a c
closes_on at reads a b c same closing = subst (λ (l : List ℕ). MayClose at reads l c) same closing

module _ (units : List UnitView) (place : ℕ) where
  pub ends_closed : (file : List ℕ) → EndsAt units place file → IsClosedAt place file
  ends_closed file ends =
      ap (λ (l : List ℕ). take 1 (drop place l)) ends.bytes
      ∙ ap (λ (l : List ℕ). take 1 l) (drop_at ends.front (0 ∷ ends.behind) place ends.is_place)

  pub ends_shut : (old new : List ℕ) → EndsAt units place old → new ≡ written old place (0 ∷ [])
      → EndsAt units place new
  ends_shut old new ends done = record {
    front = ends.front;
    behind = ends.behind;
    is_front = ends.is_front;
    is_place = ends.is_place;
    bytes = done ∙ ap (λ (l : List ℕ). written l place (0 ∷ [])) ends.bytes
        ∙ written_byte ends.front 0 ends.behind place ends.is_place 0;
  }

  module _ (unit : UnitView) where
    -- while the gate is being closed it stays unsure
    pub unsure_closing : (reads old new : List ℕ) → IsUnsure units unit place old → MayClose place reads old new
        → IsUnsure units unit place new
    unsure_closing reads old new unsure (inl same) = subst (IsUnsure units unit place) (sym same) unsure
    unsure_closing reads old new (inl ends) (inr torn) = absurd (torn.1 (ends_closed old ends))
    unsure_closing reads old new (inr offers) (inr torn) = inr (offers_torn units place unit old new offers torn.2)

    -- when it is closed the units end there
    pub unsure_closed : (old new : List ℕ) → IsUnsure units unit place old → new ≡ written old place (0 ∷ [])
        → EndsAt units place new
    unsure_closed old new (inl ends) done = ends_shut old new ends done
    unsure_closed old new (inr offers) done = offers_shut units place unit old new offers done

    pub unsure_long : (file : List ℕ) → IsUnsure units unit place file → place + 1 ≤ length file
    unsure_long file (inl ends) = ends_long units place file ends
    unsure_long file (inr offers) = offers_long units place unit file offers
