-- What is known of a journal's units on the way.
use Rattle.std.proofs.Common.{◌≡◌, ◌⊎◌, ◌++◌, ◌∷◌, [], ℕ, List, Option, Result, Some, None, Ok, Err, ⊎_elim, inl, inr, refl, subst, sym}
use Rattle.std.specs.Prelude.{IfOk}
use Rattle.sp_journal.specs.Damage.{StopsAt}
use Rattle.sp_journal.specs.Format.{ComesTo, HasUnits, IsUnborn}
use Rattle.sp_journal.specs.State.{IsNotBorn}
use Rattle.sp_journal.specs.declared.journal.Journal.{Journal}
use Rattle.sp_journal.specs.declared.journal.OpenError.{OpenError}
use Rattle.sp_journal.specs.declared.journal.OpenError.TheVariants.{Damaged}
use Rattle.sp_journal.specs.declared.journal.State.{State}
use Rattle.sp_journal.specs.declared.journal.State.TheVariants.{NotBorn, Looked, Settled, Unsure}
use Rattle.sp_ledger.specs.Ledger.{Ledger}
use Rattle.sp_store.specs.Parts.{GivesOne}
use Rattle.sp_store.specs.Refused.{IsRefusedAt}
use Rattle.sp_store.specs.Units.{Accepts, IsLedgerOf}
use Rattle.sp_unit.specs.UnitBytes.{UnitView}

is_not_born : (s : State) → (s ≡ NotBorn) ⊎ (s ≡ NotBorn → ⊥)
is_not_born NotBorn = inl refl
is_not_born Looked = inr (λ is. absurd cc)
is_not_born Settled = inr (λ is. absurd cc)
is_not_born Unsure = inr (λ is. absurd cc)

born_or_not : (journal : Journal) → IsNotBorn journal ⊎ (IsNotBorn journal → ⊥)
born_or_not journal = is_not_born journal.state

abbrev Found : Type 0
Found = Result (Option (UnitView × ℕ)) OpenError

none_not_err : (r : Found) (f p : ℕ) → r ≡ Ok None → r ≡ Err (Damaged f p) → ⊥
none_not_err r f p none err = absurd cc

none_not_some : (r : Found) (found : UnitView × ℕ) → r ≡ Ok None → r ≡ Ok (Some found) → ⊥
none_not_some r found none some = absurd cc

-- what was read at a gate behind these units
module _ (journal : Journal) (units : List UnitView) (at : ℕ) (file : List ℕ) (r : Found)
    (unborn : IsNotBorn journal → r ≡ Ok None) where
  pub walk_damaged : ((IsNotBorn journal → ⊥) → (f p : ℕ) → r ≡ Err (Damaged f p)
      → (f ≡ 0) × (p ≡ at) × StopsAt units at file) → (f p : ℕ) → r ≡ Err (Damaged f p)
      → (f ≡ 0) × (((us : List UnitView) × StopsAt us p file) ⊎ IsRefusedAt p file)
  walk_damaged damaged f p is =
      ⊎_elim (λ none. absurd (none_not_err r f p (unborn none) is))
      (λ born.
      let d = damaged born f p is in
      (d.0, inl (units, subst (λ (n : ℕ). StopsAt units n file) (sym d.1) d.2))) (born_or_not journal)

  module _ (gives : (IsNotBorn journal → ⊥) → IfOk r (GivesOne units at file)) where
    pub walk_ends : r ≡ Ok None → (IsNotBorn journal → units ≡ []) → (IsNotBorn journal → IsUnborn file)
        → HasUnits units file
    walk_ends is none shut =
        ⊎_elim (λ not. inl (none not, shut not))
        (λ born. inr (at, subst (λ (x : Found). IfOk x (GivesOne units at file)) is (gives born))) (born_or_not journal)

    module _ (unit : UnitView) (next : ℕ) (is : r ≡ Ok (Some (unit, next))) where
      pub walk_on : (IsNotBorn journal → ⊥) → ComesTo (units ++ unit ∷ []) next file
      walk_on born = subst (λ (x : Found). IfOk x (GivesOne units at file)) is (gives born)

      pub walk_born : IsNotBorn journal → ⊥
      walk_born none = none_not_some r (unit, next) (unborn none) is

      pub walk_refused : ((IsNotBorn journal → ⊥) → ComesTo units at file) → (L : Ledger) → IsLedgerOf units L
          → ((M : Ledger) → Accepts unit L M → ⊥) → IsRefusedAt at file
      walk_refused comes L leads none = record {
        before = units;
        unit = unit;
        ledger = L;
        next = next;
        comes = comes walk_born;
        follows = walk_on walk_born;
        is_ledger = leads;
        none = none;
      }
