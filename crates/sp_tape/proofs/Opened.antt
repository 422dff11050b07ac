-- What an opening leads to.
use Rattle.std.proofs.Common.{◌≡◌, List, [], ◌∷◌, ◌++◌, Option, Some, None, inl, inr, refl, sym, subst}
use Rattle.sp_ledger.specs.Asked.{first_ledger}
use Rattle.sp_event.specs.declared.request.Event.TheVariants.{Restart}
use Rattle.sp_ledger.specs.Ledger.{Ledger}
use Rattle.sp_ledger.specs.Step.{Outcome, refused, idle, accepted}
use Rattle.sp_ledger.specs.Told.{Extends}
use Rattle.sp_ledger.proofs.Growth.{Extends-refl, Extends-trans, outcome_extends}
use Rattle.sp_store.specs.Opening.{Restarts, restarted}
use Rattle.sp_store.specs.Units.{Accepts, IsLedgerOf, restart_unit}
use Rattle.sp_store.proofs.Ledgers.{leads_on, one_ledger, split}
use Rattle.sp_tape.specs.State.{AreTaken, Opens, RunState, settled}
use Rattle.sp_unit.specs.UnitBytes.{UnitView}

-- a unit's ledger extends the one before it
accepts_extends : (unit : UnitView) (L M : Ledger) → Accepts unit L M → Extends L M
accepts_extends unit L M a = outcome_extends L unit.moment unit.caller a.event M a.told a.step

-- the ledger after an opening, by what the restart came to
module _ (units : List UnitView) (T : RunState) (L : Ledger) (leads : IsLedgerOf units L) where
  restart_leads : (o : Outcome) → restarted L ≡ o → Restarts (λ us M. T ≡ settled us M) units L o
      → IsLedgerOf T.units T.ledger × Extends L T.ledger
  restart_leads (refused refusal) e h = absurd h
  restart_leads (idle told) e h =
      subst (λ (t : RunState). IsLedgerOf t.units t.ledger × Extends L t.ledger) (sym h) (leads, Extends-refl L)
  restart_leads (accepted M told) e h =
      let a : Accepts restart_unit L M = record { event = Restart; told = told; one = refl; step = e } in
      subst (λ (t : RunState). IsLedgerOf t.units t.ledger × Extends L t.ledger) (sym h)
      (leads_on units restart_unit first_ledger L M leads a, accepts_extends restart_unit L M a)

pub again_leads : (units : List UnitView) (T : RunState) → Opens units T → IsLedgerOf T.units T.ledger
again_leads units T h = (restart_leads units T h.ledger h.is_ledger (restarted h.ledger) refl h.restarts).0

-- units that were taken lead on from the ledger of the state
taken_extends : (S : RunState) → IsLedgerOf S.units S.ledger → (unsure : Option UnitView) (units : List UnitView) (L : Ledger)
    → AreTaken unsure S.units units → IsLedgerOf units L → Extends S.ledger L
taken_extends S leads unsure units L taken is = one unsure taken
  where
    same : units ≡ S.units → Extends S.ledger L
    same e = subst (Extends S.ledger)
        (one_ledger S.units first_ledger L S.ledger (subst (λ (us : List UnitView). IsLedgerOf us L) e is) leads)
        (Extends-refl S.ledger)

    more : (unit : UnitView) → units ≡ S.units ++ unit ∷ [] → Extends S.ledger L
    more unit e =
        let way = split S.units (unit ∷ []) first_ledger L (subst (λ (us : List UnitView). IsLedgerOf us L) e is) in
        let begun : way.0 ≡ S.ledger = one_ledger S.units first_ledger S.ledger way.0 leads way.1 in
        subst (Extends S.ledger) (sym way.2.2)
        (accepts_extends unit S.ledger way.2.0 (subst (λ (K : Ledger). Accepts unit K way.2.0) begun way.2.1))

    one : (m : Option UnitView) → AreTaken m S.units units → Extends S.ledger L
    one None e = same e
    one (Some unit) (inl e) = same e
    one (Some unit) (inr e) = more unit e

pub again_extends : (S T : RunState) → IsLedgerOf S.units S.ledger → (units : List UnitView) → AreTaken S.unsure S.units units
    → Opens units T → Extends S.ledger T.ledger
again_extends S T leads units taken h =
    Extends-trans S.ledger h.ledger T.ledger (taken_extends S leads S.unsure units h.ledger taken h.is_ledger)
    (restart_leads units T h.ledger h.is_ledger (restarted h.ledger) refl h.restarts).1
