-- What a commit comes to, by what its parts gave.
use Rattle.std.proofs.Common.{◌≡◌, ◌∙◌, ◌-◌, ℕ, true, false, List, [], ◌∷◌, ◌++◌, Option, None, Ok, Err, sym, ap, subst}
use Rattle.sp_base.specs.declared.declined.EventRefusal.{EventRefusal}
use Rattle.sp_core.specs.Decided.{CarriesOut}
use Rattle.sp_core.specs.Stands.{Stands}
use Rattle.sp_core.specs.State.{CoreState}
use Rattle.sp_disk.specs.Disk.{Folder, Telling}
use Rattle.sp_event.specs.declared.answer.Reply.{Reply}
use Rattle.sp_event.specs.declared.request.Event.{Event}
use Rattle.sp_journal.specs.State as journals
use Rattle.sp_journal.specs.declared.journal.Journal.{Journal}
use Rattle.sp_ledger.specs.Changes.{Change}
use Rattle.sp_ledger.specs.Events.{outcome}
use Rattle.sp_ledger.specs.Ledger.{Ledger}
use Rattle.sp_ledger.specs.Step.{Outcome, refused, idle, accepted, carried_out, is_idle}
use Rattle.sp_store.proofs.Ledgers.{leads_on}
use Rattle.sp_store.specs.Commit.{Comes, Fits, IsAccepted, Receives}
use Rattle.sp_store.specs.Parts.{Writes}
use Rattle.sp_store.specs.State.{Holds}
use Rattle.sp_store.specs.Units.{IsLedgerOf}
use Rattle.sp_store.specs.declared.receipt.CommitFault.{CommitFault}
use Rattle.sp_store.specs.declared.receipt.CommitFault.TheVariants as fault
use Rattle.sp_store.specs.declared.receipt.Receipt.{Receipt}
use Rattle.sp_unit.specs.UnitBytes.{UnitView}

-- the receipt of what was carried out
pub received : (core : CoreState) (unit : UnitView) (units : List UnitView) (L : Ledger) (o : Outcome) (given : List Reply)
    (receipt : Receipt) → CarriesOut o L core given → receipt.idle ≡ is_idle o → receipt.replies.items ≡ given
    → ((M : Ledger) → Stands core M → receipt.unit ≡ M.next.unit - 1)
    → Receives (λ maybe us M. Stands core M) unit units L o receipt
received core unit units L (refused refusal) given receipt done is told count = done
received core unit units L (idle replies) given receipt done is told count =
    (record { unit = count L done.1; idle = is; replies = told ∙ done.0 }, done.1)
received core unit units L (accepted M replies) given receipt done is told count =
    (record { unit = count M done.1; idle = is; replies = told ∙ done.0 }, done.1)

-- the core stands for a ledger afterwards
pub carried : (o : Outcome) (L : Ledger) (core : CoreState) (given : List Reply) → CarriesOut o L core given
    → (M : Ledger) × Stands core M
carried (refused refusal) L core given done = absurd done
carried (idle told) L core given done = (L, done.1)
carried (accepted M told) L core given done = (M, done.1)

-- what is carried out and isn't idle is accepted
pub is_accepted : (changes : List Change) (reply : Reply) (B : Ledger) → is_idle (carried_out changes reply B) ≡ false
    → IsAccepted (carried_out changes reply B)
is_accepted [] reply B not_idle = absurd cc
is_accepted (change ∷ more) reply B not_idle = tt

pub decided_accepted : (o : Outcome) (changes : List Change) (reply : Reply) (B : Ledger) → o ≡ carried_out changes reply B
    → is_idle o ≡ false → IsAccepted o
decided_accepted o changes reply B same isnt =
    subst IsAccepted (sym same) (is_accepted changes reply B (sym (ap is_idle same) ∙ isnt))

module _ {D : Type 0} (tells : D → Telling) (content : D → Folder) (may_leave : D → Folder → Type 0)
    (unit : UnitView) (units : List UnitView) (L : Ledger) (journal : Journal) (core : CoreState) (disk : D)
    (place max : ℕ) (event : Event) where
  abbrev After : Option UnitView → List UnitView → Ledger → Type 0
  After maybe us M = Holds tells content may_leave maybe us M journal core disk

  abbrev OnDisk : Option UnitView → List UnitView → Type 0
  OnDisk maybe us = journals.StandsFor tells content may_leave maybe us journal disk

  -- an idle one is carried out, and nothing was written
  pub put_idle : (o : Outcome) (receipt : Receipt) → Receives (λ maybe us M. Stands core M) unit units L o receipt
      → is_idle o ≡ true → OnDisk None units → IsLedgerOf units L → Comes After unit units L place max event o (Ok receipt)
  put_idle (refused refusal) receipt given is on_disk ledger = absurd given
  put_idle (idle told) receipt given is on_disk ledger = (
    (given.0, record { on_disk = on_disk; is_ledger = ledger; stands = given.1 }),
    λ isnt. absurd (both given.0.idle isnt),
  )
    where
      both : receipt.idle ≡ true → receipt.idle ≡ false → ⊥
      both a b = absurd cc
  put_idle (accepted M told) receipt given is on_disk ledger = absurd cc

  -- an accepted one is written, and then carried out
  pub put_done : (o : Outcome) (receipt : Receipt) → o ≡ outcome unit.moment unit.caller event L → unit.events ≡ event ∷ []
      → Receives (λ maybe us M. Stands core M) unit units L o receipt → is_idle o ≡ false → OnDisk None (units ++ unit ∷ [])
      → IsLedgerOf units L → Fits place max event unit → Comes After unit units L place max event o (Ok receipt)
  put_done (refused refusal) receipt same one given isnt on_disk ledger fits = absurd given
  put_done (idle told) receipt same one given isnt on_disk ledger fits = absurd cc
  put_done (accepted M told) receipt same one given isnt on_disk ledger fits = (
    (
      given.0,
      record {
        on_disk = on_disk;
        is_ledger = leads_on units unit _ L M ledger (record { event = event; told = told; one = one; step = sym same });
        stands = given.1;
      },
    ),
    λ changed. fits,
  )

  -- it wasn't written
  pub put_not : (o : Outcome) (why : CommitFault) → IsAccepted o → Writes OnDisk place max event unit units (Err why)
      → IsLedgerOf units L → Stands core L → Comes After unit units L place max event o (Err why)
  put_not o (fault.Refused index refusal) is writes ledger stands = absurd writes
  put_not o fault.Memory is writes ledger stands =
      record { on_disk = writes; is_ledger = ledger; stands = stands }
  put_not o (fault.Full len need most) is writes ledger stands =
      (is, writes.0, record { on_disk = writes.1; is_ledger = ledger; stands = stands })
  put_not o fault.Disk is writes ledger stands =
      (is, writes.0, record { on_disk = writes.1; is_ledger = ledger; stands = stands })

  -- it was refused
  pub put_refused : (o : Outcome) (r : EventRefusal) → r.index ≡ 0 → o ≡ refused r.refusal → (why : CommitFault)
      → why ≡ fault.Refused r.index r.refusal → Holds tells content may_leave None units L journal core disk
      → Comes After unit units L place max event o (Err why)
  put_refused o r first is why told holds =
      subst (λ (w : CommitFault). Comes After unit units L place max event o (Err w)) (sym told) (first, is, holds)
