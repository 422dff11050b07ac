use Rattle.std.proofs.Common.{ℕ, inl, inr, subst, sym}
use Rattle.sp_disk.specs.Everywhere.{Vouches}
use Rattle.sp_disk.specs.declared.disk.File.TheVariants.{Journal as JournalFile}
use Rattle.sp_disk.proofs.EverywhereLemmas.{followed, stepped}
use Rattle.sp_journal.specs.Unsure.{HasUnitsMaybe}
use Rattle.sp_ledger.specs.Events.{outcome}
use Rattle.sp_ledger.specs.Step.{Outcome}
use Rattle.sp_store.proofs.Moments.{grown_has}
use Rattle.sp_store.specs.Commit.{Comes, MayGrow, MayHave}
use Rattle.sp_store.specs.State.{Holds}
use Rattle.sp_unit.specs.UnitBytes.{UnitView}
use Rattle.sp_store.proofs.put.heal_and_put.Goals as goal

pub put-requires-clause-holds : goal.put-requires-clause-holds
put-requires-clause-holds g c =
    let h = c.requires.holds in (
      h.1,
      h.2,
      record {
        on_disk = c.in-Ok.ensures.healed h.0 h.1 h.3.on_disk;
        is_ledger = h.3.is_ledger;
        stands = h.3.stands;
      },
    )

pub returns-in-Ok-clause-commits : goal.returns-in-Ok-clause-commits
returns-in-Ok-clause-commits g c maybe units L h event one =
    let unit : UnitView = record { moment = c.args.now; caller = c.args.from.now; events = c.args.unit.now } in
    inr (subst (λ (n : ℕ). Comes (λ unsure us M. Holds g.D.Disk.tells g.D.Disk.content g.D.Disk.may_leave unsure us M
    c.put.new.journal c.put.new.core c.put.new.disk) unit units L n c.args.max event
    (outcome c.args.now c.args.from.now event L) c.put.result) c.heal.ensures.place
    (c.put.ensures.comes units L
    (record {
      on_disk = c.in-Ok.ensures.healed maybe units h.on_disk;
      is_ledger = h.is_ledger;
      stands = h.stands;
    }) event one))

pub returns-in-Ok-clause-any_moment : goal.returns-in-Ok-clause-any_moment
returns-in-Ok-clause-any_moment g c maybe units L h event one vouches =
    let unit : UnitView = record { moment = c.args.now; caller = c.args.from.now; events = c.args.unit.now } in
    let o : Outcome = outcome c.args.now c.args.from.now event L in
    followed g.D.Disk.moment g.D.Disk.left_since g.D.Disk.may_leave JournalFile g.met.D.Disk.counts_now c.args.disk.now
    c.heal.new.disk c.put.new.disk (λ before. HasUnitsMaybe maybe units) (λ before. MayGrow units unit o)
    (λ before. MayHave maybe units unit o) (λ a b has. inl has)
    (λ a b file first second. grown_has maybe units unit o file second)
    (c.heal.ensures.any_moment maybe units h.on_disk vouches)
    (c.put.ensures.any_moment units L
    (record {
      on_disk = c.in-Ok.ensures.healed maybe units h.on_disk;
      is_ledger = h.is_ledger;
      stands = h.stands;
    }) event one (subst Vouches (sym c.heal.ensures.telling) vouches))

pub returns-in-Err-clause-any_moment : goal.returns-in-Err-clause-any_moment
returns-in-Err-clause-any_moment g c maybe units L h event one vouches =
    let unit : UnitView = record { moment = c.args.now; caller = c.args.from.now; events = c.args.unit.now } in
    stepped g.D.Disk.moment g.D.Disk.left_since JournalFile c.args.disk.now c.heal.new.disk
    (g.D.Disk.may_leave c.args.disk.now) (λ before. HasUnitsMaybe maybe units)
    (λ before. MayHave maybe units unit (outcome c.args.now c.args.from.now event L)) (λ a b has. inl has)
    (c.heal.ensures.any_moment maybe units h.on_disk vouches)
