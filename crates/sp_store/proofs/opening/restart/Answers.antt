use Rattle.std.proofs.Common.{◌≡◌, ℕ, List, subst}
use Rattle.sp_disk.specs.Everywhere.{Became}
use Rattle.sp_disk.specs.Moments.{LeavesOnly}
use Rattle.sp_disk.specs.declared.disk.File.TheVariants.{Journal as JournalFile}
use Rattle.sp_event.specs.declared.request.Event.TheVariants.{Restart}
use Rattle.sp_ledger.specs.Events.{outcome}
use Rattle.sp_store.proofs.Opens.{restarts_received}
use Rattle.sp_store.specs.Commit.{MayGrow, Receives}
use Rattle.sp_store.specs.State.{Holds}
use Rattle.sp_store.specs.Units.{restart_unit}
use Rattle.sp_unit.specs.UnitBytes.{UnitView}
use Rattle.sp_store.proofs.opening.restart.Goals as goal

pub returns-in-Ok-put-clause-restarts : goal.returns-in-Ok-put-clause-restarts
returns-in-Ok-put-clause-restarts g c units L h =
    let name = c.in-Ok.ensures.name in
    let value = c.from_ref-unit.ensures.value in
    let unit : UnitView = record { moment = 0; caller = c.in-Ok.system; events = c.from_ref-unit.result.now } in
    let same : unit ≡ restart_unit = λ i. record { moment = 0; caller = name i; events = value i } in
    let comes = c.in-Ok-put.ensures.comes units L h Restart value in
    restarts_received (λ unsure us M. Holds g.D.Disk.tells g.D.Disk.content g.D.Disk.may_leave unsure us M
    c.put.new.journal c.put.new.core c.put.new.disk) unit units L _ c.in-Ok-put.field-0 same
    (subst (λ (n : List ℕ). Receives (λ unsure us M. Holds g.D.Disk.tells g.D.Disk.content g.D.Disk.may_leave unsure us M
    c.put.new.journal c.put.new.core c.put.new.disk) unit units L (outcome 0 n Restart L) c.in-Ok-put.field-0) name comes.0)

pub returns-in-Ok-put-clause-any_moment : goal.returns-in-Ok-put-clause-any_moment
returns-in-Ok-put-clause-any_moment g c units L h vouches =
    let name = c.in-Ok.ensures.name in
    let value = c.from_ref-unit.ensures.value in
    let unit : UnitView = record { moment = 0; caller = c.in-Ok.system; events = c.from_ref-unit.result.now } in
    let same : unit ≡ restart_unit = λ i. record { moment = 0; caller = name i; events = value i } in
    subst (λ (u : UnitView). LeavesOnly g.D.Disk.moment g.D.Disk.left_since c.args.disk.now c.put.new.disk
    (Became JournalFile (MayGrow units u (outcome u.moment u.caller Restart L)) (g.D.Disk.may_leave c.args.disk.now))) same
    (c.put.ensures.any_moment units L h Restart value vouches)

pub returns-clause-any_moment : goal.returns-clause-any_moment
returns-clause-any_moment g c units L h vouches =
    let name = c.in-Ok.ensures.name in
    let value = c.from_ref-unit.ensures.value in
    let unit : UnitView = record { moment = 0; caller = c.in-Ok.system; events = c.from_ref-unit.result.now } in
    let same : unit ≡ restart_unit = λ i. record { moment = 0; caller = name i; events = value i } in
    subst (λ (u : UnitView). LeavesOnly g.D.Disk.moment g.D.Disk.left_since c.args.disk.now c.put.new.disk
    (Became JournalFile (MayGrow units u (outcome u.moment u.caller Restart L)) (g.D.Disk.may_leave c.args.disk.now))) same
    (c.put.ensures.any_moment units L h Restart value vouches)
