use Rattle.std.proofs.Common.{◌≡◌, ap, subst, sym}
use Rattle.sp_disk.specs.Everywhere.{Became, Vouches}
use Rattle.sp_disk.specs.Moments.{LeavesOnly}
use Rattle.sp_disk.specs.declared.disk.File.TheVariants.{Journal as JournalFile}
use Rattle.sp_journal.specs.State.{place_of}
use Rattle.sp_ledger.specs.Events.{outcome}
use Rattle.sp_store.proofs.Left.{commits_left}
use Rattle.sp_store.proofs.TakenIn.{one_of}
use Rattle.sp_store.specs.Commit.{Commits, MayHave}
use Rattle.sp_store.specs.State.{Holds, StandsFor, StoreState}
use Rattle.sp_unit.specs.UnitBytes.{UnitView}
use Rattle.sp_store.proofs.store.Store.commit.Goals as goal

pub invariant_of-self : goal.invariant_of-self
invariant_of-self g c =
    let unit : UnitView = record { moment = c.args.now; caller = c.args.from.now; events = c.args.unit.now } in
    let own = c.self.invariant in
    let e = one_of c.args.unit.now c.requires.one in
    commits_left (λ unsure us M. Holds g.D.Disk.tells g.D.Disk.content g.D.Disk.may_leave unsure us M
    c.heal_and_put.new.journal c.heal_and_put.new.core c.heal_and_put.new.disk) unit own.1 own.2 own.0
    (place_of c.self.inside.journal) c.self.inside.max e.0 (outcome c.args.now c.args.from.now e.0 own.2)
    c.heal_and_put.result (c.heal_and_put.ensures.commits own.0 own.1 own.2 own.3 e.0 e.1)

pub returns-clause-commits : goal.returns-clause-commits
returns-clause-commits g c maybe units L h event one =
    let unit : UnitView = record { moment = c.args.now; caller = c.args.from.now; events = c.args.unit.now } in
    let was = subst (λ (s : StoreState _). StandsFor g.D.Disk.tells g.D.Disk.content g.D.Disk.may_leave maybe units L s)
    (sym c.self.view_is) h in
    subst (λ (s : StoreState _). Commits (λ unsure us M. Holds g.D.Disk.tells g.D.Disk.content g.D.Disk.may_leave unsure us M
    c.heal_and_put.new.journal c.heal_and_put.new.core c.heal_and_put.new.disk) unit units L maybe (place_of s.journal) s.max
    event (outcome c.args.now c.args.from.now event L) c.heal_and_put.result) c.self.view_is
    (c.heal_and_put.ensures.commits maybe units L was event one)

pub returns-clause-any_moment : goal.returns-clause-any_moment
returns-clause-any_moment g c maybe units L h event one vouches =
    let unit : UnitView = record { moment = c.args.now; caller = c.args.from.now; events = c.args.unit.now } in
    let was = subst (λ (s : StoreState _). StandsFor g.D.Disk.tells g.D.Disk.content g.D.Disk.may_leave maybe units L s)
    (sym c.self.view_is) h in
    let same : c.args.self.now.disk ≡ c.self.inside.disk = ap (λ (s : StoreState _). s.disk) (sym c.self.view_is) in
    let vouch = subst (λ (d : _). Vouches (g.D.Disk.tells d)) same vouches in
    subst (λ (d : _). LeavesOnly g.D.Disk.moment g.D.Disk.left_since d c.heal_and_put.new.disk
    (Became JournalFile (MayHave maybe units unit (outcome c.args.now c.args.from.now event L)) (g.D.Disk.may_leave d)))
    (sym same) (c.heal_and_put.ensures.any_moment maybe units L was event one vouch)
