use Rattle.std.proofs.Common.{inl, inr, sym, subst, IsTrue}
use Rattle.sp_disk.specs.Disk.{Telling}
use Rattle.sp_disk.specs.Everywhere.{Vouches}
use Rattle.sp_disk.specs.declared.disk.File.TheVariants.{Journal}
use Rattle.sp_disk.proofs.EverywhereLemmas.{followed, widened}
use Rattle.sp_journal.specs.Format.{EndsAt}
use Rattle.sp_journal.specs.Unsure.{Offers, IsUnsure}
use Rattle.sp_journal.proofs.UnitSteps.{ends_over}
use Rattle.sp_journal.proofs.gates.add.Goals as goal

pub returns-in_err-show-clause-unsure : goal.returns-in_err-show-clause-unsure
returns-in_err-show-clause-unsure g c units unit was is =
    let at = c.args.place in
    widened g.D.Disk.tells g.D.Disk.content g.D.Disk.may_leave Journal c.show.new.disk (Offers units unit at)
    (IsUnsure units unit at) (λ file offers. inr offers)
    (c.show.ensures.kept units unit (c.in_ok-stage.ensures.staged units unit was is))

pub returns-in_err-show-clause-moments : goal.returns-in_err-show-clause-moments
returns-in_err-show-clause-moments g c units unit was is vouches =
    let at = c.args.place in
    followed g.D.Disk.moment g.D.Disk.left_since g.D.Disk.may_leave Journal g.met.D.Disk.counts_now c.args.disk.now
    c.stage.new.disk c.show.new.disk (λ before. EndsAt units at) (λ before. Offers units unit at)
    (λ before. IsUnsure units unit at) (λ a b ends. inl ends) (λ a b d ends offers. inr offers)
    (c.stage.ensures.moments units was vouches)
    (c.show.ensures.moments units unit (c.in_ok-stage.ensures.staged units unit was is)
    (subst Vouches (sym c.stage.ensures.telling) vouches))

pub returns-clause-written : goal.returns-clause-written
returns-clause-written g c told =
    let was = c.requires.rests in
    let still : IsTrue (g.D.Disk.tells c.stage.new.disk).content =
    subst (λ (t : Telling). IsTrue t.content) (sym c.stage.ensures.telling) told in
    ends_over was.0 c.args.place c.args.piece.now _ _ _ (was.1.reads told) (c.in_ok-stage.ensures.written told)
    (c.in_ok-show.ensures.written still)

pub returns-clause-unsure : goal.returns-clause-unsure
returns-clause-unsure g c units unit was is =
    let at = c.args.place in
    widened g.D.Disk.tells g.D.Disk.content g.D.Disk.may_leave Journal c.show.new.disk (Offers units unit at)
    (IsUnsure units unit at) (λ file offers. inr offers)
    (c.show.ensures.kept units unit (c.in_ok-stage.ensures.staged units unit was is))

pub returns-clause-moments : goal.returns-clause-moments
returns-clause-moments g c units unit was is vouches =
    let at = c.args.place in
    followed g.D.Disk.moment g.D.Disk.left_since g.D.Disk.may_leave Journal g.met.D.Disk.counts_now c.args.disk.now
    c.stage.new.disk c.show.new.disk (λ before. EndsAt units at) (λ before. Offers units unit at)
    (λ before. IsUnsure units unit at) (λ a b ends. inl ends) (λ a b d ends offers. inr offers)
    (c.stage.ensures.moments units was vouches)
    (c.show.ensures.moments units unit (c.in_ok-stage.ensures.staged units unit was is)
    (subst Vouches (sym c.stage.ensures.telling) vouches))
