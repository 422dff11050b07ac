use Rattle.std.proofs.Common.{◌≡◌, ◌∙◌, sym, Some, None, refl, rules}
use Rattle.sp_disk.specs.declared.disk.File.TheVariants.{Journal as JournalFile}
use Rattle.sp_disk.proofs.EverywhereLemmas.{reaches, settles, stays}
use Rattle.sp_journal.specs.Closing.{MayClose}
use Rattle.sp_journal.specs.Format.{EndsAt}
use Rattle.sp_journal.specs.Unsure.{IsUnsure, HasUnitsOr}
use Rattle.sp_journal.proofs.Closes.{unsure_closing, unsure_closed}
use Rattle.sp_journal.specs.declared.journal.State.TheVariants.{Unsure}
use Rattle.sp_journal.proofs.States.{settled_not_unsure}
use Rattle.sp_journal.proofs.UnitSteps.{units_or}
use Rattle.sp_journal.proofs.journal.Journal.heal.Goals as goal

pub returns-in-Ok-clause-healed : goal.returns-in-Ok-clause-healed
returns-in-Ok-clause-healed g c None units was =
    let unsure : c.args.self.now.state ≡ Unsure = search rules in
    absurd (settled_not_unsure (sym was.sure ∙ unsure))
returns-in-Ok-clause-healed g c (Some unit) units was =
    let place = c.args.self.now.place in
    record {
      sure = refl;
      ends = settles g.D.Disk.tells g.D.Disk.content g.D.Disk.may_leave JournalFile c.args.disk.now c.close.new.disk
          (EndsAt units place) c.close.ensures.telling
          (λ told. unsure_closed units place unit _ _ (was.gate.reads told) (c.in-Ok.ensures.closed told))
          c.in-Ok.ensures.durable;
    }

pub returns-in-Ok-clause-any_moment : goal.returns-in-Ok-clause-any_moment
returns-in-Ok-clause-any_moment g c None units was vouches =
    let unsure : c.args.self.now.state ≡ Unsure = search rules in
    absurd (settled_not_unsure (sym was.sure ∙ unsure))
returns-in-Ok-clause-any_moment g c (Some unit) units was vouches =
    let old = c.args.disk.now in
    let place = c.args.self.now.place in
    let here = g.D.Disk.content old JournalFile in
    reaches g.D.Disk.moment g.D.Disk.left_since JournalFile old c.close.new.disk (g.D.Disk.may_leave old)
    (IsUnsure units unit place) (MayClose place here) (λ before. HasUnitsOr units unit) (was.gate.images vouches)
    (λ a b unsure closing. units_or units place unit b (unsure_closing units place unit here a b unsure closing))
    (c.close.ensures.moments vouches)

pub returns-in-Err-clause-kept : goal.returns-in-Err-clause-kept
returns-in-Err-clause-kept g c None units was =
    let unsure : c.args.self.now.state ≡ Unsure = search rules in
    absurd (settled_not_unsure (sym was.sure ∙ unsure))
returns-in-Err-clause-kept g c (Some unit) units was =
    let old = c.args.disk.now in
    let place = c.args.self.now.place in
    let here = g.D.Disk.content old JournalFile in
    record {
      unsure = was.unsure;
      gate = stays g.D.Disk.moment g.D.Disk.left_since JournalFile old c.close.new.disk g.D.Disk.tells g.D.Disk.content
          g.D.Disk.may_leave c.close.ensures.telling g.met.D.Disk.counts_now (MayClose place here)
          (IsUnsure units unit place)
          (IsUnsure units unit place) c.close.ensures.reads c.close.ensures.moments
          (unsure_closing units place unit here) was.gate;
    }

pub returns-in-Err-clause-any_moment : goal.returns-in-Err-clause-any_moment
returns-in-Err-clause-any_moment g c None units was vouches =
    let unsure : c.args.self.now.state ≡ Unsure = search rules in
    absurd (settled_not_unsure (sym was.sure ∙ unsure))
returns-in-Err-clause-any_moment g c (Some unit) units was vouches =
    let old = c.args.disk.now in
    let place = c.args.self.now.place in
    let here = g.D.Disk.content old JournalFile in
    reaches g.D.Disk.moment g.D.Disk.left_since JournalFile old c.close.new.disk (g.D.Disk.may_leave old)
    (IsUnsure units unit place) (MayClose place here) (λ before. HasUnitsOr units unit) (was.gate.images vouches)
    (λ a b unsure closing. units_or units place unit b (unsure_closing units place unit here a b unsure closing))
    (c.close.ensures.moments vouches)
