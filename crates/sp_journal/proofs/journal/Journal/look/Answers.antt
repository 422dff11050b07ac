use Rattle.std.proofs.Common.{◌≡◌, ℕ, sym, subst}
use Rattle.sp_disk.specs.declared.disk.File.TheVariants.{Journal as JournalFile}
use Rattle.sp_journal.specs.Damage.{IsDamaged}
use Rattle.sp_journal.specs.Survey.{IsSo}
use Rattle.sp_journal.specs.declared.survey.Survey.{Survey}
use Rattle.sp_journal.specs.declared.survey.Survey.TheVariants.{Ends}
use Rattle.sp_journal.proofs.Walks.{ends_first}
use Rattle.sp_journal.proofs.journal.Journal.look.Goals as goal

pub returns-in-Damaged-clause-damaged : goal.returns-in-Damaged-clause-damaged
returns-in-Damaged-clause-damaged g c told file at is =
    let bytes = g.D.Disk.content c.args.disk.now JournalFile in
    let damaged : IsDamaged c.in-Damaged.at bytes =
    subst (λ (s : Survey). IsSo s bytes) c.in-Damaged.is (c.in-Ok.ensures.found told) in
    let none : 0 ≡ file = cc in
    let here : c.in-Damaged.at ≡ at = cc in
    (sym none, subst (λ (n : ℕ). IsDamaged n bytes) here damaged)

pub returns-in-Ends-clause-first : goal.returns-in-Ends-clause-first
returns-in-Ends-clause-first g c told born =
    let bytes = g.D.Disk.content c.args.disk.now JournalFile in
    let ends : IsSo (Ends c.in-Ends.place) bytes =
    subst (λ (s : Survey). IsSo s bytes) c.in-Ends.is (c.in-Ok.ensures.found told) in
    ends_first ends.0 c.in-Ends.place bytes ends.1
