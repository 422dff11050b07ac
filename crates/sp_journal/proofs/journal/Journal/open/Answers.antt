use Rattle.std.proofs.Common.{◌≡◌, ℕ, List, IsTrue, ◌∙◌, refl, sym, ap, subst, inl, inr}
use Rattle.sp_disk.specs.Disk.{Folder, Telling}
use Rattle.sp_disk.specs.Everywhere.{Vouches}
use Rattle.sp_disk.specs.declared.disk.File.TheVariants.{Journal as JournalFile}
use Rattle.sp_disk.proofs.EverywhereLemmas.{followed, reaches_none}
use Rattle.sp_disk.proofs.LookedLemmas.{adds_none_and_looks}
use Rattle.sp_unit.specs.UnitBytes.{UnitView}
use Rattle.sp_journal.specs.Damage.{IsDamaged}
use Rattle.sp_journal.specs.Format.{EndsAt}
use Rattle.sp_journal.specs.Survey.{IsSo}
use Rattle.sp_journal.specs.Unsure.{KeepsUnits}
use Rattle.sp_journal.specs.declared.survey.Survey.{Survey}
use Rattle.sp_journal.specs.declared.survey.Survey.TheVariants.{Ends}
use Rattle.sp_journal.proofs.Births.{keeps_on}
use Rattle.sp_journal.proofs.Opens.{all_as_read, where_told}
use Rattle.sp_journal.proofs.Walks.{ends_first}
use Rattle.sp_journal.proofs.journal.Journal.open.Goals as goal

pub returns-in-Damaged-clause-damaged : goal.returns-in-Damaged-clause-damaged
returns-in-Damaged-clause-damaged g c told file at is =
    let bytes = g.D.Disk.content c.args.disk.now JournalFile in
    let mid = g.D.Disk.content c.sync.new.self JournalFile in
    let same : mid ≡ bytes = ap (λ (f : Folder). f JournalFile) c.sync.ensures.content in
    let still : IsTrue (g.D.Disk.tells c.sync.new.self).content =
    subst (λ (t : Telling). IsTrue t.content) (sym c.sync.ensures.telling) told in
    let damaged : IsDamaged c.in-Damaged.at bytes = subst (λ (l : List ℕ). IsDamaged c.in-Damaged.at l) same
    (subst (λ (s : Survey). IsSo s mid) c.in-Damaged.is (c.in-Ok-inspect.ensures.found still)) in
    let none : 0 ≡ file = cc in
    let here : c.in-Damaged.at ≡ at = cc in
    (sym none, subst (λ (n : ℕ). IsDamaged n bytes) here damaged)

pub returns-in-Ends-clause-units : goal.returns-in-Ends-clause-units
returns-in-Ends-clause-units g c =
    let file = g.D.Disk.content c.args.disk.now JournalFile in
    let mid = g.D.Disk.content c.sync.new.self JournalFile in
    let place = c.in-Ends.place in
    let same : mid ≡ file = ap (λ (f : Folder). f JournalFile) c.sync.ensures.content in
    let ends : IsTrue (g.D.Disk.tells c.args.disk.now).content → (units : List UnitView) × EndsAt units place file =
    λ told.
    let still : IsTrue (g.D.Disk.tells c.sync.new.self).content =
    subst (λ (t : Telling). IsTrue t.content) (sym c.sync.ensures.telling) told in
    subst (λ (l : List ℕ). IsSo (Ends place) l) same
    (subst (λ (s : Survey). IsSo s mid) c.in-Ends.is (c.in-Ok-inspect.ensures.found still)) in
    let chosen = where_told (g.D.Disk.tells c.args.disk.now).content (λ units. EndsAt units place file) ends in (
      chosen.0,
      record {
        sure = refl;
        ends = all_as_read g.D.Disk.tells g.D.Disk.content g.D.Disk.may_leave g.D.Disk.moment g.D.Disk.left_since
            c.args.disk.now c.sync.new.self c.inspect.new.disk c.sync.ensures.content c.sync.ensures.telling
            c.in-Ok.ensures.durable c.inspect.ensures.looked (EndsAt chosen.0 place) chosen.1;
      },
      λ told. inr (place, chosen.1 told),
    )

pub returns-in-Ends-clause-first : goal.returns-in-Ends-clause-first
returns-in-Ends-clause-first g c told =
    let it = returns-in-Ends-clause-units g c in
    let still : IsTrue (g.D.Disk.tells c.inspect.new.disk).content = subst (λ (t : Telling). IsTrue t.content)
    (sym (c.inspect.ensures.looked.same_telling ∙ c.sync.ensures.telling)) told in
    ends_first it.0 c.in-Ends.place (g.D.Disk.content c.inspect.new.disk JournalFile) (it.1.ends.reads still)

pub returns-in-Ok-birth-clause-any_moment : goal.returns-in-Ok-birth-clause-any_moment
returns-in-Ok-birth-clause-any_moment g c vouches =
    let old = c.args.disk.now in
    let looked = reaches_none g.D.Disk.moment g.D.Disk.left_since JournalFile old c.inspect.new.disk
    (g.D.Disk.may_leave old)
    KeepsUnits (λ bytes. inl refl)
    (adds_none_and_looks g.D.Disk.tells g.D.Disk.content g.D.Disk.may_leave g.D.Disk.moment
    g.D.Disk.left_since g.met.D.Disk.only_now old c.sync.new.self c.inspect.new.disk c.sync.ensures.images
    c.sync.ensures.time c.inspect.ensures.looked) in
    followed g.D.Disk.moment g.D.Disk.left_since g.D.Disk.may_leave JournalFile g.met.D.Disk.counts_now old
    c.inspect.new.disk c.birth.new.disk KeepsUnits KeepsUnits KeepsUnits (λ a b keeps. keeps) keeps_on looked
    (c.birth.ensures.moments
    (subst Vouches (sym (c.inspect.ensures.looked.same_telling ∙ c.sync.ensures.telling)) vouches))

pub returns-in-Err-clause-any_moment : goal.returns-in-Err-clause-any_moment
returns-in-Err-clause-any_moment g c vouches =
    let old = c.args.disk.now in
    let looked = reaches_none g.D.Disk.moment g.D.Disk.left_since JournalFile old c.inspect.new.disk
    (g.D.Disk.may_leave old)
    KeepsUnits (λ bytes. inl refl)
    (adds_none_and_looks g.D.Disk.tells g.D.Disk.content g.D.Disk.may_leave g.D.Disk.moment
    g.D.Disk.left_since g.met.D.Disk.only_now old c.sync.new.self c.inspect.new.disk c.sync.ensures.images
    c.sync.ensures.time c.inspect.ensures.looked) in
    followed g.D.Disk.moment g.D.Disk.left_since g.D.Disk.may_leave JournalFile g.met.D.Disk.counts_now old
    c.inspect.new.disk c.birth.new.disk KeepsUnits KeepsUnits KeepsUnits (λ a b keeps. keeps) keeps_on looked
    (c.birth.ensures.moments
    (subst Vouches (sym (c.inspect.ensures.looked.same_telling ∙ c.sync.ensures.telling)) vouches))
