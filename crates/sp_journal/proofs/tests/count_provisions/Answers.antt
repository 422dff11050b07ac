use Rattle.std.proofs.Common.{◌≡◌, ℕ, List, [], ◌∷◌, ◌++◌, Option, IsTrue, sym, ap, subst}
use Rattle.sp_disk.specs.Disk.{Folder, Telling}
use Rattle.sp_disk.specs.declared.disk.File.TheVariants.{Journal as JournalFile}
use Rattle.sp_journal.specs.Format.{ComesTo}
use Rattle.sp_journal.specs.Survey.{GivesUnit}
use Rattle.sp_journal.proofs.tests.count_provisions.Goals as goal

pub units-preserved : goal.units-preserved
units-preserved g c = record {
  comes = λ told born.
      let file = g.D.Disk.content c.units.disk JournalFile in
      let body = c.unit.new.into.items in
      let looked = c.unit.ensures.looked in
      let before : IsTrue (g.D.Disk.tells c.units.disk).content =
      subst (λ (t : Telling). IsTrue t.content) looked.same_telling told in
      let same : g.D.Disk.content c.unit.new.disk JournalFile ≡ file =
      ap (λ (f : Folder). f JournalFile) looked.same_content in
      let comes = c.units.invariant.comes before born in
      let gives = c.in_ok-next.ensures.unit before born comes.0 comes.1 in
      let next = subst (λ (o : Option ℕ). GivesUnit comes.0 c.units.place body file o) c.in-Some.is gives in (
        comes.0 ++ next.0 ∷ [],
        subst (λ (l : List ℕ). ComesTo (comes.0 ++ next.0 ∷ []) c.in-Some.next l) (sym same) next.3,
      );
}

pub units-init : goal.units-init
units-init g c = record {
  comes = λ told born.
      let looked = c.look.ensures.looked in
      let before : IsTrue (g.D.Disk.tells c.args.disk.now).content =
      subst (λ (t : Telling). IsTrue t.content) looked.same_telling told in
      let file = g.D.Disk.content c.args.disk.now JournalFile in
      let same : g.D.Disk.content c.look.new.disk JournalFile ≡ file =
      ap (λ (f : Folder). f JournalFile) looked.same_content in
      ([], subst (ComesTo [] 13) (sym same) (c.in-Ok.ensures.first before born));
}
