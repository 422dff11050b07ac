use Rattle.std.proofs.Common.{◌≡◌, length, take, IsTrue, sym, ap, subst, ◌∙◌, arith, rules}
use Rattle.std.proofs.lemmas.List.{length-take}
use Rattle.sp_disk.specs.Disk.{Folder, Telling}
use Rattle.sp_disk.specs.declared.disk.File.TheVariants.{Journal}
use Rattle.sp_journal.proofs.survey.inspect.Goals as goal

pub walk-requires-clause-born : goal.walk-requires-clause-born
walk-requires-clause-born g c told =
    let file = g.D.Disk.content c.read.new.self Journal in
    let mid = g.D.Disk.content c.len.new.self Journal in
    let read_told : IsTrue (g.D.Disk.tells c.len.new.self).content =
    subst (λ (t : Telling). IsTrue t.content) c.read.ensures.telling told in
    let len_told : IsTrue (g.D.Disk.tells c.args.disk.now).content =
    subst (λ (t : Telling). IsTrue t.content) c.len.ensures.telling read_told in
    let read_same : file ≡ mid = ap (λ (f : Folder). f Journal) c.read.ensures.content in
    let len_same : mid ≡ g.D.Disk.content c.args.disk.now Journal =
    ap (λ (f : Folder). f Journal) c.len.ensures.content in
    let long : c.in-Ok.len ≡ length file = c.in-Ok.ensures.length len_told ∙ ap length (sym (read_same ∙ len_same)) in
    let filled = c.in-Ok-read.ensures.bytes read_told in
    let all : length (take 13 mid) ≡ 13 =
    omega (arith, long, c.if-len-lt14.false, length-take 13 mid, ap length read_same) in
    let is : c.read.new.into ≡ take 13 file = search rules in
    (long, c.in_default-head_of.ensures file long is)
