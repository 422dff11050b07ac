use Rattle.std.proofs.Common.{◌≡◌, sym, ◌∙◌}
use Rattle.sp_base.proofs.Named.{named_exactly}
use Rattle.sp_base.proofs.choice.named.Goals as goal

pub returns-clause-exact : goal.returns-clause-exact
returns-clause-exact g c = λ c'.
    let exact = named_exactly g.C.Choice.word_of g.C.Choice.choices g.met.C.Choice.each_by_its_word c.args.word.now c' in
    rw (c.copied.ensures ∙ c.among.ensures, c.all.ensures) exact
