use Rattle.std.proofs.Common.{sym}
use Rattle.std.proofs.lemmas.List.{take_rest}
use Rattle.sp_topic.proofs.Cuts.{levels-no_slash, levels-slash_at}
use Rattle.sp_topic.proofs.cut.cut_level.Goals as goal

pub returns-in-Some-clause-levels : goal.returns-in-Some-clause-levels
returns-in-Some-clause-levels c =
    rw take_rest (levels-slash_at c.args.text.now c.in-Some.at (sym c.in-Some.ensures))

pub returns-in-None-clause-levels : goal.returns-in-None-clause-levels
returns-in-None-clause-levels c = levels-no_slash c.args.text.now (sym c.in-None.ensures)
