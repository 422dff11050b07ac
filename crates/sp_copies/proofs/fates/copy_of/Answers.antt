use Rattle.std.proofs.Common.{◌==◌, ◌∙◌, rules, tests}
use Rattle.std.proofs.lemmas.Iterator.{YieldsList-from_slice}
use Rattle.std.proofs.lemmas.Iterator.Search.{find_from_yields_List}
use Rattle.sp_copies.proofs.fates.copy_of.Goals as goal

pub returns : goal.returns
returns c = c.copied.ensures ∙ find_from_yields_List (λ x. x.number == c.args.copy) _ _ _ c.find.ensures.ran
    (YieldsList-from_slice c.args.made.now (cc)) (λ x b q k. search (rules, tests))
