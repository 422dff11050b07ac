use Rattle.sp_selector.specs.Takes.{takes}
use Rattle.sp_selector.specs.Tree.{expression}
use Rattle.sp_selector.proofs.Answered.{takes_by_tree}
use Rattle.std.proofs.Common.{ap, ◌∙◌}
use Rattle.sp_selector.proofs.selector.Selector.takes.Goals as goal

pub returns : goal.returns
returns c =
    c.is_true.ensures
    ∙ takes_by_tree c.self.inside.text (expression c.self.inside.tree) c.args.properties.now c.self.invariant
    ∙ ap (λ text. takes text c.args.properties.now) c.self.view_is
