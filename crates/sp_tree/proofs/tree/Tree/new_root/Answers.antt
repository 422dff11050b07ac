use Rattle.std.proofs.Common.{◌≡◌, ◌∙◌, sym, ap, subst, None}
use Rattle.sp_tree.specs.Nodes.{HoldsSame, IsTree, root}
use Rattle.sp_tree.proofs.Trees.{sprouts}
use Rattle.sp_tree.proofs.tree.Tree.new_root.Goals as goal

pub invariant_of-self-2 : goal.invariant_of-self-2
invariant_of-self-2 c =
    (sprouts c.self.inside.nodes.items c.push.new.self.items c.new.result (ap root c.self.view_is ∙ c.requires) c.in_ok-push.ensures.items c.new.ensures.children c.new.ensures.texts c.new.ensures.endpoints).0

pub returns-clause-root : goal.returns-clause-root
returns-clause-root c =
    (sprouts c.self.inside.nodes.items c.push.new.self.items c.new.result (ap root c.self.view_is ∙ c.requires) c.in_ok-push.ensures.items c.new.ensures.children c.new.ensures.texts c.new.ensures.endpoints).2

pub returns-clause-within : goal.returns-clause-within
returns-clause-within c =
    (sprouts c.self.inside.nodes.items c.push.new.self.items c.new.result (ap root c.self.view_is ∙ c.requires) c.in_ok-push.ensures.items c.new.ensures.children c.new.ensures.texts c.new.ensures.endpoints).3

pub returns-clause-held : goal.returns-clause-held
returns-clause-held c =
    subst (λ ns. HoldsSame ns c.push.new.self.items) c.self.view_is
    (sprouts c.self.inside.nodes.items c.push.new.self.items c.new.result (ap root c.self.view_is ∙ c.requires) c.in_ok-push.ensures.items c.new.ensures.children c.new.ensures.texts c.new.ensures.endpoints).1
