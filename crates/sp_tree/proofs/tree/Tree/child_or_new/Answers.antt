use Rattle.std.proofs.Common.{◌≡◌, ◌∙◌, sym, ap, subst, Some}
use Rattle.sp_tree.specs.Nodes.{IsTree}
use Rattle.sp_tree.proofs.Changes.{child_inside, next_read, read}
use Rattle.sp_tree.proofs.tree.Tree.child_or_new.Goals as goal

pub returns-in-Some-clause-within : goal.returns-in-Some-clause-within
returns-in-Some-clause-within c =
    let node = read c.self.inside.nodes.items c.args.self.now c.args.at c.index.result.now c.self.view_is c.requires c.index.ensures in
    child_inside c.args.self.now (subst IsTree c.self.view_is c.self.invariant) c.args.at c.args.level.now (Some c.in-Some.child)
    (c.in-Some.ensures ∙ sym (next_read c.args.self.now c.args.at c.index.result.now c.args.level.now node))
