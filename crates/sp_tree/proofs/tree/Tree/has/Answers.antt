use Rattle.std.proofs.Common.{◌≡◌, ◌∙◌, sym, ap}
use Rattle.sp_tree.specs.Nodes.{has_number}
use Rattle.sp_tree.proofs.Changes.{read}
use Rattle.sp_tree.proofs.Ends.{holders_at, pair_at}
use Rattle.sp_tree.proofs.tree.Tree.has.Goals as goal

pub returns-in-Some : goal.returns-in-Some
returns-in-Some c =
    let node = read c.self.inside.nodes.items c.args.self.now c.in-Some.at c.index.result.now c.self.view_is c.in-Some.ensures.within c.index.ensures in
    c.has_number.ensures ∙ ap (λ es. has_number es c.args.endpoint) c.endpoints.ensures
    ∙ sym (pair_at c.args.self.now c.args.endpoint c.args.subscription.now _ (holders_at c.args.self.now c.args.subscription.now c.in-Some.at c.index.result.now c.of.result c.in-Some.ensures.value node c.of.ensures.rest c.of.ensures.exception))
