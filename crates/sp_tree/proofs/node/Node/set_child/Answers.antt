use Rattle.std.proofs.Common.{◌≡◌, ◌∙◌, ap, sym}
use Rattle.std.proofs.lemmas.Result.{on_ok_weaker}
use Rattle.sp_tree.proofs.Lookups.{cut_prefix, named_prefix}
use Rattle.sp_tree.proofs.node.Node.set_child.Goals as goal

pub returns-in-Some-clause-ok : goal.returns-in-Some-clause-ok
returns-in-Some-clause-ok c =
    let parts = c.in-Some.ensures.cases in
    on_ok_weaker c.set.result (λ named. named_prefix c.args.level.now c.in-Some.prefix.now c.args.self.now.by_prefix c.set.new.self c.args.self.now.by_text c.args.place (cut_prefix c.args.level.now c.in-Some.prefix.now parts.0 parts.1) named) c.set.ensures.ok
