use Rattle.std.proofs.Common.{rules, ◌==◌, not}
use Rattle.std.proofs.lemmas.Fn.{filter_same}
use Rattle.sp_tree.proofs.node.without.Goals as goal

pub returns-clause-items : goal.returns-clause-items
returns-clause-items c =
    filter_same _ (λ n. not (n == c.args.endpoint)) _ (λ x b f k. search rules) c.args.endpoints.now.items c.retain.new.self.items c.retain.ensures.items
