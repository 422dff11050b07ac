use Rattle.std.proofs.Common.{rules, not}
use Rattle.std.specs.Prelude.{◌==◌}
use Rattle.std.proofs.lemmas.Fn.{filter_same}
use Rattle.sp_copies.proofs.held.let_go.Goals as goal

pub returns-clause-items : goal.returns-clause-items
returns-clause-items c = filter_same _ (λ h. not (h.copy == c.args.copy)) _
    (λ x b f k. search rules) c.args.held.now.items c.retain.new.self.items c.retain.ensures.items
