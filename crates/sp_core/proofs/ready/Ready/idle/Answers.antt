use Rattle.sp_core.proofs.Deciding.{idle_where}
use Rattle.sp_core.specs.Decided.{ReadyState}
use Rattle.sp_ledger.specs.Step.{begun}
use Rattle.std.proofs.Common.{ap, rules, ◌∙◌}
use Rattle.std.specs.Prelude.{length, ◌==◌, ◌≡◌}
use Rattle.sp_core.proofs.ready.Ready.idle.Goals as goal

pub returns : goal.returns
returns c core caller event p L s =
    let empty : c.is_empty.result ≡ (length c.self.inside.changes.items == 0) = search rules in
    empty
    ∙ idle_where c.self.inside.changes.items c.args.self.now.changes p.decided.reply (begun c.args.self.now.moment L) _
    (ap (λ (r : ReadyState). r.changes) c.self.view_is) (p.decided.outcome L s)
