use Rattle.std.proofs.Common.{◌==◌, ◌&&◌, ◌∙◌, not, ap, sym}
use Rattle.sp_tree.specs.Tree.{has_pair}
use Rattle.sp_endpoint.proofs.Renewals.{goes_out, is_kept, nothing_out}
use Rattle.sp_endpoint.proofs.renewal.take_one_out.Goals as goal

pub returns-then-not-has : goal.returns-then-not-has
returns-then-not-has c n text =
    c.remove.ensures.pairs n text
    ∙ ap (λ b. has_pair c.args.tree.now n text && not (n == c.args.number && b))
    (goes_out c.args.kept.now c.args.gone.now text (sym c.has.ensures ∙ c.if-not-has.true))

pub returns-else-not-has : goal.returns-else-not-has
returns-else-not-has c n text =
    nothing_out (has_pair c.args.tree.now n text) (n == c.args.number) _
    (is_kept c.args.kept.now c.args.gone.now text (sym c.has.ensures ∙ c.if-not-has.false))
