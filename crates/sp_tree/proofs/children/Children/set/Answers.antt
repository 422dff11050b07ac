use Rattle.std.proofs.Common.{◌≡◌, ◌∙◌, ap, sym, Some, cond}
use Rattle.std.specs.Prelude.{bytes_eq}
use Rattle.std.specs.Map.{lookup}
use Rattle.sp_tree.specs.Children.{child}
use Rattle.sp_tree.proofs.Lookups.{inserted, seen}
use Rattle.sp_tree.proofs.children.Children.set.Goals as goal

pub returns-clause-ok : goal.returns-clause-ok
returns-clause-ok c = λ other.
    seen other c.insert.new.self.entries
    ∙ ap (lookup (λ k. bytes_eq other k.items)) c.in_ok-insert.ensures.entries
    ∙ inserted c.in_ok-key.key c.args.place c.self.inside.places.entries other
    ∙ (λ i. cond (bytes_eq (c.in_ok-key.ensures.items i) other) (Some c.args.place) (lookup (λ k. bytes_eq other k.items) c.self.inside.places.entries))
    ∙ ap (cond (bytes_eq c.args.text.now other) (Some c.args.place)) (sym (seen other c.self.inside.places.entries) ∙ ap (λ cs. child cs other) c.self.view_is)
