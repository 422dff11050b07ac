use Rattle.std.proofs.Common.{◌≡◌, ◌∙◌, ◌&&◌, not, ap}
use Rattle.sp_tree.specs.Nodes.{has_number}
use Rattle.sp_tree.proofs.Found.{found_contains, found_in_texts}
use Rattle.sp_tree.proofs.tree.Tree.matching.Goals as goal

pub returns-clause-endpoints : goal.returns-clause-endpoints
returns-clause-endpoints c = λ e.
    found_contains c.args.self.now c.select.ensures.tree c.args.topic.now e c.keep.new.numbers.items
    (c.keep.ensures.numbers e ∙ (λ i. c.in_ok-select-2.ensures.found e i && not ((ap (λ ns. has_number ns e) c.as_slice.ensures.value ∙ c.in_ok-select.ensures.found e) i)))

pub returns-clause-by_texts : goal.returns-clause-by_texts
returns-clause-by_texts c = λ e texts all.
    found_in_texts c.args.self.now c.select.ensures.tree c.args.topic.now e (has_number c.keep.new.numbers.items e)
    (c.keep.ensures.numbers e ∙ (λ i. c.in_ok-select-2.ensures.found e i && not ((ap (λ ns. has_number ns e) c.as_slice.ensures.value ∙ c.in_ok-select.ensures.found e) i)))
    texts all
