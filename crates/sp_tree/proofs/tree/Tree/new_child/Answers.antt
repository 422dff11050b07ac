use Rattle.std.proofs.Common.{◌≡◌, ◌∙◌, ◌++◌, ◌∷◌, [], length, Some, arith, rules, sym, ap, subst}
use Rattle.std.specs.Prelude.{slice_set}
use Rattle.sp_tree.specs.Nodes.{Grows, HoldsSame, IsTree, next}
use Rattle.sp_tree.proofs.Changes.{read}
use Rattle.sp_tree.proofs.Ends.{grown_same, grows_none, tree_same}
use Rattle.sp_tree.proofs.NewChild.{found_child, same_ends, same_room, with_child}
use Rattle.sp_tree.proofs.Trees.{HasChild, child_grows, child_tree}
use Rattle.sp_tree.proofs.tree.Tree.new_child.Goals as goal
use Rattle.sp_tree.proofs.tree.Tree.new_child.Goals.{After-push_reserved}

pub invariant_of-self-in_err-set_child : goal.invariant_of-self-in_err-set_child
invariant_of-self-in_err-set_child c =
    let same = c.reserve.ensures.items ∙ c.self.view_is in
    let node = read c.reserve.new.self.items c.args.self.now c.args.at c.index_mut.result.now same c.requires.within c.index_mut.ensures.value in
    subst (λ ns. IsTree (slice_set ns c.args.at c.set_child.new.self)) (sym same)
    (tree_same c.args.self.now (subst IsTree c.self.view_is c.self.invariant) c.args.at c.index_mut.result.now c.set_child.new.self c.requires.within node c.in_err-set_child.ensures.err c.set_child.ensures.texts
    (same_ends c.index_mut.result.now c.set_child.new.self c.set_child.ensures.here c.set_child.ensures.below) (same_room c.index_mut.result.now c.set_child.new.self c.set_child.ensures.here c.set_child.ensures.below))

pub returns-in_err-set_child-clause-grows : goal.returns-in_err-set_child-clause-grows
returns-in_err-set_child-clause-grows c =
    let same = c.reserve.ensures.items ∙ c.self.view_is in
    let node = read c.reserve.new.self.items c.args.self.now c.args.at c.index_mut.result.now same c.requires.within c.index_mut.ensures.value in
    subst (λ ns. Grows c.args.self.now (slice_set ns c.args.at c.set_child.new.self)) (sym same)
    (grows_none c.args.self.now (subst IsTree c.self.view_is c.self.invariant) c.args.at c.index_mut.result.now c.set_child.new.self c.requires.within node c.in_err-set_child.ensures.err c.set_child.ensures.texts
    (same_ends c.index_mut.result.now c.set_child.new.self c.set_child.ensures.here c.set_child.ensures.below) (same_room c.index_mut.result.now c.set_child.new.self c.set_child.ensures.here c.set_child.ensures.below))

has_child : (c : After-push_reserved) → HasChild c.args.self.now c.push_reserved.new.self.items c.args.at c.args.level.now
has_child c =
    let size : c.len-place.result ≡ length c.self.inside.nodes.items = search rules in
    let same = c.reserve.ensures.items ∙ c.self.view_is in
    let node = read c.reserve.new.self.items c.args.self.now c.args.at c.index_mut.result.now same c.requires.within c.index_mut.ensures.value in
    with_child c.args.self.now c.push_reserved.new.self.items (subst IsTree c.self.view_is c.self.invariant) c.args.at c.args.level.now c.len-place.result c.index_mut.result.now c.set_child.new.self c.new.result c.requires.within node c.requires.none
    (size ∙ ap length c.self.view_is) (c.push_reserved.ensures.items ∙ ap (λ ns. slice_set ns c.args.at c.set_child.new.self ++ c.new.result ∷ []) same)
    c.in_ok-set_child.ensures.ok c.set_child.ensures.texts
    c.set_child.ensures.here c.set_child.ensures.below
    c.new.ensures.children c.new.ensures.texts c.new.ensures.endpoints

pub invariant_of-self-2 : goal.invariant_of-self-2
invariant_of-self-2 c =
    let tree = subst IsTree c.self.view_is c.self.invariant in
    child_tree c.args.self.now c.push_reserved.new.self.items c.args.at c.args.level.now tree (has_child c)
    (grown_same c.args.self.now c.push_reserved.new.self.items (omega (arith, c.requires.within)) (child_grows c.args.self.now c.push_reserved.new.self.items c.args.at c.args.level.now tree (has_child c)))

pub returns-clause-next : goal.returns-clause-next
returns-clause-next c =
    let size : c.len-place.result ≡ length c.self.inside.nodes.items = search rules in
    found_child c.args.self.now c.push_reserved.new.self.items c.args.at c.args.level.now (has_child c) ∙ ap Some (sym (size ∙ ap length c.self.view_is))

pub returns-clause-grows : goal.returns-clause-grows
returns-clause-grows c = child_grows c.args.self.now c.push_reserved.new.self.items c.args.at c.args.level.now (subst IsTree c.self.view_is c.self.invariant) (has_child c)
