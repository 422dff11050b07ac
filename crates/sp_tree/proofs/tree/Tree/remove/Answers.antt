use Rattle.std.proofs.Common.{◌≡◌, ◌∙◌, sym, ap, subst}
use Rattle.std.specs.Prelude.{slice_set}
use Rattle.sp_tree.specs.Nodes.{IsTree}
use Rattle.sp_tree.proofs.Changes.{read}
use Rattle.sp_tree.proofs.Ends.{alike, keeps_room, plain_alike, none_taken, takes_pair_out, tree_less}
use Rattle.sp_tree.proofs.tree.Tree.remove.Goals as goal

pub invariant_of-self : goal.invariant_of-self
invariant_of-self c =
    let node = read c.self.inside.nodes.items c.args.self.now c.in-Some.at c.index_mut.result.now c.self.view_is c.in-Some.ensures.within c.index_mut.ensures.value in
    subst (λ ns. IsTree (slice_set ns c.in-Some.at c.remove.new.self)) (sym c.self.view_is)
    (tree_less c.args.self.now (subst IsTree c.self.view_is c.self.invariant) c.in-Some.at c.index_mut.result.now c.remove.new.self c.in-Some.ensures.within node (alike c.index_mut.result.now c.remove.new.self c.remove.ensures.by_text c.remove.ensures.by_prefix) (plain_alike c.index_mut.result.now c.remove.new.self c.remove.ensures.by_text) c.args.subscription.now c.of.result c.in-Some.ensures.value c.of.ensures.rest c.of.ensures.exception c.args.endpoint c.remove.ensures.endpoints)

pub returns-in-Some-clause-pairs : goal.returns-in-Some-clause-pairs
returns-in-Some-clause-pairs c = λ endpoint text.
    let node = read c.self.inside.nodes.items c.args.self.now c.in-Some.at c.index_mut.result.now c.self.view_is c.in-Some.ensures.within c.index_mut.ensures.value in
    rw c.self.view_is
    (takes_pair_out c.args.self.now (subst IsTree c.self.view_is c.self.invariant) c.in-Some.at c.index_mut.result.now c.remove.new.self c.in-Some.ensures.within node (alike c.index_mut.result.now c.remove.new.self c.remove.ensures.by_text c.remove.ensures.by_prefix) (plain_alike c.index_mut.result.now c.remove.new.self c.remove.ensures.by_text) c.args.subscription.now c.of.result c.in-Some.ensures.value c.of.ensures.rest c.of.ensures.exception c.args.endpoint c.remove.ensures.endpoints endpoint text)

pub returns-in-Some-clause-room : goal.returns-in-Some-clause-room
returns-in-Some-clause-room c = λ text h.
    let node = read c.self.inside.nodes.items c.args.self.now c.in-Some.at c.index_mut.result.now c.self.view_is c.in-Some.ensures.within c.index_mut.ensures.value in
    rw c.self.view_is
    (keeps_room c.args.self.now (subst IsTree c.self.view_is c.self.invariant) c.in-Some.at c.index_mut.result.now c.remove.new.self c.in-Some.ensures.within node (alike c.index_mut.result.now c.remove.new.self c.remove.ensures.by_text c.remove.ensures.by_prefix) (plain_alike c.index_mut.result.now c.remove.new.self c.remove.ensures.by_text) c.remove.ensures.room text h)

pub returns-in_default-clause-pairs : goal.returns-in_default-clause-pairs
returns-in_default-clause-pairs c = none_taken c.args.self.now c.args.endpoint c.args.subscription.now c.in_default.ensures.value
