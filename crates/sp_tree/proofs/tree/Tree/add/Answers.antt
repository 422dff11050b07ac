use Rattle.std.proofs.Common.{◌≡◌, ◌∙◌, sym, ap, subst, true, false}
use Rattle.std.specs.Prelude.{slice_set}
use Rattle.std.proofs.lemmas.Bool.{ltb-true, true≢false}
use Rattle.sp_tree.specs.Nodes.{IsTree, nobody}
use Rattle.sp_tree.specs.Node.{endpoints_at}
use Rattle.sp_tree.proofs.Changes.{read}
use Rattle.sp_tree.proofs.Ends.{adds_pair, alike, plain_alike, holders_at, holders_none, room_at, room_left, tree_more}
use Rattle.sp_tree.proofs.tree.Tree.add.Goals as goal

pub unreachable-requires : goal.unreachable-requires
unreachable-requires c =
    true≢false (sym c.requires ∙ room_at c.args.self.now c.args.subscription.now nobody (holders_none c.args.self.now c.args.subscription.now c.in_default.ensures.value))

pub add-requires : goal.add-requires
add-requires c =
    let node = read c.self.inside.nodes.items c.args.self.now c.in-Some.at c.index_mut.result.now c.self.view_is c.in-Some.ensures.within c.index_mut.ensures.value in
    ltb-true 0 (endpoints_at c.index_mut.result.now c.of.result.rest c.of.result.exception).room
    (sym (room_at c.args.self.now c.args.subscription.now _ (holders_at c.args.self.now c.args.subscription.now c.in-Some.at c.index_mut.result.now c.of.result c.in-Some.ensures.value node c.of.ensures.rest c.of.ensures.exception)) ∙ c.requires)

pub invariant_of-self : goal.invariant_of-self
invariant_of-self c =
    let node = read c.self.inside.nodes.items c.args.self.now c.in-Some.at c.index_mut.result.now c.self.view_is c.in-Some.ensures.within c.index_mut.ensures.value in
    subst (λ ns. IsTree (slice_set ns c.in-Some.at c.add.new.self)) (sym c.self.view_is)
    (tree_more c.args.self.now (subst IsTree c.self.view_is c.self.invariant) c.in-Some.at c.index_mut.result.now c.add.new.self c.in-Some.ensures.within node (alike c.index_mut.result.now c.add.new.self c.add.ensures.by_text c.add.ensures.by_prefix) (plain_alike c.index_mut.result.now c.add.new.self c.add.ensures.by_text) c.args.subscription.now c.of.result c.in-Some.ensures.value c.of.ensures.rest c.of.ensures.exception c.args.endpoint c.add.ensures.endpoints c.add.ensures.room)

pub returns-clause-pairs : goal.returns-clause-pairs
returns-clause-pairs c = λ endpoint text.
    let node = read c.self.inside.nodes.items c.args.self.now c.in-Some.at c.index_mut.result.now c.self.view_is c.in-Some.ensures.within c.index_mut.ensures.value in
    rw c.self.view_is
    (adds_pair c.args.self.now (subst IsTree c.self.view_is c.self.invariant) c.in-Some.at c.index_mut.result.now c.add.new.self c.in-Some.ensures.within node (alike c.index_mut.result.now c.add.new.self c.add.ensures.by_text c.add.ensures.by_prefix) (plain_alike c.index_mut.result.now c.add.new.self c.add.ensures.by_text) c.args.subscription.now c.of.result c.in-Some.ensures.value c.of.ensures.rest c.of.ensures.exception c.args.endpoint c.add.ensures.endpoints c.add.ensures.room endpoint text)

pub returns-clause-room : goal.returns-clause-room
returns-clause-room c = λ text other h.
    let node = read c.self.inside.nodes.items c.args.self.now c.in-Some.at c.index_mut.result.now c.self.view_is c.in-Some.ensures.within c.index_mut.ensures.value in
    rw c.self.view_is
    (room_left c.args.self.now (subst IsTree c.self.view_is c.self.invariant) c.in-Some.at c.index_mut.result.now c.add.new.self c.in-Some.ensures.within node (alike c.index_mut.result.now c.add.new.self c.add.ensures.by_text c.add.ensures.by_prefix) (plain_alike c.index_mut.result.now c.add.new.self c.add.ensures.by_text) c.args.subscription.now c.of.result c.in-Some.ensures.value c.of.ensures.rest c.of.ensures.exception c.args.endpoint c.add.ensures.endpoints c.add.ensures.room text other h)
