use Rattle.std.proofs.Common.{◌≡◌, ◌∙◌, ◌<◌, ℕ, sym, ap, subst}
use Rattle.std.specs.Prelude.{slice_set}
use Rattle.std.proofs.lemmas.Result.{on_ok_weaker}
use Rattle.sp_base.specs.Rows.{Roomy}
use Rattle.sp_tree.specs.Nodes.{HoldsSame, IsTree, endpoints_of}
use Rattle.sp_tree.proofs.Changes.{read}
use Rattle.sp_tree.proofs.Ends.{alike, endpoints_set, holds_same, places, plain_alike, tree_same}
use Rattle.sp_tree.proofs.tree.Tree.make_room.Goals as goal

pub invariant_of-self : goal.invariant_of-self
invariant_of-self c =
    let node = read c.self.inside.nodes.items c.args.self.now c.args.at c.index_mut.result.now c.self.view_is c.requires c.index_mut.ensures.value in
    subst (λ ns. IsTree (slice_set ns c.args.at c.reserve.new.self)) (sym c.self.view_is)
    (tree_same c.args.self.now (subst IsTree c.self.view_is c.self.invariant) c.args.at c.index_mut.result.now c.reserve.new.self c.requires node (alike c.index_mut.result.now c.reserve.new.self c.reserve.ensures.by_text c.reserve.ensures.by_prefix) (plain_alike c.index_mut.result.now c.reserve.new.self c.reserve.ensures.by_text) c.reserve.ensures.endpoints c.reserve.ensures.kept)

pub returns-clause-held : goal.returns-clause-held
returns-clause-held c =
    let node = read c.self.inside.nodes.items c.args.self.now c.args.at c.index_mut.result.now c.self.view_is c.requires c.index_mut.ensures.value in
    subst (λ ns. HoldsSame c.args.self.now (slice_set ns c.args.at c.reserve.new.self)) (sym c.self.view_is)
    (holds_same c.args.self.now (subst IsTree c.self.view_is c.self.invariant) c.args.at c.index_mut.result.now c.reserve.new.self c.requires node (alike c.index_mut.result.now c.reserve.new.self c.reserve.ensures.by_text c.reserve.ensures.by_prefix) (plain_alike c.index_mut.result.now c.reserve.new.self c.reserve.ensures.by_text) c.reserve.ensures.endpoints c.reserve.ensures.kept)

pub returns-clause-room : goal.returns-clause-room
returns-clause-room c =
    on_ok_weaker c.reserve.result
    (λ some. subst (λ ns. 0 < (endpoints_of (slice_set ns c.args.at c.reserve.new.self) c.args.ending.rest c.args.ending.exception c.args.at).room) (sym c.self.view_is)
    (subst (λ (r : Roomy ℕ). 0 < r.room) (sym (endpoints_set c.args.self.now c.args.at c.reserve.new.self c.requires c.args.ending.rest c.args.ending.exception)) some))
    c.reserve.ensures.room

pub returns-clause-places : goal.returns-clause-places
returns-clause-places c = λ levels.
    let node = read c.self.inside.nodes.items c.args.self.now c.args.at c.index_mut.result.now c.self.view_is c.requires c.index_mut.ensures.value in
    rw c.self.view_is
    (places c.args.self.now (subst IsTree c.self.view_is c.self.invariant) c.args.at c.index_mut.result.now c.reserve.new.self c.requires node (alike c.index_mut.result.now c.reserve.new.self c.reserve.ensures.by_text c.reserve.ensures.by_prefix) (plain_alike c.index_mut.result.now c.reserve.new.self c.reserve.ensures.by_text) levels)
