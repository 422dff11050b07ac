use Rattle.std.proofs.Common.{◌≡◌, ◌∙◌, sym, ap}
use Rattle.std.specs.Prelude.{nat_lt}
use Rattle.sp_tree.proofs.Changes.{read}
use Rattle.sp_tree.proofs.Ends.{holders_at, holders_none, room_at}
use Rattle.sp_tree.proofs.tree.Tree.has_room.Goals as goal

pub returns-in-Some : goal.returns-in-Some
returns-in-Some c =
    let node = read c.self.inside.nodes.items c.args.self.now c.in-Some.at c.index.result.now c.self.view_is c.in-Some.ensures.within c.index.ensures in
    ap (nat_lt 0) c.room.ensures
    ∙ sym (room_at c.args.self.now c.args.subscription.now _ (holders_at c.args.self.now c.args.subscription.now c.in-Some.at c.index.result.now c.of.result c.in-Some.ensures.value node c.of.ensures.rest c.of.ensures.exception))

pub returns-in-None : goal.returns-in-None
returns-in-None c = sym (room_at c.args.self.now c.args.subscription.now _ (holders_none c.args.self.now c.args.subscription.now c.in-None.ensures.value))
