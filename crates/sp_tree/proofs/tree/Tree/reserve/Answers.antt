use Rattle.std.proofs.Common.{◌≡◌, ◌∙◌, ◌<◌, sym, ap, subst, arith, Some, length}
use Rattle.std.proofs.lemmas.Result.{on_ok_weaker}
use Rattle.sp_tree.specs.Nodes.{HoldsSame, place, root}
use Rattle.sp_tree.specs.Path.{steps}
use Rattle.sp_base.specs.Topic.{levels}
use Rattle.sp_topic.specs.Subscription.{topic_of}
use Rattle.sp_tree.proofs.Ends.{grown_same, grown_root, made_room, room_kept, same_after, same_pairs}
use Rattle.sp_tree.proofs.tree.Tree.reserve.Goals as goal

pub returns-in_err-root-clause-pairs : goal.returns-in_err-root-clause-pairs
returns-in_err-root-clause-pairs c = same_pairs c.args.self.now c.root_or_new.new.self c.root_or_new.ensures.held

pub returns-in_err-root-clause-kept : goal.returns-in_err-root-clause-kept
returns-in_err-root-clause-kept c = room_kept c.args.self.now c.root_or_new.new.self c.root_or_new.ensures.held

pub returns-in_err-end-clause-pairs : goal.returns-in_err-end-clause-pairs
returns-in_err-end-clause-pairs c =
    same_pairs c.args.self.now c.grow.new.self
    (same_after c.args.self.now c.root_or_new.new.self c.grow.new.self c.root_or_new.ensures.held
    (grown_same c.root_or_new.new.self c.grow.new.self (omega (arith, c.in_ok-root.ensures.within)) c.grow.ensures.grows))

pub returns-in_err-end-clause-kept : goal.returns-in_err-end-clause-kept
returns-in_err-end-clause-kept c =
    room_kept c.args.self.now c.grow.new.self
    (same_after c.args.self.now c.root_or_new.new.self c.grow.new.self c.root_or_new.ensures.held
    (grown_same c.root_or_new.new.self c.grow.new.self (omega (arith, c.in_ok-root.ensures.within)) c.grow.ensures.grows))

pub returns-clause-pairs : goal.returns-clause-pairs
returns-clause-pairs c =
    same_pairs c.args.self.now c.make_room.new.self
    (same_after c.args.self.now c.grow.new.self c.make_room.new.self
    (same_after c.args.self.now c.root_or_new.new.self c.grow.new.self c.root_or_new.ensures.held
    (grown_same c.root_or_new.new.self c.grow.new.self (omega (arith, c.in_ok-root.ensures.within)) c.grow.ensures.grows))
    c.make_room.ensures.held)

pub returns-clause-room : goal.returns-clause-room
returns-clause-room c =
    let leads = grown_root c.root_or_new.new.self c.grow.new.self c.in_ok-root.root c.in_ok-root.ensures.root c.in_ok-root.ensures.within c.grow.ensures.grows in
    on_ok_weaker c.make_room.result
    (λ some. made_room c.make_room.new.self c.args.subscription.now c.in_ok-end.end c.of.result
    (c.make_room.ensures.places (steps (levels (topic_of c.args.subscription.now))) ∙ ap (λ o. place c.grow.new.self o (steps (levels (topic_of c.args.subscription.now)))) leads ∙ (λ i. place c.grow.new.self (Some c.in_ok-root.root) (steps (levels (sym c.topic.ensures i)))) ∙ c.in_ok-end.ensures.place)
    c.of.ensures.rest c.of.ensures.exception some)
    c.make_room.ensures.room

pub returns-clause-kept : goal.returns-clause-kept
returns-clause-kept c =
    room_kept c.args.self.now c.make_room.new.self
    (same_after c.args.self.now c.grow.new.self c.make_room.new.self
    (same_after c.args.self.now c.root_or_new.new.self c.grow.new.self c.root_or_new.ensures.held
    (grown_same c.root_or_new.new.self c.grow.new.self (omega (arith, c.in_ok-root.ensures.within)) c.grow.ensures.grows))
    c.make_room.ensures.held)
