use Rattle.std.proofs.Common.{rules, ◌≡◌, ◌∙◌, ◌<◌, ◌+◌, ℕ, length, take, suc, sym, ap, subst, arith, Some, None, true, false}
use Rattle.std.specs.Prelude.{IfSome}
use Rattle.sp_tree.specs.Nodes.{IsTree}
use Rattle.sp_tree.proofs.Changes.{read}
use Rattle.sp_tree.proofs.Collects.{collected_all, collected_here, collected_prefix, collected_text, endpoints_read, length_left, less_left, prefix_inside, prefix_read, text_inside, text_read}
use Rattle.sp_tree.proofs.tree.Tree.+collect.Goals as goal

pub returns-in_default-topic : goal.returns-in_default-topic
returns-in_default-topic t c = λ e.
    let node = read c.self.inside.nodes.items c.args.self.now c.in-Some.at c.index-node.result.now c.self.view_is (rw c.in-Some.is at c.requires) c.index-node.ensures in
    collected_here c.args.self.now c.args.exception e c.args.from c.in-Some.at c.args.topic c.args.into.now.items c.extend_from_slice.new.self.items c.endpoints.result.now c.in-Some.is c.in_default-topic.is c.in_ok-extend_from_slice.ensures.items
    (c.endpoints.ensures ∙ ap (λ r. r.items) (sym (endpoints_read c.args.self.now c.in-Some.at c.index-node.result.now false c.args.exception node)))

pub collect-requires : goal.collect-requires
collect-requires t c =
    let node = read c.self.inside.nodes.items c.args.self.now c.in-Some.at c.index-node.result.now c.self.view_is (rw c.in-Some.is at c.requires) c.index-node.ensures in
    let within : IfSome c.get.result (λ at. at < length c.args.self.now) = text_inside c.args.self.now (subst IsTree c.self.view_is c.self.invariant) c.in-Some.at c.cut_level-cut.result.level.now c.get.result (c.get.ensures ∙ sym (text_read c.args.self.now c.in-Some.at c.index-node.result.now c.cut_level-cut.result.level.now node)) in
    let less : length_left c.cut_level-cut.result.rest < length_left c.args.topic = less_left c.args.topic c.cut_level-cut.result.rest c.in-Some-topic.text c.in-Some-topic.is c.cut_level-cut.ensures.shorter in
    (search (rules, less), within)

pub loop-len-init : goal.loop-len-init
loop-len-init t c = λ e.
    let node = read c.self.inside.nodes.items c.args.self.now c.in-Some.at c.index-node.result.now c.self.view_is (rw c.in-Some.is at c.requires) c.index-node.ensures in
    collected_text c.args.self.now c.args.exception e c.in-Some.at c.cut_level-cut.result.level.now c.cut_level-cut.result.rest c.get.result c.args.into.now.items c.extend_from_slice-2.new.self.items c.collect.new.into.items c.endpoints-2.result.now
    c.in_ok-extend_from_slice-2.ensures.items
    (c.endpoints-2.ensures ∙ ap (λ r. r.items) (sym (endpoints_read c.args.self.now c.in-Some.at c.index-node.result.now true c.args.exception node)))
    (c.get.ensures ∙ sym (text_read c.args.self.now c.in-Some.at c.index-node.result.now c.cut_level-cut.result.level.now node))
    (c.in_ok-collect.ensures e)

pub collect-requires-in-loop-len : goal.collect-requires-in-loop-len
collect-requires-in-loop-len t c =
    let node = read c.self.inside.nodes.items c.args.self.now c.in-Some.at c.index-node.result.now c.self.view_is (rw c.in-Some.is at c.requires) c.index-node.ensures in
    let within : IfSome c.get-child.result (λ at. at < length c.args.self.now) = prefix_inside c.args.self.now (subst IsTree c.self.view_is c.self.invariant) c.in-Some.at (take c.loop-len.len c.cut_level-cut.result.level.now) c.get-child.result (c.get-child.ensures ∙ sym (prefix_read c.args.self.now c.in-Some.at c.index-node.result.now (take c.loop-len.len c.cut_level-cut.result.level.now) node)) in
    let less : length_left c.cut_level-cut.result.rest < length_left c.args.topic = less_left c.args.topic c.cut_level-cut.result.rest c.in-Some-topic.text c.in-Some-topic.is c.cut_level-cut.ensures.shorter in
    (omega (arith, less, c.decreases), within)

pub loop-len-preserved : goal.loop-len-preserved
loop-len-preserved t c = λ e.
    let node = read c.self.inside.nodes.items c.args.self.now c.in-Some.at c.index-node.result.now c.self.view_is (rw c.in-Some.is at c.requires) c.index-node.ensures in
    collected_prefix c.args.self.now c.args.exception e c.in-Some.at c.cut_level-cut.result.level.now c.cut_level-cut.result.rest c.get-child.result c.args.into.now.items c.loop-len.into.items c.collect-in-loop-len.new.into.items c.loop-len.len (c.loop-len.len + 1) (omega arith)
    (c.get-child.ensures ∙ sym (prefix_read c.args.self.now c.in-Some.at c.index-node.result.now (take c.loop-len.len c.cut_level-cut.result.level.now) node))
    (c.loop-len.invariant e) (c.in_ok-collect-2.ensures e)

pub returns : goal.returns
returns t c = λ e.
    collected_all c.args.self.now c.args.exception e c.args.from c.in-Some.at c.args.topic c.in-Some-topic.text c.cut_level-cut.result.level.now c.cut_level-cut.result.rest c.args.into.now.items c.loop-len.into.items c.loop-len.len c.in-Some.is c.in-Some-topic.is c.cut_level-cut.ensures.levels
    (omega (arith, c.loop-len-test.false, c.loop-len.auto.len-end)) (c.loop-len.invariant e)
