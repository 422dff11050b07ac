use Rattle.std.proofs.Common.{rules, ◌≡◌, ◌∙◌, ◌<◌, ℕ, length, sym, ap, subst, Some, None, Option}
use Rattle.std.specs.Prelude.{IfSome}
use Rattle.sp_tree.specs.Node.{child_at}
use Rattle.sp_tree.specs.Nodes.{IsTree, next, place}
use Rattle.sp_tree.specs.Path.{steps}
use Rattle.sp_tree.proofs.Changes.{Rest, child_inside, follow_on, next_read, place_end, read}
use Rattle.sp_tree.proofs.tree.Tree.+follow.Goals as goal

pub follow-requires : goal.follow-requires
follow-requires t c =
    let at = read c.self.inside.nodes.items c.args.self.now c.in_ok-from.field-0 c.index.result.now c.self.view_is (rw c.in_ok-from.was at c.requires) c.index.ensures in
    let led = c.child-child.ensures ∙ sym (next_read c.args.self.now c.in_ok-from.field-0 c.index.result.now c.cut_level-cut.result.level.now at) in
    let within : IfSome c.child-child.result (λ at. at < length c.args.self.now) = child_inside c.args.self.now (subst IsTree c.self.view_is c.self.invariant) c.in_ok-from.field-0 c.cut_level-cut.result.level.now c.child-child.result led in
    (search rules, within)

pub returns-in-None-clause-value : goal.returns-in-None-clause-value
returns-in-None-clause-value t c =
    let at = read c.self.inside.nodes.items c.args.self.now c.in_ok-from.field-0 c.index.result.now c.self.view_is (rw c.in_ok-from.was at c.requires) c.index.ensures in
    let led = c.child-child.ensures ∙ sym (next_read c.args.self.now c.in_ok-from.field-0 c.index.result.now c.cut_level-cut.result.level.now at) in
    led ∙ sym (place_end c.args.self.now _)
    ∙ (λ i. place c.args.self.now (next c.args.self.now c.in_ok-from.field-0 c.cut_level-cut.result.level.now) (steps (Rest (sym c.in-None.is i))))
    ∙ sym (follow_on c.args.self.now c.args.from c.in_ok-from.field-0 _ c.cut_level-cut.result.level.now c.cut_level-cut.result.rest c.in_ok-from.was c.cut_level-cut.ensures.levels (sym c.is_rest.ensures ∙ c.if-is_rest.false))

pub returns-in-None-clause-within : goal.returns-in-None-clause-within
returns-in-None-clause-within t c =
    let at = read c.self.inside.nodes.items c.args.self.now c.in_ok-from.field-0 c.index.result.now c.self.view_is (rw c.in_ok-from.was at c.requires) c.index.ensures in
    let led = c.child-child.ensures ∙ sym (next_read c.args.self.now c.in_ok-from.field-0 c.index.result.now c.cut_level-cut.result.level.now at) in
    child_inside c.args.self.now (subst IsTree c.self.view_is c.self.invariant) c.in_ok-from.field-0 c.cut_level-cut.result.level.now c.child-child.result led

pub returns-in-Some-clause-value : goal.returns-in-Some-clause-value
returns-in-Some-clause-value t c =
    let at = read c.self.inside.nodes.items c.args.self.now c.in_ok-from.field-0 c.index.result.now c.self.view_is (rw c.in_ok-from.was at c.requires) c.index.ensures in
    let led = c.child-child.ensures ∙ sym (next_read c.args.self.now c.in_ok-from.field-0 c.index.result.now c.cut_level-cut.result.level.now at) in
    c.follow.ensures.value
    ∙ (λ i. place c.args.self.now (led i) (steps (Rest (sym c.in-Some.is i))))
    ∙ sym (follow_on c.args.self.now c.args.from c.in_ok-from.field-0 _ c.cut_level-cut.result.level.now c.cut_level-cut.result.rest c.in_ok-from.was c.cut_level-cut.ensures.levels (sym c.is_rest.ensures ∙ c.if-is_rest.false))
