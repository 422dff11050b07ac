use Rattle.sp_core.proofs.Plans.{bind_planned, bind_refused}
use Rattle.std.proofs.Common.{ap, sym, ◌∙◌}
use Rattle.std.specs.Option.{option_copied}
use Rattle.sp_core.proofs.state.Core.decide_bind.Goals as goal

pub returns-in-Some-bind_refusal : goal.returns-in-Some-bind_refusal
returns-in-Some-bind_refusal c L s =
    bind_refused L c.args.caller.now c.args.name.now c.args.selector.now c.args.topic.now c.in-Some.endpoint.now c.in_ok-bound.bound c.in-Some-bind_refusal.refusal
    (sym c.is_exception.ensures ∙ c.if-is_exception.false)
    (sym (ap option_copied c.in-Some.is) ∙ c.find.ensures L s)
    c.in_ok-bound.ensures
    (sym c.in-Some-bind_refusal.is ∙ c.bind_refusal.ensures L s)

pub returns-in_ok-bind_plan-in-None : goal.returns-in_ok-bind_plan-in-None
returns-in_ok-bind_plan-in-None c L s =
    bind_planned L c.args.caller.now c.args.name.now c.args.selector.now c.args.topic.now c.in-Some.endpoint.now c.in_ok-bound.bound c.in_ok-bind_plan-in-None.field-0
    (sym c.is_exception.ensures ∙ c.if-is_exception.false)
    (sym (ap option_copied c.in-Some.is) ∙ c.find.ensures L s)
    c.in_ok-bound.ensures
    (sym c.in-None.is ∙ c.bind_refusal.ensures L s)
    (c.in_ok-bind_plan-in-None.ensures L s)
