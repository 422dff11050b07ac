use Rattle.sp_base.specs.Declined.{Obeys}
use Rattle.sp_core.specs.Decided.{verdict}
use Rattle.sp_event.specs.declared.request.Event.{Event}
use Rattle.sp_ledger.specs.Events.{step}
use Rattle.sp_ledger.specs.Step.{begun}
use Rattle.std.proofs.Common.{subst, sym}
use Rattle.sp_core.proofs.state.Core.decide.Goals as goal

pub returns-in-DeleteCopies : goal.returns-in-DeleteCopies
returns-in-DeleteCopies c L s =
    subst (λ (e : Event). Obeys (verdict L (step c.args.caller.now e (begun c.args.moment L))) c.decide_delete.result)
    (sym c.in-DeleteCopies.is) (c.decide_delete.ensures L c.args.moment s)
