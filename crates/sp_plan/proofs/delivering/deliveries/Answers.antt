use Rattle.std.proofs.Common.{[], ◌++◌, List, take, sym, ap, ◌∙◌}
use Rattle.std.specs.List.{cons_option}
use Rattle.std.specs.Prelude.{option_map, Option}
use Rattle.sp_copies.specs.declared.made.MadeCopy.{MadeCopy}
use Rattle.sp_event.specs.declared.answer.Delivery.{Delivery}
use Rattle.sp_ledger.specs.Ledger.{message_of}
use Rattle.sp_ledger.specs.OnFlows.{delivered, deliveries}
use Rattle.sp_plan.proofs.Delivered.{deliveries_more}
use Rattle.sp_plan.proofs.delivering.deliveries.Goals as goal

pub loop-copy-preserved : goal.loop-copy-preserved
loop-copy-preserved c L r m =
    let i = c.loop-copy.copy-index in
    let copy : MadeCopy = c.copy-item.result in
    c.in_ok-push_some.ensures
    ∙ (ap (λ (ds : List Delivery). ds ++ cons_option c.in_ok-delivery_of.field-0 []) (c.loop-copy.invariant L r m)
    ∙ (ap (λ (d : Option Delivery). deliveries L (take i c.args.copies.now) ++ cons_option d []) (c.in_ok-delivery_of.ensures L r m)
    ∙ (ap (λ (x : MadeCopy). deliveries L (take i c.args.copies.now)
    ++ cons_option (option_map (delivered L x) (message_of L.messages x.message)) []) c.copy-item.is
    ∙ sym (deliveries_more L c.args.copies.now i copy c.loop-copy-test.true))))
