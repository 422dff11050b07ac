use Rattle.sp_copies.specs.declared.closed.Cause.TheVariants.{Deleted}
use Rattle.sp_copies.specs.declared.closed.Closing.TheVariants.{Discarded}
use Rattle.sp_copies.specs.declared.made.MadeCopy.{MadeCopy}
use Rattle.sp_event.specs.declared.answer.Reply.TheVariants as replies
use Rattle.sp_plan.proofs.EachChange.{each_change}
use Rattle.sp_plan.specs.Plan.{changes_of}
use Rattle.sp_plan.specs.declared.change.Change.TheVariants.{Closes}
use Rattle.std.proofs.Common.{ap, ◌∙◌}
use Rattle.sp_ending.proofs.plans.delete_plan.Goals as goal

pub returns : goal.returns
returns c =
    let changes = ap changes_of c.in_ok-changes.ensures
    ∙ each_change {X = MadeCopy} (λ d. Closes d.number (Discarded Deleted)) c.args.deleted.now in
    let told = c.from_vec.ensures ∙ c.in_ok-deletions_told.ensures in
    λ i. record { changes = changes i; reply = replies.DeleteCopies (c.in_ok-copy.ensures i) (told i) }
