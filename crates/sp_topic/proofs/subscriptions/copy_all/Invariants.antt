use Rattle.std.proofs.Common.{◌≡◌, take}
use Rattle.sp_topic.proofs.subscriptions.copy_all.Given as goal

abbrev pub invariant-loop-subscription : goal.invariant-loop-subscription
invariant-loop-subscription l = l.copies.items ≡ take l.subscription-index l.rows
