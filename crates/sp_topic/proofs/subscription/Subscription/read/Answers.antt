use Rattle.sp_topic.proofs.subscription.Subscription.read.Goals as goal

pub returns-in-Some-clause-bad : goal.returns-in-Some-clause-bad
returns-in-Some-clause-bad c = λ at. rw c.in-Some.ensures.exception (c.read_exception.ensures.bad at)
