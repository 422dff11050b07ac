use Rattle.std.proofs.Common.{◌≡◌, ◌==◌, ◌&&◌, ◌||◌, ℕ, List, take}
use Rattle.sp_topic.specs.Subscriptions.{has_text}
use Rattle.sp_tree.specs.Tree.{has_pair}
use Rattle.sp_endpoint.proofs.renewal.put_in.Given as goal

abbrev pub invariant-loop-subscription : goal.invariant-loop-subscription
invariant-loop-subscription l =
    (n : ℕ) (text : List ℕ) → has_pair l.tree n text
    ≡ (has_pair l.initial.tree n text || (l.number == n && has_text (take l.subscription-index l.come) text))
