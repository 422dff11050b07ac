use Rattle.std.proofs.Common.{◌≡◌, ◌==◌, ◌&&◌, not, ℕ, List, take}
use Rattle.sp_topic.specs.Subscriptions.{has_text}
use Rattle.sp_tree.specs.Tree.{has_pair}
use Rattle.sp_endpoint.proofs.renewal.take_out.Given as goal

abbrev pub invariant-loop-subscription : goal.invariant-loop-subscription
invariant-loop-subscription l =
    (n : ℕ) (text : List ℕ) → has_pair l.tree n text
    ≡ (has_pair l.initial.tree n text && not
    (n == l.number && (has_text (take l.subscription-index l.gone) text && not (has_text l.kept text))))
