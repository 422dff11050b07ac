use Rattle.std.proofs.Common.{◌≡◌, ◌≤◌, ◌+◌, ◌*◌}
use Rattle.sp_selector.specs.Parser.{Chain_after, reads}
use Rattle.sp_selector.specs.Tree.{expression}
use Rattle.sp_selector.proofs.parse.+parse.Given as goal

abbrev pub decreases-chained : goal.decreases-chained
decreases-chained l = 2 * l.room

abbrev pub decreases-operand : goal.decreases-operand
decreases-operand l = 2 * l.room + 1

abbrev pub decreases-chain_after : goal.decreases-chain_after
decreases-chain_after l = 2 * l.room

abbrev pub decreases-negation : goal.decreases-negation
decreases-negation l = 2 * l.room

abbrev pub decreases-condition : goal.decreases-condition
decreases-condition l = 2 * l.room

abbrev pub decreases-condition_after : goal.decreases-condition_after
decreases-condition_after l = 2 * l.room

abbrev pub decreases-test : goal.decreases-test
decreases-test l = 2 * l.room

abbrev pub decreases-between : goal.decreases-between
decreases-between l = 2 * l.room + 1

abbrev pub decreases-factor : goal.decreases-factor
decreases-factor l = 2 * l.room

abbrev pub decreases-primary : goal.decreases-primary
decreases-primary l = 2 * l.room

abbrev pub decreases-parenthesis : goal.decreases-parenthesis
decreases-parenthesis l = 2 * l.room + 1

abbrev pub invariant-chain_after-loop-room : goal.invariant-chain_after-loop-room
invariant-chain_after-loop-room l = record {
  same : reads l.room (Chain_after l.chain (expression l.left)) l.tokens ≡ reads l.fn.room (Chain_after l.fn.chain (expression l.fn.left)) l.fn.tokens;
  less : l.room ≤ l.fn.room;
}

abbrev pub decreases-chain_after-loop-room : goal.decreases-chain_after-loop-room
decreases-chain_after-loop-room l = l.room
