use Rattle.std.proofs.Common.{◌≡◌, ◌+◌, drop, false}
use Rattle.sp_selector.specs.Limit.{allowed}
use Rattle.sp_selector.proofs.scanned.allowed.Given as goal

abbrev pub invariant-loop-index : goal.invariant-loop-index
invariant-loop-index l = l.index + allowed l.left l.after_in (drop l.index l.tokens) ≡ allowed l.most false l.tokens
