use Rattle.std.proofs.Common.{◌≡◌, length}
use Rattle.sp_selector.specs.Parser.{texts_of}
use Rattle.sp_selector.proofs.ListReading.{with_front}
use Rattle.sp_selector.proofs.follow.texts.Given as goal

abbrev pub invariant-loop-text : goal.invariant-loop-text
invariant-loop-text l = with_front l.items.items (texts_of l.rest) ≡ texts_of l.tokens

abbrev pub decreases-loop-text : goal.decreases-loop-text
decreases-loop-text l = length l.rest
