use Rattle.sp_selector.proofs.Quotes.{ReadSoFar}
use Rattle.sp_selector.proofs.scan.quoted.Given as goal

abbrev pub invariant-loop-at : goal.invariant-loop-at
invariant-loop-at l = ReadSoFar l.text l.content.items l.at l.after_quote
