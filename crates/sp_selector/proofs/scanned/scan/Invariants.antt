use Rattle.sp_selector.proofs.Scans.{ScannedSoFar}
use Rattle.sp_selector.proofs.scanned.scan.Given as goal

abbrev pub invariant-loop-at : goal.invariant-loop-at
invariant-loop-at l = ScannedSoFar l.text l.tokens.items l.places.items l.skip l.at
