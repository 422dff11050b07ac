use Rattle.std.proofs.Common.{◌∙◌, sym, arith}
use Rattle.sp_selector.proofs.Scans.{nothing_scanned, skipped, separated}
use Rattle.sp_selector.proofs.scanned.scan.Goals as goal

pub loop-at-init : goal.loop-at-init
loop-at-init c = nothing_scanned c.args.text.now c.new-tokens.result.items c.new-places.result.items c.new-tokens.ensures.items c.new-places.ensures.items

pub loop-at-preserved-then-skip-gt0 : goal.loop-at-preserved-then-skip-gt0
loop-at-preserved-then-skip-gt0 c = skipped c.args.text.now c.loop-at.tokens.items c.loop-at.places.items c.loop-at.skip c.loop-at.at (omega arith) c.if-skip-gt0.true c.loop-at.invariant

pub loop-at-preserved-then-is_separator : goal.loop-at-preserved-then-is_separator
loop-at-preserved-then-is_separator c = separated c.args.text.now c.loop-at.tokens.items c.loop-at.places.items c.loop-at.skip c.loop-at.at (omega arith) (omega arith) (sym c.if-is_separator.true ∙ c.is_separator.ensures) c.loop-at.invariant
