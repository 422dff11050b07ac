use Rattle.std.proofs.Common.{◌+◌, refl, sym, subst, arith, false, get_or}
use Rattle.sp_selector.proofs.Quotes.{ReadSoFar, nothing_read, a_quote, a_byte, two_quotes}
use Rattle.sp_selector.proofs.scan.quoted.Goals as goal

pub loop-at-init : goal.loop-at-init
loop-at-init c = nothing_read c.args.text.now c.new-content.result.items c.new-content.ensures.items

pub loop-at-preserved-then-not-after_quote : goal.loop-at-preserved-then-not-after_quote
loop-at-preserved-then-not-after_quote c =
    a_quote c.args.text.now c.loop-at.content.items c.loop-at.at (get_or c.args.text.now c.loop-at.at 0) (omega arith) refl c.if-b-eq39.true
    (subst (ReadSoFar c.args.text.now c.loop-at.content.items c.loop-at.at) c.if-not-after_quote.true c.loop-at.invariant)

pub loop-at-preserved-then-b-eq39 : goal.loop-at-preserved-then-b-eq39
loop-at-preserved-then-b-eq39 c =
    subst (λ items. ReadSoFar c.args.text.now items (c.loop-at.at + 1) false) (sym c.in_ok-push.ensures.items)
    (two_quotes c.args.text.now c.loop-at.content.items c.loop-at.at (get_or c.args.text.now c.loop-at.at 0) (omega arith) refl c.if-b-eq39.true
    (subst (ReadSoFar c.args.text.now c.loop-at.content.items c.loop-at.at) c.if-not-after_quote.false c.loop-at.invariant))

pub loop-at-preserved : goal.loop-at-preserved
loop-at-preserved c =
    subst (ReadSoFar c.args.text.now c.push-in-loop-at.new.self.items (c.loop-at.at + 1)) (sym c.if-after_quote.false)
    (subst (λ items. ReadSoFar c.args.text.now items (c.loop-at.at + 1) false) (sym c.in_ok-push-2.ensures.items)
    (a_byte c.args.text.now c.loop-at.content.items c.loop-at.at (get_or c.args.text.now c.loop-at.at 0) (omega arith) refl c.if-b-eq39.false
    (subst (ReadSoFar c.args.text.now c.loop-at.content.items c.loop-at.at) c.if-after_quote.false c.loop-at.invariant)))
