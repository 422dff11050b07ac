use Rattle.std.proofs.Common.{◌<◌, ◌∙◌, length, ap, arith, sym}
use Rattle.sp_replaylog.specs.declared.entry.Entry.{Entry}
use Rattle.sp_replaylog.proofs.Order.{all_below, gone_by, placed_at}
use Rattle.sp_replaylog.proofs.look.searched_place.Goals as goal

pub returns-then-place-len : goal.returns-then-place-len
returns-then-place-len c =
    let long = c.args.queue.now.ok.0 in
    all_below (λ (e : Entry). e.number) c.args.number c.args.queue.now.items c.numbers_below-place.result (omega (arith, c.if-place-len.true, c.len.ensures, long)) c.numbers_below-place.ensures.parted

pub returns-then-value : goal.returns-then-value
returns-then-value c =
    let long = c.args.queue.now.ok.0 in
    let within : c.numbers_below-place.result < length c.args.queue.now.items = omega (arith, long) in
    let here = ap (λ (e : Entry). e.number) c.index.ensures in
    gone_by (λ (e : Entry). e.number) c.args.number c.args.queue.now.items c.numbers_below-place.result c.index.result.now within c.requires c.numbers_below-place.ensures.parted
    (λ same. c.if-value.true (c.value.ensures.value ∙ here ∙ same ∙ sym c.value-2.ensures.value))

pub returns : goal.returns
returns c =
    let long = c.args.queue.now.ok.0 in
    let within : c.numbers_below-place.result < length c.args.queue.now.items = omega (arith, long) in
    let here = ap (λ (e : Entry). e.number) c.index.ensures in
    placed_at (λ (e : Entry). e.number) c.args.number c.args.queue.now.items c.numbers_below-place.result c.index.result.now within c.numbers_below-place.ensures.parted
    (sym here ∙ sym c.value.ensures.value ∙ c.if-value.false ∙ c.value-2.ensures.value)
