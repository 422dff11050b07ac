use Rattle.std.proofs.Common.{◌∙◌, arith, refl}
use Rattle.sp_store.proofs.Receipts.{carried, received}
use Rattle.sp_store.proofs.put.finish.Goals as goal

pub of-requires : goal.of-requires
of-requires c =
    let p = c.requires.prepared in
    let s = c.requires.stands in
    let M = carried _ s.0 c.apply-replies.new.self c.apply-replies.result.items (c.apply-replies.ensures p.0 p.1 p.2 s.0 s.1) in
    let count = c.units.ensures M.0 M.1 in
    let most = M.1.ledger.unit in
    (omega arith, omega (arith, count, most))

pub returns : goal.returns
returns c caller event p L s unit units =
    received c.apply-replies.new.self unit units L _ c.apply-replies.result.items _ (c.apply-replies.ensures caller event p L s)
    (c.idle-idle.ensures c.args.core.now caller event p L s) refl (λ M stands. c.of.ensures ∙ c.units.ensures M stands)
