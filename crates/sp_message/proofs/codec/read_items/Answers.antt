use Rattle.std.proofs.Common.{◌≡◌, ◌++◌, ◌∷◌, []}
use Rattle.std.proofs.lemmas.Result.{err_from_is_err_and}
use Rattle.sp_message.specs.Decoding.{items_at}
use Rattle.sp_message.proofs.OneByOne.{goes_on, ends, is_done}
use Rattle.sp_message.proofs.codec.read_items.Goals as goal

pub returns-in_err-item : goal.returns-in_err-item
returns-in_err-item g c =
    let at = g.C.Codec.read_at in
    let p = err_from_is_err_and c.from_residual.result c.from_residual.ensures.1 in
    rw (p.1, p.2) (ends at c.in_err-item.field-0.0 c.loop.items.items c.args.count c.loop.counter c.loop.rest.now (items_at at c.args.count c.args.bytes.now) c.loop-test.true c.in_err-item.ensures c.loop.invariant)

pub loop-preserved : goal.loop-preserved
loop-preserved g c =
    let at = g.C.Codec.read_at in
    let x = c.in_ok-item.item in
    let e : c.push.new.self.items ≡ c.loop.items.items ++ x ∷ [] = c.in_ok-push.ensures.items in
    rw e (goes_on at c.loop.items.items c.args.count c.loop.counter c.loop.rest.now x c.in_ok-item.after.now (items_at at c.args.count c.args.bytes.now) c.loop-test.true c.in_ok-item.ensures c.loop.invariant)

pub returns : goal.returns
returns g c = is_done g.C.Codec.read_at c.loop.items.items c.args.count c.loop.counter c.loop.rest.now (items_at g.C.Codec.read_at c.args.count c.args.bytes.now) c.loop-test.false c.loop.invariant
